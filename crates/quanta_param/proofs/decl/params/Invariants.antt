-- `quanta_param::decl::params` meets its contract: one call reads each parameter, and at the head of the loop one is to
-- come.
-- Assumes nothing.
use Prim.Native.Nat.{◌-◌}
use Rattle.quanta_grammar.specs.Productions.{param, more_params}
use Rattle.quanta_grammar.specs.Refine.{text}
use Rattle.quanta_cursor.specs.Tokens.{size}
use Rattle.quanta_type.proofs.Arguments.{Awaits}
use Rattle.quanta_param.proofs.decl.params.Given as goal

abbrev pub invariant-loop-param : goal.invariant-loop-param
invariant-loop-param l =
    Awaits param more_params (text l.edition l.src) l.tokens l.allowance l.initial.at.0 l.initial.tree l.initial.no.0 l.at.0 l.no.0 l.count l.tree

abbrev pub decreases-loop-param : goal.decreases-loop-param
decreases-loop-param l = size l.tokens - l.at.0
