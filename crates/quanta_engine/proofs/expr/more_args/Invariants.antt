-- `quanta_engine::expr::more_args` meets its contract. The invariant: the arguments so far, and the rest to come.
-- The measure: the tokens ahead.
-- Assumes nothing.
use Prim.Native.Nat.{◌-◌}
use Rattle.quanta_grammar.specs.Productions.{more_args}
use Rattle.quanta_cursor.specs.Tokens.{size}
use Rattle.quanta_cursor.proofs.Lists.{Rolling}
use Rattle.quanta_engine.proofs.expr.more_args.Given as goal

abbrev pub invariant-loop-at : goal.invariant-loop-at
invariant-loop-at l =
    Rolling more_args l.tokens l.allowance l.initial.at.0 l.initial.no.0 l.initial.count l.initial.tree l.at.0 l.no.0 l.count l.tree

abbrev pub decreases-loop-at : goal.decreases-loop-at
decreases-loop-at l = size l.tokens - l.at.0
