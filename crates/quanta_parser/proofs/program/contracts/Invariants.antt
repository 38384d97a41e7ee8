-- `quanta_parser::program::contracts` meets its contract: what is under way at the start of its loop is under way at each turn.
-- Assumes nothing.
use Rattle.quanta_grammar.specs.Refine.{text}
use Prim.Native.Nat.{◌-◌}
use Rattle.quanta_grammar.specs.Productions.{contracts}
use Rattle.quanta_cursor.specs.Tokens.{size}
use Rattle.quanta_parser.proofs.Running.{Rolling}
use Rattle.quanta_parser.proofs.program.contracts.Given as goal

abbrev pub invariant-loop-span : goal.invariant-loop-span
invariant-loop-span l =
    Rolling contracts (text l.edition l.src) l.tokens l.allowance l.initial.at.0 l.initial.no.0 l.initial.span
    l.initial.tree l.at.0 l.no.0 l.count l.span l.tree

abbrev pub decreases-loop-span : goal.decreases-loop-span
decreases-loop-span l = size l.tokens - l.at.0
