-- `quanta_parser::program::imports` meets its contract: what is under way at the start of its loop is under way at each turn.
-- Assumes nothing.
use Prim.Native.Nat.{ℕ, ◌-◌}
use Rattle.quanta_grammar.specs.Productions.{imports}
use Rattle.quanta_cursor.specs.Tokens.{size}
use Rattle.quanta_parser.proofs.Running.{Rolling}
use Rattle.quanta_grammar.specs.Refine.{Text}
use Rattle.quanta_parser.proofs.program.imports.Given as goal

abbrev pub invariant-loop-span : goal.invariant-loop-span
invariant-loop-span l =
    (src : Text) (a : ℕ) → Rolling imports src l.tokens a l.initial.at.0 l.initial.no.0 l.initial.span l.initial.tree
    l.at.0 l.no.0 l.count l.span l.tree

abbrev pub decreases-loop-span : goal.decreases-loop-span
decreases-loop-span l = size l.tokens - l.at.0
