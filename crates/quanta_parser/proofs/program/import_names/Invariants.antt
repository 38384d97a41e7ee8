-- `quanta_parser::program::import_names` meets its contract: what is under way at the start of its loop is under way at each turn.
-- Assumes nothing.
use Prim.Native.Nat.{ℕ, ◌-◌}
use Rattle.quanta_grammar.specs.Productions.{more_imports}
use Rattle.quanta_cursor.specs.Tokens.{size}
use Rattle.quanta_cursor.proofs.Lists.{Rolling}
use Rattle.quanta_parser.proofs.program.import_names.Given as goal

abbrev pub invariant-loop-tree : goal.invariant-loop-tree
invariant-loop-tree l =
    (a : ℕ) → Rolling more_imports l.tokens a l.initial.at.0 l.initial.no.0 l.initial.count l.initial.tree l.at.0
    l.no.0 l.count l.tree

abbrev pub decreases-loop-tree : goal.decreases-loop-tree
decreases-loop-tree l = size l.tokens - l.at.0
