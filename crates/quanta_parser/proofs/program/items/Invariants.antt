-- `quanta_parser::program::items` meets its contract: what is under way at the start of its loop is under way at each turn.
-- Assumes nothing.
use Rattle.quanta_grammar.specs.Refine.{text}
use Prim.Native.Nat.{◌-◌}
use Rattle.quanta_grammar.specs.Productions.{items}
use Rattle.quanta_cursor.specs.Tokens.{size}
use Rattle.quanta_cursor.proofs.Listing.{Rolling}
use Rattle.quanta_parser.proofs.program.items.Given as goal

abbrev pub invariant-loop-edition : goal.invariant-loop-edition
invariant-loop-edition l =
    Rolling items (text l.edition l.src) l.tokens l.allowance l.initial.at.0 l.initial.no.0 l.initial.count
    l.initial.tree l.at.0 l.no.0 l.count l.tree

abbrev pub decreases-loop-edition : goal.decreases-loop-edition
decreases-loop-edition l = size l.tokens - l.at.0
