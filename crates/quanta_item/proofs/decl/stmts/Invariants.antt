-- `quanta_item::decl::stmts` meets its contract: what is under way at the start of its loop is under way at each turn.
-- Assumes nothing.
use Prim.Native.Nat.{◌-◌}
use Rattle.quanta_grammar.specs.Productions.{stmts}
use Rattle.quanta_cursor.specs.Tokens.{size}
use Rattle.quanta_cursor.proofs.Listing.{Rolling}
use Rattle.quanta_grammar.specs.Refine.{Text}
use Rattle.quanta_item.proofs.decl.stmts.Given as goal

abbrev pub invariant-loop-tree : goal.invariant-loop-tree
invariant-loop-tree l =
    (src : Text) → Rolling stmts src l.tokens l.allowance l.initial.at.0 l.initial.no.0 l.initial.count l.initial.tree
    l.at.0 l.no.0 l.count l.tree

abbrev pub decreases-loop-tree : goal.decreases-loop-tree
decreases-loop-tree l = size l.tokens - l.at.0
