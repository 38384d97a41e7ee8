-- `quanta_cursor::parser::put` meets its contract.
-- Assumes nothing.
use borrow.Author.Tests.{lt-ltb, le-ltb}
use Rattle.quanta_cursor.specs.Tree.{put_rec}
use borrow.Author.Rules.{rules}
use Rattle.quanta_cursor.proofs.parser.put.Goals as goal

pub returns-then-n-tree : goal.returns-then-n-tree
unfolding put_rec
returns-then-n-tree c = (search rules, simp (le-ltb _ _ c.if-n-tree.true))

pub returns : goal.returns
unfolding put_rec
returns c = (search rules, simp (lt-ltb _ _ c.if-n-tree.false))
