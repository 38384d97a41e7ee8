use Rattle.quanta_token.proofs.RunLaws.{end_bounds}
use borrow.Author.Rules.{rules}
use Rattle.quanta_lexer.proofs.scan.Lexer.scan_word.Goals as goal

pub slice_bounds-word-count : goal.slice_bounds-word-count
slice_bounds-word-count c = let b = end_bounds _ _ _ _ c.requires c.run_end-end.ensures in search rules

pub slice_bounds-word-start : goal.slice_bounds-word-start
slice_bounds-word-start c = let b = end_bounds _ _ _ _ c.requires c.run_end-end.ensures in search rules

pub slice_bounds-word-end : goal.slice_bounds-word-end
slice_bounds-word-end c = let b = end_bounds _ _ _ _ c.requires c.run_end-end.ensures in search rules
