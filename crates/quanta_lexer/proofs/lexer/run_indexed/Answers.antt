use mathlib.Core.Path.{sym}
use lib.Seq.{length-take-le}
use Rattle.quanta_lexer.proofs.lexer.run_indexed.Goals as goal

pub slice_bounds-lexer-end-2 : goal.slice_bounds-lexer-end-2
slice_bounds-lexer-end-2 c = sym (length-take-le _ _ c.index_words-n.ensures.0)
