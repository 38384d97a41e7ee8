-- `quanta_lexer_c::quanta_tokenize` meets its contract: the counts and offsets of an answer are small.
-- Assumes nothing.
use mathlib.Core.Path.{sym, ap, ◌∙◌}
use native.Mathlib.Omega.{arith}
use Rattle.std.specs.Prelude.{Err}
use Rattle.quanta_lexer.proofs.Theorems.{accepted_small, short_small, refusals_small}
use Rattle.quanta_lexer_c.proofs.quanta_tokenize.Goals as goal

pub overflow_cast-result : goal.overflow_cast-result
overflow_cast-result c =
    omega (arith, accepted_small _ _ _ _ _ (sym c.tokenize.ensures.answer ∙ c.in-Ok.is))

pub overflow_cast-result-in-Err-Refused : goal.overflow_cast-result-in-Err-Refused
overflow_cast-result-in-Err-Refused c =
    let e = c.in-Err-Refused.is ∙ ap Err c.in-Err-Refused.field-0-is in
    omega (arith, refusals_small _ _ _ _ _ _ _ (sym c.tokenize.ensures.answer ∙ e))

pub overflow_cast-result-in-Err-Refused-2 : goal.overflow_cast-result-in-Err-Refused-2
overflow_cast-result-in-Err-Refused-2 c =
    let e = c.in-Err-Refused.is ∙ ap Err c.in-Err-Refused.field-0-is in
    omega (arith, refusals_small _ _ _ _ _ _ _ (sym c.tokenize.ensures.answer ∙ e))

pub overflow_cast-result-in-Err-Short : goal.overflow_cast-result-in-Err-Short
overflow_cast-result-in-Err-Short c =
    let e = c.in-Err-Short.is ∙ ap Err c.in-Err-Short.field-0-is in
    omega (arith, short_small _ _ _ _ _ (sym c.tokenize.ensures.answer ∙ e))
