-- An even number of digits, taken so many times.
-- Assumes nothing.
use Rattle.std.specs.Option.{option_map}
use Rattle.std.proofs.Common.{ℕ, ◌*◌, ◌/◌, arith, sym, ap, ◌∙◌}
use Rattle.quanta_stored.proofs.Laws.{size_even, size_fits}
use Rattle.quanta_stored.proofs.line.size.Goals as goal

pub returns-in_err-times : goal.returns-in_err-times
returns-in_err-times c =
    c.from_residual.ensures
    ∙ ap (option_map (λ (t : ℕ). c.digits-n.result / 2 * t)) (sym c.in_err-times.was ∙ c.times.ensures)
    ∙ size_even _ _ c.digits-n.ensures.0 c.if-part-gt65535.false (sym c.is_dash.ensures ∙ c.if-is_dash.false)
    c.if-n-eq0.false c.if-n-ne0.false

pub overflow_mul-result : goal.overflow_mul-result
overflow_mul-result c = record { fits = size_fits c.digits-n.result c.in_ok-times.times (omega arith) (omega arith) }

pub returns : goal.returns
returns c =
    ap (option_map (λ (t : ℕ). c.digits-n.result / 2 * t)) (sym c.in_ok-times.was ∙ c.times.ensures)
    ∙ size_even _ _ c.digits-n.ensures.0 c.if-part-gt65535.false (sym c.is_dash.ensures ∙ c.if-is_dash.false)
    c.if-n-eq0.false c.if-n-ne0.false
