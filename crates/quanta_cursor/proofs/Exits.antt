-- What a `?` hands on.
-- Assumes nothing.
use mathlib.Core.Path.{ap, sym, subst, ◌∙◌}
use Rattle.std.specs.Prelude.{◌≡◌, Result, Ok, Err, IsErrAnd}
use Rattle.std.proofs.lemmas.Result.{err_from_is_err_and}

-- the refusal that is handed on is the callee's
pub handed : {T E : Type 0} {e : E} {r : Result T E} → IsErrAnd r (λ y. y ≡ e) → r ≡ Err e
handed {r = r} h = let p = err_from_is_err_and r h in p.1 ∙ ap Err p.2

-- .. so what holds of the callee's holds of the answer
pub exits : {T E : Type 0} (P : Result T E → Type 0) {r : Result T E} {e : E} → IsErrAnd r (λ y. y ≡ e) → P (Err e) → P r
exits P h p = subst P (sym (handed h)) p

-- what the value in an `Ok` turned out to be
pub held : {T E : Type 0} {r : Result T E} {x y : T} → r ≡ Ok x → x ≡ y → r ≡ Ok y
held z e = z ∙ ap Ok e
