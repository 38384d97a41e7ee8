-- Whether two texts are the same: by their length, the first byte, and each byte.
-- Assumes nothing.
use mathlib.Core.Path.{◌≡◌, refl, ap, sym, ◌∙◌}
use mathlib.Core.Bool.{Bool, true, false, ◌&&◌}
use mathlib.Core.List.{List, [], ◌∷◌}
use Prim.Native.Nat.{ℕ, suc}
use native.Mathlib.Omega.{arith}
use lib.Dec.{eqb}
use lib.ListN.{length, get_or}
use borrow.Author.Tests.{ne_eqb}
use Rattle.quanta_token.specs.Text.{same}

-- the bytes of p stand in w from the place i on
abbrev pub bytes_at : List ℕ → ℕ → List ℕ → Bool
bytes_at w i [] = true
bytes_at w i (c ∷ p) = eqb (get_or w i 0) c && bytes_at w (suc i) p

step : (x : ℕ) (xs : List ℕ) (i : ℕ) (p : List ℕ) → bytes_at (x ∷ xs) (suc i) p ≡ bytes_at xs i p
step x xs i [] = refl
step x xs i (c ∷ p) = ap (λ (b : Bool). eqb (get_or xs i 0) c && b) (step x xs (suc i) p)

no_and : (a : Bool) → a && false ≡ false
no_and true = refl
no_and false = refl

-- of different length
pub same_short : (w p : List ℕ) → (length w ≡ length p → ⊥) → same w p ≡ false
unfolding same
same_short [] [] n = absurd (n refl)
same_short [] (y ∷ ys) n = refl
same_short (x ∷ xs) [] n = refl
same_short (x ∷ xs) (y ∷ ys) n =
    ap (λ (b : Bool). eqb x y && b) (same_short xs ys (λ z. n (ap suc z))) ∙ no_and (eqb x y)

-- with different first bytes
pub same_first : (w : List ℕ) (c : ℕ) (p : List ℕ) → (get_or w 0 0 ≡ c → ⊥) → same w (c ∷ p) ≡ false
unfolding same
same_first [] c p n = refl
same_first (x ∷ xs) c p n = ap (λ (b : Bool). b && same xs p) (ne_eqb x c n)

-- of one length
pub same_long : (w p : List ℕ) → length w ≡ length p → same w p ≡ bytes_at w 0 p
unfolding same
same_long [] [] e = refl
same_long [] (y ∷ ys) e = absurd (omega arith)
same_long (x ∷ xs) [] e = absurd (omega arith)
same_long (x ∷ xs) (y ∷ ys) e =
    ap (λ (b : Bool). eqb x y && b) (same_long xs ys (omega arith) ∙ sym (step x xs 0 ys))

pub ruleset same_laws = (same_short, same_first, same_long)
