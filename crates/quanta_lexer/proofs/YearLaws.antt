-- Days over years: what a year has by computation, what 400 have by computation of the first 400.
use Prim.Native.Nat.{ℕ, zero, suc, ◌+◌, ◌*◌, ◌%◌}
use mathlib.Core.Path.{◌≡◌, refl, ap}
use mathlib.Core.Bool.{Bool, true, false, cond}
use mathlib.Core.List.{List, [], ◌∷◌}
use native.Mathlib.Omega.{arith}
use lib.ListN.{get_or}
use Rattle.quanta_lexer.specs.Days.{leap_year, month_days}
use Rattle.quanta_lexer.specs.Years.{total, year_days, days_of, leaps_of}

-- the months of a leap year, and of another
abbrev row : Bool → List ℕ
row b = 0 ∷ 31 ∷ cond b 29 28 ∷ 31 ∷ 30 ∷ 31 ∷ 30 ∷ 31 ∷ 31 ∷ 30 ∷ 31 ∷ 30 ∷ 31 ∷ []

by_months : (b : Bool) → total (λ m. get_or (row b) m 0) 100 ≡ cond b 366 365
unfolding total
by_months true = refl
by_months false = refl

pub year_days_lem : (y : ℕ) → year_days y ≡ cond (leap_year y) 366 365
unfolding year_days month_days
year_days_lem y = by_months (leap_year y)

pub leap_again : (y : ℕ) → leap_year (y + 400) ≡ leap_year y
unfolding leap_year
leap_again y =
    let a : (y + 400) % 4 ≡ y % 4 = omega arith in
    let b : (y + 400) % 100 ≡ y % 100 = omega arith in
    let c : (y + 400) % 400 ≡ y % 400 = omega arith in
    rw (a, b, c)

-- n numbers from the next one on: without the first, with one more
shift : (f : ℕ → ℕ) (n y : ℕ) → total (λ k. f (suc y + k)) n + f y ≡ total (λ k. f (y + k)) n + f (y + n)
unfolding total
shift f zero y = let e : f y ≡ f (y + 0) = ap f (omega arith) in omega arith
shift f (suc n) y =
    let e : f (suc y + n) ≡ f (y + suc n) = ap f (omega arith) in
    omega (arith, shift f n y)

first_400 : leaps_of 400 0 ≡ 97
unfolding leaps_of total leap_year
first_400 = refl

pub leaps_400 : (y : ℕ) → leaps_of 400 y ≡ 97
unfolding leaps_of
leaps_400 zero = first_400
leaps_400 (suc y) =
    let f : ℕ → ℕ = λ k. cond (leap_year k) 1 0 in
    let e : f (y + 400) ≡ f y = ap (λ (b : Bool). cond b 1 0) (leap_again y) in
    omega (arith, leaps_400 y, shift f 400 y)

-- a year has 365 days, and a leap year one more
one_more : (b : Bool) → cond b 366 365 ≡ 365 + cond b 1 0
one_more true = refl
one_more false = refl

counted : (n y : ℕ) → days_of n y ≡ 365 * n + leaps_of n y
unfolding days_of leaps_of total
counted zero y = refl
counted (suc n) y = omega (arith, counted n y, year_days_lem (y + n), one_more (leap_year (y + n)))

pub days_400 : (y : ℕ) → days_of 400 y ≡ 146097
days_400 y = omega (arith, counted 400 y, leaps_400 y)
