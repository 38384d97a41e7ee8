-- A list of numbers of which one at a time grows by one.
-- Assumes nothing.
use Rattle.std.proofs.Common.{◌≡◌, ℕ, zero, suc, ◌+◌, ◌≤◌, List, [], ◌∷◌, get_or, set, replicate, refl, arith}

pub none : (n k : ℕ) → ◌≡◌ {A = ℕ} (get_or (replicate n 0) k 0) 0
none zero k = refl
none (suc n) zero = refl
none (suc n) (suc k) = none n k

pub one_more : (l : List ℕ) (i k : ℕ) → get_or (set l i (get_or l i 0 + 1)) k 0 ≤ get_or l k 0 + 1
one_more [] i k = omega arith
one_more (x ∷ xs) zero zero = omega arith
one_more (x ∷ xs) zero (suc k) = omega arith
one_more (x ∷ xs) (suc i) zero = omega arith
one_more (x ∷ xs) (suc i) (suc k) = one_more xs i k
