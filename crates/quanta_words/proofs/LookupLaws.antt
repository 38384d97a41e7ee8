-- The laws of the sieve.
use Prim.Native.Nat.{ℕ, zero, suc, ◌+◌, ◌≤◌, ◌<◌}
use mathlib.Core.Path.{◌≡◌, ap, sym, ◌∙◌}
use mathlib.Core.List.{List, [], ◌∷◌}
use native.Mathlib.Omega.{arith}
use lib.ListN.{length, get_or, set}
use Rattle.quanta_words.specs.Words.{after_at, word_at, held_in}
use Rattle.quanta_words.specs.Lookup.{key_of}
use Rattle.quanta_words.proofs.WordLaws.{held_from, not_same, held_next}

-- where a 1 was stored, the entry is not 0; elsewhere it is what it was
stored : (f : List ℕ) (k j : ℕ) → k < length f → get_or (set f k 1) j 0 ≡ 0 → (j ≡ k → ⊥) × (get_or f j 0 ≡ 0)
stored [] k j h e = absurd (omega arith)
stored (x ∷ xs) zero zero h e = absurd (omega (arith, e))
stored (x ∷ xs) zero (suc j) h e = (λ q. omega (arith, q), e)
stored (x ∷ xs) (suc k) zero h e = (λ q. omega (arith, q), e)
stored (x ∷ xs) (suc k) (suc j) h e =
    let r = stored xs k j (omega arith) e in
    (λ q. r.0 (omega (arith, q)), r.1)

abbrev pub Sifted : List ℕ → List ℕ → ℕ → ℕ → Type 0
Sifted t f n i = (w : List ℕ) → get_or f (key_of w) 0 ≡ 0 → held_in t w ≡ held_from n t i w

pub sift_more :
    (n : ℕ) (t f : List ℕ) (i k : ℕ) →
    length t < n + i →
    i ≤ length t →
    after_at t i ≤ length t →
    k ≡ key_of (word_at t i) →
    k < length f →
    Sifted t f n i →
    (m : ℕ) × (length t < m + after_at t i) × Sifted t (set f k 1) m (after_at t i)
sift_more zero t f i k b l h e q g = absurd (omega arith)
sift_more (suc n) t f i k b l h e q g = (
  n,
  omega arith,
  λ w z.
      let r = stored f k (key_of w) q z in
      g w r.1 ∙ held_next n t i w h (not_same w (word_at t i) (λ x. r.0 (ap key_of x ∙ sym e))),
)
