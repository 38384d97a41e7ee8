-- A search through an index of the word table, step by step as the code makes it; and what an index must do.
use Rattle.std.specs.Prelude.{ℕ, zero, suc, ◌+◌, ◌-◌, ◌/◌, ◌<◌, Bool, true, false, cond, List, [], ◌∷◌, ◌≡◌, length, get_or, eqb, ltb}
use Rattle.std.specs.declared.cmp.Ordering.{Ordering}
use Rattle.std.specs.declared.cmp.Ordering.TheVariants.{Less, Equal, Greater}
use Rattle.quanta_words.specs.Words.{after_at, word_at, held_in}

-- 0, 1 or 2: the first comes before the second, is it, comes after it
unfoldable pub order_of : List ℕ → List ℕ → ℕ
order_of [] [] = 1
order_of [] (y ∷ ys) = 0
order_of (x ∷ xs) [] = 2
order_of (x ∷ xs) (y ∷ ys) = cond (ltb x y) 0 (cond (ltb y x) 2 (order_of xs ys))

-- the ordering that such a number says
unfoldable pub ordering : ℕ → Ordering
ordering zero = Less
ordering (suc zero) = Equal
ordering (suc (suc n)) = Greater

-- a word against the word of the record at i
unfoldable pub order_at : List ℕ → ℕ → List ℕ → ℕ
order_at t i w = cond (ltb (length t) i) 2 (cond (ltb (length t) (after_at t i)) 2 (order_of w (word_at t i)))

-- halving the part from lo to hi
unfoldable pub probe_from : ℕ → List ℕ → List ℕ → List ℕ → ℕ → ℕ → Bool
probe_from zero t f w lo hi = false
probe_from (suc n) t f w lo hi =
    let mid = lo + (hi - lo) / 2 in
    let k = order_at t (get_or f mid 0) w in
    elim (ltb lo hi) [
      | true ↦ elim (eqb k 1) [ true ↦ true | false ↦ elim (eqb k 0) [ true ↦ probe_from n t f w lo mid | false ↦ probe_from n t f w (mid + 1) hi ] ]
      | false ↦ false
    ]

unfoldable pub probe_of : List ℕ → List ℕ → List ℕ → Bool
probe_of t f w = probe_from (suc (length f)) t f w 0 (length f)

-- a word that is not found is not in the table
abbrev pub Covers : List ℕ → List ℕ → Type 0
Covers t f = (w : List ℕ) → probe_of t f w ≡ false → held_in t w ≡ false

-- an index is empty or covers the table
abbrev pub Indexed : List ℕ → List ℕ → Type 0
Indexed t f = 0 < length f → Covers t f
