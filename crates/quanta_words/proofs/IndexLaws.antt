-- The laws of the index.
use Prim.Native.Nat.{ℕ, zero, suc, ◌+◌, ◌-◌, ◌/◌, ◌≤◌, ◌<◌}
use mathlib.Core.Path.{◌≡◌, refl, ap, sym, ◌∙◌}
use mathlib.Core.Bool.{Bool, true, false, cond, false≢true}
use mathlib.Core.List.{List}
use native.Mathlib.Omega.{arith}
use native.Mathlib.Numerals.{add-one}
use lib.ListN.{length, get_or, drop, drop_of_length-le}
use lib.Seq.{drop-cons}
use lib.Dec.{ltb}
use borrow.Author.Tests.{lt-ltb, le-ltb, eq-eqb, ne_eqb}
use Rattle.std.specs.declared.cmp.Ordering.TheVariants.{Less, Equal, Greater}
use Rattle.quanta_token.specs.Text.{same}
use Rattle.quanta_words.specs.Words.{HasWord, after_at, word_at, held_in}
use Rattle.quanta_words.specs.Index.{order_of, order_at, ordering, probe_from, probe_of}
use Rattle.quanta_words.proofs.WordLaws.{held_from, not_same, held_next}

module _ (a b : List ℕ) (i : ℕ) where
  at_both :
      i < length a →
      i < length b →
      order_of (drop i a) (drop i b)
      ≡ cond (ltb (get_or a i 0) (get_or b i 0)) 0
      (cond (ltb (get_or b i 0) (get_or a i 0)) 2 (order_of (drop (suc i) a) (drop (suc i) b)))
  unfolding order_of
  at_both h k = rw (drop-cons a i 0 h, drop-cons b i 0 k)

  pub order_less : i < length a → i < length b → get_or a i 0 < get_or b i 0 → order_of (drop i a) (drop i b) ≡ 0
  order_less h k l = at_both h k ∙ rw (lt-ltb _ _ l)

  pub order_above :
      i < length a →
      i < length b →
      get_or b i 0 ≤ get_or a i 0 →
      get_or b i 0 < get_or a i 0 →
      order_of (drop i a) (drop i b) ≡ 2
  order_above h k g l = at_both h k ∙ rw (le-ltb _ _ g, lt-ltb _ _ l)

  pub order_more :
      i < length a →
      i < length b →
      get_or b i 0 ≤ get_or a i 0 →
      get_or a i 0 ≤ get_or b i 0 →
      order_of (drop i a) (drop i b) ≡ order_of (drop (i + 1) a) (drop (i + 1) b)
  order_more h k g l = at_both h k ∙ rw (le-ltb _ _ g, le-ltb _ _ l, add-one)

  pub order_short : i < length a → length b ≤ i → order_of (drop i a) (drop i b) ≡ 2
  unfolding order_of
  order_short h k = rw (drop-cons a i 0 h, drop_of_length-le b k)

  pub order_first : length a ≤ i → i < length b → order_of (drop i a) (drop i b) ≡ 0
  unfolding order_of
  order_first h k = rw (drop_of_length-le a h, drop-cons b i 0 k)

  pub order_same : length a ≤ i → length b ≤ i → order_of (drop i a) (drop i b) ≡ 1
  unfolding order_of
  order_same h k = rw (drop_of_length-le a h, drop_of_length-le b k)

-- a word against a record's word, and against no record
pub order_in : (t : List ℕ) (i : ℕ) (w h : List ℕ) → HasWord t i h → order_of w h ≡ order_at t i w
unfolding order_at
order_in t i w h g =
    sym (rw (le-ltb (length t) i (omega (arith, g.inside)), le-ltb _ _ g.inside, g.is))

pub order_out : (t : List ℕ) (i : ℕ) (w : List ℕ) → length t < after_at t i → 2 ≡ order_at t i w
unfolding order_at
order_out t i w h = sym (rw (lt-ltb _ _ h) (at (ltb (length t) i)))
  where
    at : {n : ℕ} (b : Bool) → cond b n n ≡ n
    at true = refl
    at false = refl

-- the number that an ordering is said of
pub ordering_less : (k : ℕ) → ordering k ≡ Less → k ≡ 0
unfolding ordering
ordering_less zero e = refl
ordering_less (suc zero) e = absurd (let no : ◌≡◌ {A = ℕ} 0 1 = cc in omega arith)
ordering_less (suc (suc k)) e = absurd (let no : ◌≡◌ {A = ℕ} 0 1 = cc in omega arith)

pub ordering_equal : (k : ℕ) → ordering k ≡ Equal → k ≡ 1
unfolding ordering
ordering_equal zero e = absurd (let no : ◌≡◌ {A = ℕ} 0 1 = cc in omega arith)
ordering_equal (suc zero) e = refl
ordering_equal (suc (suc k)) e = absurd (let no : ◌≡◌ {A = ℕ} 0 1 = cc in omega arith)

pub ordering_greater : (k : ℕ) → ordering k ≡ Greater → 1 < k
unfolding ordering
ordering_greater zero e = absurd (let no : ◌≡◌ {A = ℕ} 0 1 = cc in omega arith)
ordering_greater (suc zero) e = absurd (let no : ◌≡◌ {A = ℕ} 0 1 = cc in omega arith)
ordering_greater (suc (suc k)) e = omega arith

-- the place that halves a part, and what the word is against the record there
abbrev pub mid : ℕ → ℕ → ℕ
mid lo hi = lo + (hi - lo) / 2

abbrev pub met : List ℕ → List ℕ → List ℕ → ℕ → ℕ → ℕ
met t f w lo hi = order_at t (get_or f (mid lo hi) 0) w

module _ (t f w : List ℕ) where
  pub probe_past : (n lo hi : ℕ) → hi ≤ lo → probe_from n t f w lo hi ≡ false
  unfolding probe_from
  probe_past zero lo hi h = refl
  probe_past (suc n) lo hi h = rw (le-ltb lo hi h, probe_from)

  module _ (lo hi : ℕ) (h : lo < hi) where
    pub probe_hit : (n : ℕ) → hi < n + lo → met t f w lo hi ≡ 1 → probe_from n t f w lo hi ≡ true
    unfolding probe_from
    probe_hit zero b q = absurd (omega arith)
    probe_hit (suc n) b q = rw (lt-ltb lo hi h, eq-eqb (met t f w lo hi) 1 q, probe_from)

    pub probe_left :
        (n : ℕ) →
        hi < n + lo →
        met t f w lo hi ≡ 0 →
        (m : ℕ) × (mid lo hi < m + lo) × (probe_from n t f w lo hi ≡ probe_from m t f w lo (mid lo hi))
    unfolding probe_from
    probe_left zero b q = absurd (omega arith)
    probe_left (suc n) b q = (
      n,
      omega arith,
      rw (
        lt-ltb lo hi h,
        ne_eqb (met t f w lo hi) 1 (λ x. omega (arith, q, x)),
        eq-eqb (met t f w lo hi) 0 q,
        probe_from,
      ),
    )

    pub probe_right :
        (n : ℕ) →
        hi < n + lo →
        (met t f w lo hi ≡ 0 → ⊥) →
        (met t f w lo hi ≡ 1 → ⊥) →
        (m : ℕ) × (hi < m + (mid lo hi + 1)) × (probe_from n t f w lo hi ≡ probe_from m t f w (mid lo hi + 1) hi)
    unfolding probe_from
    probe_right zero b z q = absurd (omega arith)
    probe_right (suc n) b z q = (
      n,
      omega arith,
      rw (lt-ltb lo hi h, ne_eqb (met t f w lo hi) 1 q, ne_eqb (met t f w lo hi) 0 z, probe_from),
    )

-- past the records that are found, no word was held that is not found
abbrev pub Past : List ℕ → List ℕ → ℕ → ℕ → Type 0
Past t f m i = (w : List ℕ) → probe_of t f w ≡ false → held_in t w ≡ held_from m t i w

-- a word that is found and one that is not are not the same
apart : (t f : List ℕ) (w x : List ℕ) → probe_of t f w ≡ false → probe_of t f x ≡ true → same w x ≡ false
apart t f w x p q = not_same w x (λ e. false≢true (sym p ∙ ap (probe_of t f) e ∙ q))

pub past_more :
    (m : ℕ) (t f : List ℕ) (i : ℕ) →
    length t < m + i →
    i ≤ length t →
    after_at t i ≤ length t →
    probe_of t f (word_at t i) ≡ true →
    Past t f m i →
    (o : ℕ) × (length t < o + after_at t i) × Past t f o (after_at t i)
past_more zero t f i b l h q g = absurd (omega arith)
past_more (suc m) t f i b l h q g = (m, omega arith, λ w z. g w z ∙ held_next m t i w h (apart t f w (word_at t i) z q))
