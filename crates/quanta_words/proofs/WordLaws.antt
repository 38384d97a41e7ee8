-- The laws of the word table. Where a law takes a bound n it asks that n is more than the bytes left, and gives such a bound for the next record.
use Prim.Native.Nat.{ℕ, zero, suc, ◌+◌, ◌-◌, ◌≤◌, ◌<◌}
use mathlib.Core.Path.{◌≡◌, refl, ap, sym, ◌∙◌}
use mathlib.Core.Bool.{Bool, true, false, cond, ◌&&◌, ◌||◌, false≢true}
use mathlib.Core.List.{List, [], ◌∷◌}
use native.Mathlib.Omega.{arith}
use lib.ListN.{length, get_or, drop, length-drop}
use lib.Seq.{drop-drop}
use Rattle.std.proofs.lemmas.List.{take_all, get_or-drop}
use lib.Dec.{eqb, leb, ltb}
use borrow.Author.Tests.{lt-ltb, le-leb, lt-leb, leb-true, leb-false, ltb-false, eqb-true}
use Rattle.quanta_token.specs.Bytes.{word_start, word_byte}
use Rattle.std.specs.Prelude.{Option, Some, None, MatchOption, bytes_eq}
use Rattle.std.proofs.lemmas.Bool.{and_parts, false_from_ne_true}
use Rattle.std.specs.List.{slice_range, list_all}
use Rattle.std.specs.Slice.{IsGetRangeResult}
use denote.Ref.{Bor}
use Rattle.quanta_token.specs.Text.{same}
use Rattle.quanta_words.specs.Words.{HasWord, is_word, size_at, after_at, word_at, record_at, bad_from}
use Rattle.quanta_words.specs.Words.{words_from, words_in, among, held_in}

-- a word's test, by its first byte
pub word_empty : (w : List ℕ) → length w < 1 → is_word w ≡ false
unfolding is_word
word_empty [] h = refl
word_empty (c ∷ cs) h = absurd (omega arith)

pub word_starts : (w : List ℕ) → word_start (get_or w 0 0) ≡ true → is_word w ≡ list_all word_byte (drop 1 w)
unfolding is_word
word_starts [] h = absurd (false≢true h)
word_starts (c ∷ cs) h = rw h

pub word_none : (w : List ℕ) → word_start (get_or w 0 0) ≡ false → is_word w ≡ false
unfolding is_word
word_none [] h = refl
word_none (c ∷ cs) h = rw h

-- what is cut from a table behind a length byte is a record's word
pub word_cut :
    (t rest : List ℕ) (i size : ℕ) →
    rest ≡ slice_range t i (length t) →
    length rest + i ≡ length t →
    2 < length rest →
    size ≡ get_or rest 2 0 →
    (r : Option (Bor (List ℕ))) →
    IsGetRangeResult rest 3 (3 + size) r →
    MatchOption r (length t < after_at t i) (λ w. HasWord t i w.now)
word_cut t rest i size e l h q r g = at r g
  where
    rest_is : rest ≡ drop i t
    rest_is = e ∙ take_all (length t - i) (drop i t) (omega (arith, length-drop i t))

    size_is : size ≡ size_at t i
    size_is = q ∙ ap (λ x. get_or x 2 0) rest_is ∙ get_or-drop i t 2 0

    at :
        (r : Option (Bor (List ℕ))) →
        IsGetRangeResult rest 3 (3 + size) r →
        MatchOption r (length t < after_at t i) (λ w. HasWord t i w.now)
    at None g = grind (arith, size_is, g.0)
    at (Some w) g =
        let n : 3 + size - 3 ≡ size_at t i = omega (arith, size_is) in
        record {
          is = g.0.2 ∙ rw (n, rest_is, drop-drop 3 i t);
          next = omega (arith, g.0.3, size_is);
          inside = omega (arith, g.0.1, size_is);
        }

pub record_short : (t : List ℕ) (i : ℕ) → length t < after_at t i → record_at t i ≡ false
unfolding record_at
record_short t i h = rw (lt-leb (after_at t i) (length t) h)

pub record_whole :
    (t : List ℕ) (i : ℕ) (w : List ℕ) →
    HasWord t i w →
    record_at t i ≡ (eqb (get_or t i 0) 0x46 && eqb (get_or t (i + 1) 0) 0x57 && is_word w)
unfolding record_at
record_whole t i w g = rw (le-leb (after_at t i) (length t) g.inside, g.is)

pub record_within : (t : List ℕ) (i : ℕ) → record_at t i ≡ true → after_at t i ≤ length t
record_within t i h = at (leb (after_at t i) (length t)) refl
  where
    at : (b : Bool) → leb (after_at t i) (length t) ≡ b → after_at t i ≤ length t
    at true e = leb-true _ _ e
    at false e = absurd (false≢true (sym (record_short t i (leb-false (after_at t i) (length t) e)) ∙ h))

pub bad_stop : (n : ℕ) (t : List ℕ) (i : ℕ) → record_at t i ≡ false → bad_from n t i ≡ i
unfolding bad_from
bad_stop zero t i r = refl
bad_stop (suc n) t i r = rw r (at (ltb i (length t)))
  where
    at : (b : Bool) → cond b i i ≡ i
    at true = refl
    at false = refl

pub bad_more :
    (n : ℕ) (t : List ℕ) (i : ℕ) →
    length t < n + i →
    after_at t i ≤ length t →
    record_at t i ≡ true →
    (m : ℕ) × (length t < m + after_at t i) × (bad_from n t i ≡ bad_from m t (after_at t i))
unfolding bad_from
bad_more zero t i b h r = absurd (omega arith)
bad_more (suc n) t i b h r = (n, omega arith, rw (lt-ltb i (length t) (omega arith), r))

pub bad_within : (n : ℕ) (t : List ℕ) (i : ℕ) → i ≤ length t → bad_from n t i ≤ length t
unfolding bad_from
bad_within zero t i h = h
bad_within (suc n) t i h = at (record_at t i) refl (λ r. bad_within n t (after_at t i) (record_within t i r)) (ltb i (length t))
  where
    at : (b : Bool) → record_at t i ≡ b → (record_at t i ≡ true → bad_from n t (after_at t i) ≤ length t) → (c : Bool) → cond c (cond b (bad_from n t (after_at t i)) i) i ≤ length t
    at true e rest true = rest e
    at false e rest true = h
    at b e rest false = h

pub bad_there : (n : ℕ) (t : List ℕ) (i : ℕ) → length t < n + i → bad_from n t i < length t → record_at t (bad_from n t i) ≡ false
unfolding bad_from
bad_there zero t i b h = absurd (omega arith)
bad_there (suc n) t i b h = at (ltb i (length t)) refl (record_at t i) refl (bad_there n t (after_at t i) (omega arith)) h
  where
    at : (x : Bool) → ltb i (length t) ≡ x → (y : Bool) → record_at t i ≡ y → (bad_from n t (after_at t i) < length t → record_at t (bad_from n t (after_at t i)) ≡ false) → cond x (cond y (bad_from n t (after_at t i)) i) i < length t → record_at t (cond x (cond y (bad_from n t (after_at t i)) i) i) ≡ false
    at true e true f rest l = rest l
    at true e false f rest l = f
    at false e y f rest l = absurd (omega (arith, ltb-false i (length t) e))

-- whether a record at or after i holds the word
abbrev pub held_from : ℕ → List ℕ → ℕ → List ℕ → Bool
held_from n t i w = among (words_from n t i) w

pub held_all : (t w : List ℕ) → held_in t w ≡ held_from (suc (length t)) t 0 w
unfolding held_in words_in
held_all t w = refl

pub held_stop : (n : ℕ) (t : List ℕ) (i : ℕ) (w : List ℕ) → length t < after_at t i → held_from n t i w ≡ false
unfolding words_from among
held_stop zero t i w h = refl
held_stop (suc n) t i w h = rw (lt-leb (after_at t i) (length t) h)

held_first : (n : ℕ) (t : List ℕ) (i : ℕ) (w : List ℕ) → after_at t i ≤ length t → held_from (suc n) t i w ≡ (same w (word_at t i) || held_from n t (after_at t i) w)
unfolding words_from among
held_first n t i w h = rw (le-leb (after_at t i) (length t) h)

pub held_next : (n : ℕ) (t : List ℕ) (i : ℕ) (w : List ℕ) → after_at t i ≤ length t → same w (word_at t i) ≡ false → held_from (suc n) t i w ≡ held_from n t (after_at t i) w
held_next n t i w h s = held_first n t i w h ∙ rw s

pub held_hit : (n : ℕ) (t : List ℕ) (i : ℕ) (w : List ℕ) → length t < n + i → after_at t i ≤ length t → same w (word_at t i) ≡ true → held_from n t i w ≡ true
held_hit zero t i w b h s = absurd (omega arith)
held_hit (suc n) t i w b h s = held_first n t i w h ∙ rw s

pub held_more :
    (n : ℕ) (t : List ℕ) (i : ℕ) (w : List ℕ) →
    length t < n + i →
    after_at t i ≤ length t →
    same w (word_at t i) ≡ false →
    (m : ℕ) × (length t < m + after_at t i) × (held_from n t i w ≡ held_from m t (after_at t i) w)
held_more zero t i w b h s = absurd (omega arith)
held_more (suc n) t i w b h s = (n, omega arith, held_next n t i w h s)

-- std's test of two slices
pub same_is : (a b : List ℕ) → bytes_eq a b ≡ same a b
unfolding same
same_is [] [] = refl
same_is [] (y ∷ ys) = refl
same_is (x ∷ xs) [] = refl
same_is (x ∷ xs) (y ∷ ys) = rw (same_is xs ys)

pub same_of :
    (w h : List ℕ) {t : List ℕ} {i : ℕ} {e x : Bool} →
    HasWord t i h →
    e ≡ bytes_eq w h →
    e ≡ x →
    same w (word_at t i) ≡ x
same_of w h g f k = ap (same w) (sym g.is) ∙ sym (same_is w h) ∙ sym f ∙ k

pub same_eq : (a b : List ℕ) → same a b ≡ true → a ≡ b
unfolding same
same_eq [] [] h = refl
same_eq [] (y ∷ ys) h = absurd (false≢true h)
same_eq (x ∷ xs) [] h = absurd (false≢true h)
same_eq (x ∷ xs) (y ∷ ys) h =
    let p = and_parts (eqb x y) (same xs ys) h in
    rw (eqb-true x y p.0, same_eq xs ys p.1)

pub not_same : (a b : List ℕ) → (a ≡ b → ⊥) → same a b ≡ false
not_same a b h = false_from_ne_true (same a b) (λ e. h (same_eq a b e))
