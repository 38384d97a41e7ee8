-- Laws of forms at a place of a text, and of taking sequence after sequence.
use mathlib.Core.Path.{◌≡◌, refl, sym, ap, ◌∙◌}
use mathlib.Core.Bool.{Bool, true, false, ◌&&◌, cond, false≢true, and_assoc, and-true}
use mathlib.Core.List.{List, [], ◌∷◌, ◌++◌}
use Prim.Native.Nat.{ℕ, zero, suc, ◌+◌, ◌≤◌, ◌<◌}
use native.Mathlib.Omega.{arith}
use native.Mathlib.Numerals.{add-one}
use lib.Dec.{ltb, leb, eqb, leb-zero}
use lib.ListN.{length, drop, get_or, length-drop, drop_of_length-le}
use lib.Seq.{drop-cons, drop-drop}
use borrow.Author.Tests.{lt-ltb, le-ltb, eq-eqb, ne_eqb, eqb-false}
use Rattle.std.specs.Prelude.{Some, None}
use Rattle.std.proofs.lemmas.Bool.{and_parts}
use Rattle.utf8.specs.Utf8.{Octet, fits, form_len, char_len, some_len, utf8_char, bad_from}
use Rattle.utf8.specs.Block.{ascii, every}

-- by both values of a test
pub by_test : (P : Bool → Type 0) (b : Bool) → (b ≡ true → P true) → (b ≡ false → P false) → P b
by_test P true y n = y refl
by_test P false y n = n refl

-- one byte, at a place
pub octet_in : (o : Octet) (s : List ℕ) (i : ℕ) → i < length s → (leb o.low (get_or s i 0) && leb (get_or s i 0) o.high) ≡ fits (o ∷ []) (drop i s)
unfolding fits
octet_in o s i h = rw (drop-cons s i 0 h) (sym (and-true _))

pub octet_past : (o : Octet) (s : List ℕ) (i : ℕ) → length s ≤ i → false ≡ fits (o ∷ []) (drop i s)
unfolding fits
octet_past o s i h = rw (drop_of_length-le s h)

-- a form, and then another
fits_append : (f g : List Octet) (s : List ℕ) → fits (f ++ g) s ≡ fits f s && fits g (drop (length f) s)
unfolding fits
fits_append [] g s = refl
fits_append (o ∷ f) g [] = refl
fits_append (o ∷ f) g (c ∷ s) = rw (fits_append f g s) (sym (and_assoc (leb o.low c && leb c o.high) (fits f s) (fits g (drop (length f) s))))

-- a flag x says whether a form stands at i: with it so does the form with one more range, or not
module _ (f : List Octet) (o : Octet) (s : List ℕ) (i : ℕ) {x : Bool} where
  pub grown : {r : Bool} → x ≡ true → x ≡ fits f (drop i s) → r ≡ fits (o ∷ []) (drop (i + length f) s) → r ≡ fits (f ++ (o ∷ [])) (drop i s)
  grown t e h = rw (fits_append f (o ∷ []) (drop i s), ← e, t, drop-drop) h

  pub stopped : x ≡ false → x ≡ fits f (drop i s) → x ≡ fits (f ++ (o ∷ [])) (drop i s)
  stopped t e = rw (fits_append f (o ∷ []) (drop i s), ← e, t)

-- what the length says that is answered
pub len_none : (k : ℕ) → None ≡ some_len k → k ≡ 0
unfolding some_len
len_none zero e = refl
len_none (suc k) e = absurd (let no : ◌≡◌ {A = ℕ} 0 1 = cc in omega arith)

pub len_some : (k : ℕ) {n : ℕ} → Some n ≡ some_len k → (n ≡ k) × (0 < k)
unfolding some_len
len_some zero e = absurd (let no : ◌≡◌ {A = ℕ} 0 1 = cc in omega arith)
len_some (suc k) e = (cc, omega arith)

-- what fits lies inside
pub fits_inside : (f : List Octet) (s : List ℕ) → fits f s ≡ true → length f ≤ length s
unfolding fits
fits_inside [] s h = omega arith
fits_inside (o ∷ f) [] h = absurd (false≢true h)
fits_inside (o ∷ f) (c ∷ s) h =
    let k = fits_inside f s (and_parts (leb o.low c && leb c o.high) (fits f s) h).1 in
    omega arith

form_inside : (fs : List (List Octet)) (s : List ℕ) → form_len fs s ≤ length s
unfolding form_len
form_inside [] s = omega arith
form_inside (f ∷ fs) s = by_test (λ b. cond b (length f) (form_len fs s) ≤ length s) (fits f s) (fits_inside f s) (λ n. form_inside fs s)

pub char_inside : (s : List ℕ) (i : ℕ) → i ≤ length s → i + char_len s i ≤ length s
char_inside s i h = omega (arith, form_inside utf8_char (drop i s), length-drop i s)

pub ascii_one : (s : List ℕ) (i : ℕ) → i < length s → ascii (get_or s i 0) ≡ true → char_len s i ≡ 1
unfolding form_len fits
ascii_one s i h a = rw (drop-cons s i 0 h, leb-zero, a)

module _ (s : List ℕ) where
  -- past the end no turn finds anything
  pub past : (n i : ℕ) → length s ≤ i → bad_from n s i ≡ None
  unfolding bad_from
  past zero i h = refl
  past (suc n) i h = rw (le-ltb i (length s) h)

  -- two numbers of turns that both reach the end
  enough : (n m i : ℕ) → length s ≤ i + n → length s ≤ i + m → bad_from n s i ≡ bad_from m s i
  unfolding bad_from
  enough zero m i g h = sym (past m i (omega arith))
  enough (suc n) zero i g h = past (suc n) i (omega arith)
  enough (suc n) (suc m) i g h =
      ap (λ f. cond (ltb i (length s)) f None)
      (by_test
      (λ b. cond b (Some i) (bad_from n s (i + char_len s i)) ≡ cond b (Some i) (bad_from m s (i + char_len s i)))
      (eqb (char_len s i) 0)
      (λ y. refl)
      (λ e. let z : char_len s i ≡ 0 → ⊥ = eqb-false (char_len s i) 0 e in enough n m (i + char_len s i) (omega arith) (omega arith)))

  pub stop : (n i : ℕ) → i < length s → length s ≤ i + n → char_len s i ≡ 0 → bad_from n s i ≡ Some i
  unfolding bad_from
  stop zero i g h e = absurd (omega arith)
  stop (suc n) i g h e = rw (lt-ltb i (length s) g, eq-eqb (char_len s i) 0 e)

  pub next : (n i : ℕ) → i < length s → length s ≤ i + n → (char_len s i ≡ 0 → ⊥) → bad_from n s i ≡ bad_from n s (i + char_len s i)
  unfolding bad_from
  next zero i g h e = absurd (omega arith)
  next (suc n) i g h e = rw (lt-ltb i (length s) g, ne_eqb (char_len s i) 0 e) (enough n (suc n) (i + char_len s i) (omega arith) (omega arith))

  -- past ASCII bytes
  pub past_ascii : (k n i : ℕ) → i + k ≤ length s → length s ≤ i + n → every ascii k s i ≡ true → bad_from n s i ≡ bad_from n s (i + k)
  unfolding every
  past_ascii zero n i g h e = ap (bad_from n s) (omega arith)
  past_ascii (suc k) n i g h e =
      let b = and_parts (every ascii k s i) (ascii (get_or s (i + k) 0)) e in
      let one : char_len s (i + k) ≡ 1 = ascii_one s (i + k) (omega arith) b.1 in
      past_ascii k n i (omega arith) h b.0
      ∙ next n (i + k) (omega arith) (omega arith) (λ z. omega arith)
      ∙ ap (bad_from n s) (omega arith)

  -- one byte more of a block
  pub every_next : (p : ℕ → Bool) (k i : ℕ) {a b : Bool} → a ≡ every p k s i → b ≡ p (get_or s (i + k) 0) → a && b ≡ every p (k + 1) s i
  unfolding every
  every_next p k i e f = rw (e, f, add-one)
