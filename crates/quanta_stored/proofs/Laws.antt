-- Laws of digits and numbers, and of what stands behind blanks.
-- Assumes nothing.
use Rattle.std.proofs.Common.{◌≡◌, ℕ, suc, ◌+◌, ◌-◌, ◌*◌, ◌/◌, ◌%◌, ◌<◌, ◌≤◌, Bool, true, false, cond, eqb, ltb, List, [], ◌∷◌, Option, Some, None, length, get_or, take, drop, refl, ap, sym, ◌∙◌, ◌⊎◌, inl, inr, eq-or-lt_of_le, not, fold, drop_of_length-le, length-drop, arith}
use native.Mathlib.Nat.{mul-le-mul}
use lib.Seq.{take_all}
use borrow.Author.Tests.{eq-eqb, ne_eqb, le-leb, lt-leb, lt-ltb, le-ltb}
use Rattle.std.specs.Option.{is_some, is_none, unwrap_or, option_map}
use Rattle.std.specs.List.{position_or_len}
use Rattle.std.proofs.lemmas.List.Sums.{prefix_len-le-length, fails_before_first}
use Rattle.std.proofs.lemmas.List.Folds.{fold_stuck}
use Rattle.quanta_stored.specs.Lines.{BLANK, DASH, STAR, LIMIT, before, behind, digit_of, digits_of, with_digit, grown, number_of, times_of, is_dash, size_of, byte_at}

-- what a digit stands for
module _ (b : ℕ) where
  pub decimal : 48 ≤ b → b ≤ 57 → Some (b - 48) ≡ digit_of b
  unfolding digit_of
  decimal g h = rw (le-leb 48 b g, le-leb b 57 h)

  pub letter : 97 ≤ b → b ≤ 102 → Some (b - 97 + 10) ≡ digit_of b
  unfolding digit_of
  letter g h =
      rw (le-leb 48 b (omega arith), lt-leb b 57 (omega arith), le-leb 97 b g, le-leb b 102 h)
      (let e : b - 97 + 10 ≡ b - 87 = omega arith in ap (λ (n : ℕ). Some n) e)

  pub below : b < 48 → None ≡ digit_of b
  unfolding digit_of
  below h = rw (lt-leb 48 b h, lt-leb 97 b (omega arith))

  pub between : 57 < b → b < 97 → None ≡ digit_of b
  unfolding digit_of
  between g h = rw (le-leb 48 b (omega arith), lt-leb b 57 g, lt-leb 97 b h)

  pub above : 102 < b → None ≡ digit_of b
  unfolding digit_of
  above g = rw (le-leb 48 b (omega arith), lt-leb b 57 (omega arith), le-leb 97 b (omega arith), lt-leb b 102 g)

pub ruleset digit_told = (decimal, letter, below, between, above)

module _ (l : List ℕ) where
  pub none_one : length l ≡ 1 → eqb (get_or l 0 0) DASH ≡ is_dash l
  unfolding is_dash
  none_one h = rw (eq-eqb (length l) 1 h)

  pub none_other : (length l ≡ 1 → ⊥) → false ≡ is_dash l
  unfolding is_dash
  none_other h = rw (ne_eqb (length l) 1 h)

pub ruleset none_told = (none_one, none_other)

chosen : (n m : ℕ) → (n ≡ m) ⊎ (n < m) → unwrap_or (cond (ltb n m) (Some n) None) m ≡ n
chosen n m (inl e) = rw (le-ltb n m (omega arith)) (sym e)
chosen n m (inr h) = rw (lt-ltb n m h)

-- the first place where a test holds, or the end
pub first :
    (p : ℕ → Bool) (l : List ℕ) (o : Option ℕ) (r : ℕ)
    → o ≡ cond (ltb (position_or_len p l) (length l)) (Some (position_or_len p l)) None
    → r ≡ unwrap_or o (length l)
    → r ≡ position_or_len p l
first p l o r e u =
    u ∙ ap (λ (x : Option ℕ). unwrap_or x (length l)) e
    ∙ chosen _ _ (eq-or-lt_of_le (prefix_len-le-length (λ (x : ℕ). not (p x)) l))

zero_behind : (xs : List ℕ) → behind 0 xs ≡ xs
unfolding behind
zero_behind [] = refl
zero_behind (x ∷ xs) = refl

some_of : (o : Option ℕ) → is_none o ≡ false → is_some o ≡ true
some_of None e = cc
some_of (Some d) e = refl

-- one blank more is passed
skip_at :
    (m n x : ℕ) (xs : List ℕ) → m ≡ n + 1 → behind m xs ≡ behind n (drop (before BLANK xs + 1) xs) → (t : Bool)
    → behind (cond t (m - 1) m) xs ≡ behind n (drop (cond (not t) (1 + before BLANK xs) 0 + 1) (x ∷ xs))
skip_at m n x xs e h true = let g : m - 1 ≡ n = omega arith in ap (λ (k : ℕ). behind k xs) g
skip_at m n x xs e h false =
    let g : suc (before BLANK xs + 1) ≡ 1 + before BLANK xs + 1 = omega arith in
    h ∙ ap (λ (k : ℕ). behind n (drop k (x ∷ xs))) g

skip : (m n : ℕ) (xs : List ℕ) → m ≡ n + 1 → behind m xs ≡ behind n (drop (before BLANK xs + 1) xs)
unfolding behind
skip m n [] e = refl
skip m n (x ∷ xs) e = rw (ne_eqb m 0 (λ z. omega arith)) (skip_at m n x xs e (skip m n xs e) (eqb x BLANK))

behind_none : (n : ℕ) → behind n [] ≡ []
unfolding behind
behind_none n = refl

-- m blanks are left to be passed in xs, and ys stands behind them
module _ (m : ℕ) (xs ys : List ℕ) (e : behind m xs ≡ ys) where
  pub passed_all : m ≡ 0 → xs ≡ ys
  passed_all z = sym (zero_behind xs) ∙ ap (λ (k : ℕ). behind k xs) (sym z) ∙ e

  pub passed_one : (n : ℕ) → m ≡ n + 1 → behind n (drop (before BLANK xs + 1) xs) ≡ ys
  passed_one n g = sym (skip m n xs g) ∙ e

  pub passed_end : 0 < m → before BLANK xs ≡ length xs → [] ≡ ys
  passed_end some g =
      let n : m ≡ m - 1 + 1 = omega arith in
      let none : drop (before BLANK xs + 1) xs ≡ [] = drop_of_length-le xs (omega arith) in
      sym (behind_none (m - 1)) ∙ ap (behind (m - 1)) (sym none) ∙ passed_one (m - 1) n

-- a digit of the run in front
pub digit_in : (l : List ℕ) (k : ℕ) → k < digits_of l → is_some (digit_of (get_or l k 0)) ≡ true
digit_in l k h = some_of _ (fails_before_first (λ (b : ℕ). is_none (digit_of b)) l k 0 h)

pub digits_le : (l : List ℕ) → digits_of l ≤ length l
digits_le = prefix_len-le-length (λ (b : ℕ). not (is_none (digit_of b)))

-- a part up to the end
pub tail : (l : List ℕ) (i : ℕ) → take (length l - i) (drop i l) ≡ drop i l
tail l i = take_all (length l - i) (drop i l) (simp length-drop (omega arith))

pub byte_of :
    (l : List ℕ) (j x y : ℕ) → digit_of (get_or l (2 * j) 0) ≡ Some x → digit_of (get_or l (2 * j + 1) 0) ≡ Some y
    → x * 16 + y ≡ byte_at l j
unfolding byte_at
byte_of l j x y e g = rw (e, g)

-- the digits so far make v
module _ (l : List ℕ) (v i : ℕ) (made : fold grown (Some 0) (take i l) ≡ Some v) (some : length l ≡ 0 → ⊥) where
  pub number_bad : i < length l → with_digit v (digit_of (get_or l i 0)) ≡ None → None ≡ number_of l
  unfolding number_of
  number_bad h e =
      rw (ne_eqb (length l) 0 some)
      (fold_stuck grown None (λ x. refl) (Some 0) l i 0 h (ap (λ (o : Option ℕ). grown o (get_or l i 0)) made ∙ e))

  pub number_made : length l ≤ i → Some v ≡ number_of l
  unfolding number_of
  number_made h =
      rw (ne_eqb (length l) 0 some) (sym made ∙ ap (fold grown (Some 0)) (take_all i l h))

module _ (l : List ℕ) where
  pub number_none : length l ≡ 0 → None ≡ number_of l
  unfolding number_of
  number_none h = rw (eq-eqb (length l) 0 h)

  pub size_long : 65535 < length l → None ≡ size_of l
  unfolding size_of
  size_long h = rw (lt-ltb 65535 (length l) h)

  pub size_none : length l ≤ 65535 → is_dash l ≡ true → Some 0 ≡ size_of l
  unfolding size_of
  size_none a b = rw (le-ltb 65535 (length l) a, b)

  -- n is the number of the digits in front
  module _ (n : ℕ) (e : n ≡ digits_of l) where
    pub times_one : n ≡ length l → Some 1 ≡ times_of l
    unfolding times_of
    times_one h = rw (← e, eq-eqb n (length l) h)

    pub times_star :
        (v : Option ℕ) → (n ≡ length l → ⊥) → get_or l n 0 ≡ STAR
        → v ≡ number_of (take (length l - (n + 1)) (drop (n + 1) l)) → v ≡ times_of l
    unfolding times_of
    times_star v h s g =
        g ∙ ap number_of (tail l (n + 1)) ∙ rw (← e, ne_eqb n (length l) h, eq-eqb (get_or l n 0) STAR s)

    pub times_bad : (n ≡ length l → ⊥) → (get_or l n 0 ≡ STAR → ⊥) → None ≡ times_of l
    unfolding times_of
    times_bad h s = rw (← e, ne_eqb n (length l) h, ne_eqb (get_or l n 0) STAR s)

    module _ (a : length l ≤ 65535) (b : is_dash l ≡ false) where
      pub size_empty : n ≡ 0 → None ≡ size_of l
      unfolding size_of
      size_empty z = rw (← e, le-ltb 65535 (length l) a, b, eq-eqb n 0 z)

      pub size_odd : (n ≡ 0 → ⊥) → (n % 2 ≡ 0 → ⊥) → None ≡ size_of l
      unfolding size_of
      size_odd z o = rw (← e, le-ltb 65535 (length l) a, b, ne_eqb n 0 z, ne_eqb (n % 2) 0 o)

      pub size_even : (n ≡ 0 → ⊥) → n % 2 ≡ 0 → option_map (λ t. n / 2 * t) (times_of l) ≡ size_of l
      unfolding size_of
      size_even z o = rw (← e, le-ltb 65535 (length l) a, b, ne_eqb n 0 z, eq-eqb (n % 2) 0 o)

pub ruleset number_told = (number_none, number_bad, number_made)

pub ruleset times_told = (times_one, times_star, times_bad)

pub ruleset size_told = (size_long, size_none, size_empty, size_odd)

pub size_fits : (n t : ℕ) → n ≤ 65535 → t < LIMIT → n / 2 * t < 18446744073709551616
size_fits n t g h =
    let half : n / 2 ≤ 65535 = omega arith in
    let less : t ≤ LIMIT = omega arith in
    omega (arith, mul-le-mul half less)
