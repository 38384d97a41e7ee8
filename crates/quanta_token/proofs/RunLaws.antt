-- The laws of runs: one set for words, numbers, blanks, comments and strings.
use Prim.Native.Nat.{ℕ, suc, ◌+◌, ◌≤◌, ◌<◌}
use mathlib.Core.Path.{◌≡◌, refl}
use mathlib.Core.Bool.{Bool, true, false}
use mathlib.Core.List.{List, [], ◌∷◌}
use native.Mathlib.Omega.{arith}
use native.Mathlib.Numerals.{add-one}
use lib.ListN.{drop, get_or, length, length-drop, drop_of_length-le}
use lib.Seq.{drop-cons, drop-drop}
use Rattle.std.specs.Prelude.{Option, Some, None, cond, not, ltb}
use Rattle.std.specs.Option.{unwrap_or}
use Rattle.std.specs.List.{position_or_len}
use Rattle.std.proofs.Common.{◌⊎◌, inl, inr, eq-or-lt_of_le, ap, sym, ◌∙◌}
use Rattle.std.proofs.lemmas.List.Recursion.{is_position_or_len}
use Rattle.std.proofs.lemmas.List.Sums.{prefix_len-le-length}
use borrow.Author.Tests.{lt-ltb, le-ltb}
use Rattle.quanta_token.specs.Runs.{run, run_end}

module _ (p : ℕ → Bool) where
  pub run_stop : (c : ℕ) (cs : List ℕ) → p c ≡ false → run p (c ∷ cs) ≡ 0
  unfolding run
  run_stop c cs h = rw (h, run)

  pub run_more : (c : ℕ) (cs : List ℕ) → p c ≡ true → run p (c ∷ cs) ≡ suc (run p cs)
  unfolding run
  run_more c cs h = rw (h, run)

  run_length : (l : List ℕ) → run p l ≤ length l
  unfolding run
  run_length [] = omega arith
  run_length (c ∷ cs) = at (p c) refl (run_length cs)
    where
      at : (b : Bool) → p c ≡ b → run p cs ≤ length cs → run p (c ∷ cs) ≤ length (c ∷ cs)
      at true h ih = rw (run_more c cs h) (omega arith)
      at false h ih = rw (run_stop c cs h) (omega arith)

  run_again : (l : List ℕ) → run p (drop (run p l) l) ≡ 0
  unfolding run
  run_again [] = refl
  run_again (c ∷ cs) = at (p c) refl (run_again cs)
    where
      at : (b : Bool) → p c ≡ b → run p (drop (run p cs) cs) ≡ 0 → run p (drop (run p (c ∷ cs)) (c ∷ cs)) ≡ 0
      at true h ih = rw (run_more c cs h) ih
      at false h ih = rw (run_stop c cs h) (run_stop c cs h)

  pub end_more : (s : List ℕ) (i : ℕ) → i < length s → p (get_or s i 0) ≡ true → run_end p s i ≡ run_end p s (i + 1)
  unfolding run_end
  end_more s i h t = rw (drop-cons s i 0 h, run_more, add-one) (omega arith)

  pub end_stop : (s : List ℕ) (i : ℕ) → i < length s → p (get_or s i 0) ≡ false → run_end p s i ≡ i
  unfolding run_end
  end_stop s i h t = rw (drop-cons s i 0 h, run_stop) (omega arith)

  pub end_past : (s : List ℕ) (i : ℕ) → length s ≤ i → run_end p s i ≡ i
  unfolding run_end run
  end_past s i h = rw (drop_of_length-le s h) (omega arith)

  pub end_from : (s : List ℕ) (i : ℕ) → i ≤ run_end p s i
  unfolding run_end
  end_from s i = omega arith

  pub end_within : (s : List ℕ) (i : ℕ) → i ≤ length s → run_end p s i ≤ length s
  unfolding run_end
  end_within s i h = omega (arith, run_length (drop i s), length-drop i s)

  -- the end of a run is the end of the run from there
  pub end_again : (s : List ℕ) (i : ℕ) → run_end p s (run_end p s i) ≡ run_end p s i
  unfolding run_end
  end_again s i = rw (← drop-drop (run p (drop i s)) i s) (omega (arith, run_again (drop i s)))

  pub end_bounds : (s : List ℕ) (i e : ℕ) → i ≤ length s → e ≡ run_end p s i → (i ≤ e) × (e ≤ length s)
  end_bounds s i e h q = rw q (end_from s i, end_within s i h)

  -- the end of a run is the first place that does not go on
  pub end_is : (s : List ℕ) (i : ℕ) → run_end p s i ≡ i + position_or_len (λ c. not (p c)) (drop i s)
  unfolding run_end run
  end_is s i = rw (is_position_or_len (run p) (λ c. not (p c)) refl more (drop i s)) refl
    where
      at : (c : ℕ) (cs : List ℕ) (b : Bool) → p c ≡ b → run p (c ∷ cs) ≡ cond (not (p c)) 0 (1 + run p cs)
      at c cs true h = rw (run_more c cs h, h) (omega arith)
      at c cs false h = rw (run_stop c cs h, h) refl

      more : (c : ℕ) (cs : List ℕ) → run p (c ∷ cs) ≡ cond (not (p c)) 0 (1 + run p cs)
      more c cs = at c cs (p c) refl

  -- .. as a search from i on tells it
  pub end_at :
      (s : List ℕ) (i : ℕ) {l : List ℕ} {o : Option ℕ} {r : ℕ}
      → l ≡ drop i s
      → let q = position_or_len (λ c. not (p c)) l in
      o ≡ cond (ltb q (length l)) (Some q) None
      → r ≡ unwrap_or o (length l)
      → i + r ≡ run_end p s i
  end_at s i {l} d e u =
      ap (λ (n : ℕ). i + n)
      (u ∙ ap (λ (x : Option ℕ). unwrap_or x (length l)) e
      ∙ chosen (eq-or-lt_of_le (prefix_len-le-length (λ (c : ℕ). not (not (p c))) l))
      ∙ ap (λ (k : List ℕ). position_or_len (λ c. not (p c)) k) d)
      ∙ sym (end_is s i)
    where
      chosen : {n m : ℕ} → (n ≡ m) ⊎ (n < m) → unwrap_or (cond (ltb n m) (Some n) None) m ≡ n
      chosen {n} {m} (inl e) = rw (le-ltb n m (omega arith)) (sym e)
      chosen {n} {m} (inr h) = rw (lt-ltb n m h) refl
