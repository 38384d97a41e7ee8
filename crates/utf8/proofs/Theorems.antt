-- What `first_bad` says in the RFC's words: nothing exactly for a text that is UTF8-octets, and i exactly where sequence after sequence stands before i and
-- none starts there.
use mathlib.Core.Path.{◌≡◌, refl, sym, ap, ◌∙◌}
use mathlib.Core.List.{List, [], append-nil}
use Prim.Native.Nat.{ℕ, zero, suc, ◌+◌}
use native.Mathlib.Nat.{sub-zero}
use native.Mathlib.Omega.{arith}
use lib.ListN.{length, take, drop, take-append-drop}
use lib.Seq.{length-take-le}
use Rattle.std.specs.Prelude.{Some, None}
use Rattle.utf8.specs.Utf8.{char_len, bad_from, first_bad, Octets, BadAt}
use Rattle.utf8.proofs.Laws.{past, stop}
use Rattle.utf8.proofs.Octets.{char_found, char_at, over, rest, upto}

module _ (s : List ℕ) where
  pub well : first_bad s ≡ None → Octets s
  well e = rest (length s) s 0 (omega arith) e

  pub all_well : Octets s → first_bad s ≡ None
  all_well o = over o s [] 0 (length s) (sym (append-nil s)) (omega arith) ∙ past s (length s) (0 + length s) (omega arith)

  pub bad : (i : ℕ) → first_bad s ≡ Some i → BadAt s i
  bad i e =
      let x = upto (length s) s 0 i e in
      record { inside = x.inside; before = rw sub-zero at x.before; starts_none = λ w r c d. let f = char_found s i w r c d in omega (arith, f.0, f.1, x.starts_none) }

  pub bad_at : (i : ℕ) → BadAt s i → first_bad s ≡ Some i
  bad_at i x =
      let n : 0 + length (take i s) ≡ i = omega (arith, length-take-le i s (omega (arith, x.inside))) in
      over x.before s (drop i s) 0 (length s) (sym (take-append-drop i s)) (omega arith)
      ∙ ap (bad_from (length s) s) n
      ∙ stop s (length s) i x.inside (omega arith) (none (char_len s i) (λ h. x.starts_none _ _ (char_at s i h) (sym (take-append-drop (char_len s i) (drop i s)))))
    where
      none : (k : ℕ) → ((k ≡ 0 → ⊥) → ⊥) → k ≡ 0
      none zero h = refl
      none (suc k) h = absurd (h (λ e. omega arith))
