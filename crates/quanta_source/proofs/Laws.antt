-- Where the tests of the code pass nothing is at fault; and the pass goes on past such places.
use Prim.Native.Nat.{ℕ, zero, suc, ◌+◌, ◌-◌, ◌≤◌, ◌<◌}
use mathlib.Core.Path.{◌≡◌, refl, ap, ◌∙◌}
use mathlib.Core.Bool.{Bool, true, false, not, cond, ◌&&◌, ◌||◌}
use mathlib.Core.List.{List}
use native.Mathlib.Omega.{arith}
use native.Mathlib.Numerals.{add-one}
use native.Mathlib.Nat.{sub-zero}
use lib.ListN.{length, get_or}
use lib.Dec.{eqb, ltb}
use borrow.Author.Tests.{not-true, ltb-true, ltb-false}
use Rattle.std.specs.Prelude.{Result, Ok, Err}
use Rattle.std.proofs.lemmas.Bool.{and_parts, or_parts}
use Rattle.quanta_source.specs.declared.source.Fault.{Fault}
use Rattle.quanta_source.specs.declared.source.Fault.TheVariants.{CarriageReturn, Barred}
use Rattle.quanta_source.specs.Source.{bare_at, barred_at, check_from, checked}
use Rattle.quanta_source.specs.Tests.{is_lead, is_bare, is_barred, is_mark, Fine, FineIn}
use Rattle.quanta_source.proofs.Bytes.{barred_by_bytes}

module _ (s : List ℕ) where
  abbrev c : ℕ → ℕ
  c i = get_or s i 0

  abbrev d : ℕ → ℕ
  d i = get_or s (i + 1) 0

  abbrev e : ℕ → ℕ
  e i = get_or s (i + 2) 0

  pub quiet_fine : (i : ℕ) → not (is_bare (c i) (d i) || is_lead (c i)) ≡ true → Fine s i
  unfolding bare_at
  quiet_fine i h =
      let p6 = or_parts (is_bare (c i) (d i)) (is_lead (c i)) (not-true _ h) in
      let p5 = or_parts _ (eqb (c i) 0xEF) p6.1 in
      let p4 = or_parts _ (eqb (c i) 0xE2) p5.0 in
      let p3 = or_parts _ (eqb (c i) 0xE1) p4.0 in
      let p2 = or_parts (eqb (c i) 0xC2) (eqb (c i) 0xD8) p3.0 in
      (p6.0, rw (barred_by_bytes s i, p2.0, p2.1, p3.1, p4.1, p5.1))

  pub tests_fine : (i : ℕ) → not (is_bare (c i) (d i) || is_barred (c i) (d i) (e i) || is_mark (c i) (d i) (e i)) ≡ true → Fine s i
  unfolding bare_at
  tests_fine i h =
      let p = or_parts _ (is_mark (c i) (d i) (e i)) (not-true _ h) in
      let q = or_parts (is_bare (c i) (d i)) (is_barred (c i) (d i) (e i)) p.0 in
      (q.0, rw (barred_by_bytes s i, q.1, p.1))

  pub fine_none : (a z : ℕ) → z ≤ a → FineIn s a z
  fine_none a z h i l u = absurd (omega arith)

  pub fine_join : (a m z : ℕ) → FineIn s a m → FineIn s m z → FineIn s a z
  fine_join a m z f g i l u = at (ltb i m) refl
    where
      at : (b : Bool) → ltb i m ≡ b → Fine s i
      at true h = f i l (ltb-true _ _ h)
      at false h = g i (ltb-false _ _ h) u

  pub fine_one : (i : ℕ) → Fine s i → FineIn s i (i + 1)
  fine_one i h j l u = let same : i ≡ j = omega arith in rw same at h

  -- a block whose k first bytes and the next pass
  pub fine_next :
      (a k : ℕ) (x y : Bool) →
      (x ≡ true → FineIn s a (a + k)) →
      (y ≡ true → Fine s (a + k)) →
      (x && y) ≡ true →
      FineIn s a (a + (k + 1))
  fine_next a k x y f g h =
      let p = and_parts x y h in
      let there : a + k + 1 ≡ a + (k + 1) = omega arith in
      rw there at (fine_join a (a + k) (a + k + 1) (f p.0) (fine_one (a + k) (g p.1)))

  -- the turns of the pass
  pub bare_stops : (n i : ℕ) → 1 ≤ n → bare_at s i ≡ true → check_from n s i ≡ Err (CarriageReturn i)
  unfolding check_from
  bare_stops zero i h f = absurd (omega arith)
  bare_stops (suc n) i h f = rw f

  pub barred_stops : (n i : ℕ) → 1 ≤ n → bare_at s i ≡ false → barred_at s i ≡ true → check_from n s i ≡ Err (Barred i)
  unfolding check_from
  barred_stops zero i h f g = absurd (omega arith)
  barred_stops (suc n) i h f g = rw (f, g)

  pub goes_on : (n m i : ℕ) → n ≡ m + 1 → Fine s i → check_from n s i ≡ check_from m s (i + 1)
  unfolding check_from
  goes_on n m i h f = rw (h, add-one m, f.0, f.1)

  pub at_end : (n i : ℕ) → n ≡ 0 → check_from n s i ≡ Ok tt
  unfolding check_from
  at_end n i h = rw h

  pub goes_past : (i : ℕ) → i ≤ length s → FineIn s 0 i → checked s ≡ check_from (length s - i) s i
  unfolding checked
  goes_past zero h f = rw sub-zero
  goes_past (suc i) h f =
      goes_past i (omega arith) (λ j l u. f j l (omega arith)) ∙ goes_on (length s - i) (length s - suc i) i (omega arith) (f i (omega arith) (omega arith)) ∙ ap (check_from (length s - suc i) s) (add-one i)

  -- what the pass finds: r, in the part from a up to e
  abbrev pub Finds : ℕ → ℕ → Result Unit Fault → Type 0
  Finds a e (Ok tt) = FineIn s a e
  Finds a e (Err (CarriageReturn i)) = (a ≤ i) × (i < e) × (bare_at s i ≡ true) × FineIn s a i
  Finds a e (Err (Barred i)) = (a ≤ i) × (i < e) × (bare_at s i ≡ false) × (barred_at s i ≡ true) × FineIn s a i

  found_later : (a e : ℕ) (r : Result Unit Fault) → Fine s a → Finds (a + 1) e r → Finds a e r
  found_later a e (Ok tt) f g = fine_join a (a + 1) e (fine_one a f) g
  found_later a e (Err (CarriageReturn i)) f g =
      (omega (arith, g.0), g.1, g.2, fine_join a (a + 1) i (fine_one a f) g.3)
  found_later a e (Err (Barred i)) f g = (omega (arith, g.0), g.1, g.2, g.3, fine_join a (a + 1) i (fine_one a f) g.4)

  finds : (n i e : ℕ) → i + n ≡ e → Finds i e (check_from n s i)
  unfolding check_from
  finds zero i e h = λ j l u. absurd (omega arith)
  finds (suc n) i e h = at (bare_at s i) refl (barred_at s i) refl (finds n (i + 1) e (omega arith))
    where
      at :
          (b : Bool) → bare_at s i ≡ b →
          (c : Bool) → barred_at s i ≡ c →
          Finds (i + 1) e (check_from n s (i + 1)) →
          Finds i e (cond b (Err (CarriageReturn i)) (cond c (Err (Barred i)) (check_from n s (i + 1))))
      at true f c g rest = (omega arith, omega arith, f, λ j l u. absurd (omega arith))
      at false f true g rest = (omega arith, omega arith, f, g, λ j l u. absurd (omega arith))
      at false f false g rest = found_later i e (check_from n s (i + 1)) (f, g) rest

  pub first : Finds 0 (length s) (checked s)
  unfolding checked
  first = finds (length s) 0 (length s) (omega arith)
