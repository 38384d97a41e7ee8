-- The barred characters by their bytes: `barred_by_bytes`.
use Prim.Native.Nat.{ℕ, zero, suc, ◌+◌, ◌*◌, ◌/◌, ◌%◌, ◌≤◌, ◌<◌}
use mathlib.Core.Path.{◌≡◌, refl, ap, ◌∙◌}
use mathlib.Core.Bool.{Bool, true, false, ◌&&◌, ◌||◌, and_assoc, or_assoc, and-true, and-false}
use mathlib.Core.List.{List, [], ◌∷◌, ◌++◌}
use native.Mathlib.Omega.{arith}
use native.Mathlib.Numerals.{add-one}
use native.Mathlib.Nat.{mul-add-div_right, mul-add-mod_self_right, div-eq_of_lt, mod-eq_of_lt}
use lib.ListN.{length, get_or, drop, drop_of_length-le, get_or-eq_default}
use lib.Seq.{drop-cons}
use lib.Dec.{eqb, ltb, leb}
use borrow.Author.Tests.{lt-ltb, le-ltb, le-leb, lt-leb, ne_eqb, eqb-true, eqb-false, ltb-true, ltb-false, leb-true, leb-false}
use Rattle.quanta_source.specs.Source.{count, ◌to◌, barred, encode, begins, stands_at, any, barred_at}
use Rattle.quanta_source.specs.Tests.{within, is_barred, is_mark}

-- a quotient and a remainder by their sum
module _ (b q r : ℕ) (h : r < b) where
  div_of : (q * b + r) / b ≡ q
  div_of = mul-add-div_right (omega arith) q r ∙ rw (div-eq_of_lt h) (omega arith)

  mod_of : (q * b + r) % b ≡ r
  mod_of = mul-add-mod_self_right q b r ∙ mod-eq_of_lt h

encode_2 : (A B : ℕ) → 2 ≤ A → A < 32 → B < 64 → encode (A * 64 + B) ≡ (0xC0 + A) ∷ (0x80 + B) ∷ []
unfolding encode
encode_2 A B a b c =
    rw (le-ltb (A * 64 + B) 0x80 (omega arith), lt-ltb (A * 64 + B) 0x800 (omega arith), div_of 64 A B c, mod_of 64 A B c)

encode_3 : (A B C : ℕ) → 1 ≤ A → A < 16 → B < 64 → C < 64 → encode (A * 4096 + B * 64 + C) ≡ (0xE0 + A) ∷ (0x80 + B) ∷ (0x80 + C) ∷ []
unfolding encode
encode_3 A B C a b c d =
    let n = A * 4096 + B * 64 + C in
    let rows : n ≡ (A * 64 + B) * 64 + C = omega arith in
    let planes : n ≡ A * 4096 + (B * 64 + C) = omega arith in
    let first : n / 4096 ≡ A = ap (λ m. m / 4096) planes ∙ div_of 4096 A (B * 64 + C) (omega arith) in
    let second : n / 64 ≡ A * 64 + B = ap (λ m. m / 64) rows ∙ div_of 64 (A * 64 + B) C d in
    let third : n % 64 ≡ C = ap (λ m. m % 64) rows ∙ mod_of 64 (A * 64 + B) C d in
    rw (le-ltb n 0x80 (omega arith), le-ltb n 0x800 (omega arith), lt-ltb n 0x10000 (omega arith), first, second, third, mod_of 64 A B c)

any_append : (p : ℕ → Bool) (ms ns : List ℕ) → any p (ms ++ ns) ≡ (any p ms || any p ns)
unfolding any
any_append p [] ns = refl
any_append p (m ∷ ms) ns = rw (any_append p ms ns, ← or_assoc (p m) (any p ms) (any p ns))

four : (p : ℕ → Bool) (a b c d : ℕ) → any p (a ∷ b ∷ c ∷ d ∷ []) ≡ (p a || p b || p c || p d)
unfolding any
four p a b c d = at (p a) (p b) (p c) (p d)
  where
    at : (w x y z : Bool) → (w || (x || (y || (z || false)))) ≡ (w || x || y || z)
    at true x y z = refl
    at false true y z = refl
    at false false true z = refl
    at false false false true = refl
    at false false false false = refl

-- the least of a range, or the rest of it
widen : (lo hi c : ℕ) → lo ≤ hi → (eqb c lo || within (lo + 1) hi c) ≡ within lo hi c
widen lo hi c h = at (eqb c lo) refl (leb lo c) refl
  where
    at : (x : Bool) → eqb c lo ≡ x → (y : Bool) → leb lo c ≡ y → (eqb c lo || within (lo + 1) hi c) ≡ within lo hi c
    at true e y f =
        let q : c ≡ lo = eqb-true _ _ e in
        rw (e, le-leb lo c (omega arith), le-leb c hi (omega arith))
    at false e true f =
        let q : c ≡ lo → ⊥ = eqb-false _ _ e in
        let l : lo ≤ c = leb-true _ _ f in
        rw (e, f, le-leb (lo + 1) c (omega arith))
    at false e false f =
        let l : c < lo = leb-false _ _ f in
        rw (e, f, lt-leb (lo + 1) c (omega arith))

none : (lo hi c : ℕ) → hi < lo → within lo hi c ≡ false
none lo hi c h = at (leb lo c) refl
  where
    at : (x : Bool) → leb lo c ≡ x → within lo hi c ≡ false
    at true e = let l : lo ≤ c = leb-true _ _ e in rw (e, lt-leb c hi (omega arith))
    at false e = rw e

shared : (a b : Bool) (x y z : Bool) → (x || y) ≡ z → (a && b && x || a && b && y) ≡ (a && b && z)
shared true true x y z h = h
shared true false x y z h = refl
shared false b x y z h = refl

module _ (s : List ℕ) where
  -- the front of a text, byte by byte: past the end the byte is 0, and no byte of a character is
  front : (x : ℕ) (xs : List ℕ) (i : ℕ) → 0 < x → begins (x ∷ xs) (drop i s) ≡ (eqb (get_or s i 0) x && begins xs (drop (i + 1) s))
  unfolding begins
  front x xs i h = at (ltb i (length s)) refl
    where
      at : (b : Bool) → ltb i (length s) ≡ b → begins (x ∷ xs) (drop i s) ≡ (eqb (get_or s i 0) x && begins xs (drop (i + 1) s))
      at true e = let l : i < length s = ltb-true _ _ e in rw (drop-cons s i 0, add-one)
      at false e =
          let l : length s ≤ i = ltb-false _ _ e in
          rw (drop_of_length-le s l, get_or-eq_default s 0 l, ne_eqb 0 x (λ z. omega arith))

  stands_2 : (i A B : ℕ) → 2 ≤ A → A < 32 → B < 64 → stands_at s i (A * 64 + B) ≡ (eqb (get_or s i 0) (0xC0 + A) && eqb (get_or s (i + 1) 0) (0x80 + B))
  unfolding stands_at begins
  stands_2 i A B a b c =
      rw (encode_2 A B a b c, front (0xC0 + A) ((0x80 + B) ∷ []) i (omega arith), front (0x80 + B) [] (i + 1) (omega arith), and-true)

  stands_3 :
      (i A B C : ℕ) →
      1 ≤ A →
      A < 16 →
      B < 64 →
      C < 64 →
      stands_at s i (A * 4096 + B * 64 + C) ≡ (eqb (get_or s i 0) (0xE0 + A) && eqb (get_or s (i + 1) 0) (0x80 + B) && eqb (get_or s (i + 2) 0) (0x80 + C))
  unfolding stands_at begins
  stands_3 i A B C a b c d =
      let next : i + 1 + 1 ≡ i + 2 = omega arith in
      rw (encode_3 A B C a b c d, front (0xE0 + A) ((0x80 + B) ∷ (0x80 + C) ∷ []) i (omega arith), front (0x80 + B) ((0x80 + C) ∷ []) (i + 1) (omega arith), front (0x80 + C) [] (i + 1 + 1) (omega arith), and-true, next, and_assoc)

  -- the characters of a range in one row of 64 differ in their third byte
  row :
      (i A B k C D : ℕ) →
      1 ≤ A →
      A < 16 →
      B < 64 →
      D < 64 →
      C + k ≡ D + 1 →
      any (stands_at s i) (count k (A * 4096 + B * 64 + C)) ≡
      (eqb (get_or s i 0) (0xE0 + A) && eqb (get_or s (i + 1) 0) (0x80 + B) && within (0x80 + C) (0x80 + D) (get_or s (i + 2) 0))
  unfolding any
  row i A B zero C D a b c d h = rw (none (0x80 + C) (0x80 + D) (get_or s (i + 2) 0) (omega arith), and-false)
  row i A B (suc k) C D a b c d h =
      let n = A * 4096 + B * 64 + C in
      let e = get_or s (i + 2) 0 in
      let next : n + 1 ≡ A * 4096 + B * 64 + (C + 1) = omega arith in
      let up : 0x80 + (C + 1) ≡ 0x80 + C + 1 = omega arith in
      rw (stands_3 i A B C a b c (omega arith), next, row i A B k (C + 1) D a b c d (omega arith), up)
      (shared (eqb (get_or s i 0) (0xE0 + A)) (eqb (get_or s (i + 1) 0) (0x80 + B)) (eqb e (0x80 + C)) (within (0x80 + C + 1) (0x80 + D) e) (within (0x80 + C) (0x80 + D) e) (widen (0x80 + C) (0x80 + D) e (omega arith)))

  module _ (i : ℕ) where
    abbrev c : ℕ
    c = get_or s i 0

    abbrev d : ℕ
    d = get_or s (i + 1) 0

    abbrev e : ℕ
    e = get_or s (i + 2) 0

    singles : any (stands_at s i) (0x0085 ∷ 0x00AD ∷ 0x061C ∷ 0x180E ∷ []) ≡ (eqb c 0xC2 && eqb d 0x85 || eqb c 0xC2 && eqb d 0xAD || eqb c 0xD8 && eqb d 0x9C || eqb c 0xE1 && eqb d 0xA0 && eqb e 0x8E)
    singles =
        four (stands_at s i) 0x0085 0x00AD 0x061C 0x180E ∙
        rw (
          stands_2 i 0x02 0x05 (omega arith) (omega arith) (omega arith),
          stands_2 i 0x02 0x2D (omega arith) (omega arith) (omega arith),
          stands_2 i 0x18 0x1C (omega arith) (omega arith) (omega arith),
          stands_3 i 0x1 0x20 0x0E (omega arith) (omega arith) (omega arith) (omega arith),
        )

    joined : (ms ns : List ℕ) {x y : Bool} → any (stands_at s i) ms ≡ x → any (stands_at s i) ns ≡ y → any (stands_at s i) (ms ++ ns) ≡ (x || y)
    joined ms ns f g = any_append (stands_at s i) ms ns ∙ rw (f, g)

    rows : any (stands_at s i) barred ≡ is_barred c d e
    rows =
        let upto_180_e : List ℕ = 0x0085 ∷ 0x00AD ∷ 0x061C ∷ 0x180E ∷ [] in
        let upto_200_f = upto_180_e ++ 0x200B to 0x200F in
        let upto_202_e = upto_200_f ++ 0x2028 to 0x202E in
        let upto_2064 = upto_202_e ++ 0x2060 to 0x2064 in
        let upto_206_f = upto_2064 ++ 0x2066 to 0x206F in
        joined upto_206_f (0xFFF9 to 0xFFFB)
        (joined upto_2064 (0x2066 to 0x206F)
        (joined upto_202_e (0x2060 to 0x2064)
        (joined upto_200_f (0x2028 to 0x202E)
        (joined upto_180_e (0x200B to 0x200F) singles
        (row i 0x2 0x00 5 0x0B 0x0F (omega arith) (omega arith) (omega arith) (omega arith) refl))
        (row i 0x2 0x00 7 0x28 0x2E (omega arith) (omega arith) (omega arith) (omega arith) refl))
        (row i 0x2 0x01 5 0x20 0x24 (omega arith) (omega arith) (omega arith) (omega arith) refl))
        (row i 0x2 0x01 10 0x26 0x2F (omega arith) (omega arith) (omega arith) (omega arith) refl))
        (row i 0xF 0x3F 3 0x39 0x3B (omega arith) (omega arith) (omega arith) (omega arith) refl)

    pub barred_by_bytes : barred_at s i ≡ (is_barred c d e || is_mark c d e && ltb 0 i)
    unfolding barred_at
    barred_by_bytes = rw (rows, stands_3 i 0xF 0x3B 0x3F (omega arith) (omega arith) (omega arith) (omega arith))
