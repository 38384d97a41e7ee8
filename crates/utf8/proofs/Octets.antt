-- Laws of texts as sequence after sequence, and what they say of `bad_from`.
use mathlib.Core.Path.{◌≡◌, refl, sym, ap, subst, ◌∙◌}
use mathlib.Core.Bool.{Bool, true, false, ◌&&◌, ◌||◌, cond, false≢true, and-false}
use mathlib.Core.List.{List, [], ◌∷◌, ◌++◌, append_assoc, Memᴰ}
use Prim.Native.Nat.{ℕ, zero, suc, ◌+◌, ◌-◌, ◌≤◌, ◌<◌}
use native.Mathlib.Nat.{sub_self}
use native.Mathlib.Omega.{arith}
use lib.Dec.{T, leb, ltb, eqb}
use lib.ListN.{length, take, drop, length-append, length-drop, take-append-drop, drop_of_length-le}
use lib.Seq.{take-add, drop-drop, drop-append_seam, length-take-le}
use borrow.Author.Tests.{ltb-true, ltb-false, eqb-true, eqb-false, leb-true, lt-leb}
use Rattle.std.specs.Prelude.{Some, None}
use Rattle.std.proofs.lemmas.Bool.{and_parts}
use Rattle.utf8.specs.Utf8.{Octet, fits, form_len, utf8_char, char_len, bad_from, Char, Octets, none, more}
use Rattle.utf8.proofs.Laws.{by_test, fits_inside, next}

-- the form that fits, where one does
pub record Fitting (fs : List (List Octet)) (s : List ℕ) : Type 0 where
  pub form : List Octet
  pub listed : Memᴰ form fs
  pub fit : fits form s ≡ true
  pub size : form_len fs s ≡ length form

fitting : (fs : List (List Octet)) (s : List ℕ) → (form_len fs s ≡ 0 → ⊥) → Fitting fs s
unfolding form_len
fitting [] s h = absurd (h refl)
fitting (f ∷ fs) s h =
    by_test (λ b. fits f s ≡ b → Fitting (f ∷ fs) s) (fits f s)
    (λ y e. record { form = f; listed = Memᴰ.head refl; fit = e; size = rw e })
    (λ n e.
    let x = fitting fs s (λ z. h (rw e z)) in
    record { form = x.form; listed = Memᴰ.tail x.listed; fit = x.fit; size = rw e x.size })
    refl

-- a form looks at no more bytes than it has ranges
fits_take : (f : List Octet) (s : List ℕ) → fits f (take (length f) s) ≡ fits f s
unfolding fits
fits_take [] s = refl
fits_take (o ∷ f) [] = refl
fits_take (o ∷ f) (c ∷ s) = rw (fits_take f s)

fits_more : (f : List Octet) (w r : List ℕ) → fits f w ≡ true → fits f (w ++ r) ≡ true
unfolding fits
fits_more [] w r h = refl
fits_more (o ∷ f) [] r h = absurd (false≢true h)
fits_more (o ∷ f) (c ∷ w) r h =
    let p = and_parts (leb o.low c && leb c o.high) (fits f w) h in
    rw (p.0, fits_more f w r p.1)

-- no form is empty, and no two begin with the same byte
abbrev clear : Octet → List (List Octet) → Bool
clear o [] = true
clear o ([] ∷ fs) = false
clear o ((p ∷ f) ∷ fs) = (ltb o.high p.low || ltb p.high o.low) && clear o fs

abbrev apart : List (List Octet) → Bool
apart [] = true
apart ([] ∷ fs) = false
apart ((o ∷ f) ∷ fs) = clear o fs && apart fs

split : (a b : Bool) → T (a && b) → T a × T b
split true b h = (tt, h)
split false b h = absurd h

yes : (b : Bool) → T b → b ≡ true
yes true h = refl
yes false h = absurd h

-- a byte of p's range is not of o's
other_range : (o p : Octet) (c : ℕ) → T (ltb o.high p.low || ltb p.high o.low) → p.low ≤ c → c ≤ p.high → leb o.low c && leb c o.high ≡ false
other_range o p c h l u =
    by_test (λ b. ltb o.high p.low ≡ b → T (b || ltb p.high o.low) → leb o.low c && leb c o.high ≡ false) (ltb o.high p.low)
    (λ y e g.
    let k : o.high < c = omega (arith, ltb-true o.high p.low e) in
    rw (lt-leb c o.high k) (and-false (leb o.low c)))
    (λ n e g. let k : c < o.low = omega (arith, ltb-true p.high o.low (yes (ltb p.high o.low) g)) in rw (lt-leb o.low c k))
    refl
    h

-- so what fits one of the later forms does not fit the form before them
not_before : (o : Octet) (f : List Octet) (fs : List (List Octet)) (s : List ℕ) {g : List Octet} → T (clear o fs) → Memᴰ g fs → fits g s ≡ true → fits (o ∷ f) s ≡ false
unfolding fits
not_before o f [] s {g = g} k m h = elim m [ ]
not_before o f ([] ∷ fs) s k m h = absurd k
not_before o f ((p ∷ q) ∷ fs) s {g} k (Memᴰ.head e) h = here s (subst (λ x. fits x s ≡ true) e h) where
  here : (s : List ℕ) → fits (p ∷ q) s ≡ true → fits (o ∷ f) s ≡ false
  here [] h = refl
  here (c ∷ s) h =
      let b = and_parts (leb p.low c) (leb c p.high) (and_parts (leb p.low c && leb c p.high) (fits q s) h).0 in
      rw (other_range o p c (split (ltb o.high p.low || ltb p.high o.low) (clear o fs) k).0 (leb-true _ _ b.0) (leb-true _ _ b.1))
not_before o f ((p ∷ q) ∷ fs) s k (Memᴰ.tail m) h =
    not_before o f fs s (split (ltb o.high p.low || ltb p.high o.low) (clear o fs) k).1 m h

-- and a form that fits is the one that is found
found : (fs : List (List Octet)) (s : List ℕ) {g : List Octet} → T (apart fs) → Memᴰ g fs → fits g s ≡ true → form_len fs s ≡ length g
unfolding form_len
found [] s {g = g} k m h = elim m [ ]
found ([] ∷ fs) s k m h = absurd k
found ((o ∷ f) ∷ fs) s {g} k (Memᴰ.head e) h = rw (subst (λ x. fits x s ≡ true) e h) (sym (ap length e))
found ((o ∷ f) ∷ fs) s k (Memᴰ.tail m) h =
    let b = split (clear o fs) (apart fs) k in
    rw (not_before o f fs s b.0 m h) (found fs s b.1 m h)

filled : (fs : List (List Octet)) {g : List Octet} → T (apart fs) → Memᴰ g fs → 0 < length g
filled [] {g = g} k m = elim m [ ]
filled ([] ∷ fs) k m = absurd k
filled ((o ∷ f) ∷ fs) k (Memᴰ.head e) = rw e (omega arith)
filled ((o ∷ f) ∷ fs) k (Memᴰ.tail m) = filled fs (split (clear o fs) (apart fs) k).1 m

-- a sequence at i is the one that is found, and what is found is one
pub char_found : (s : List ℕ) (i : ℕ) (w r : List ℕ) → Char w → drop i s ≡ w ++ r → (char_len s i ≡ length w) × (0 < length w)
char_found s i w r x e =
    let n = found utf8_char (w ++ r) tt x.listed (fits_more x.form w r x.fit) in
    let p = filled utf8_char tt x.listed in
    (ap (form_len utf8_char) e ∙ n ∙ sym x.size, omega (arith, p, x.size))

pub char_at : (s : List ℕ) (i : ℕ) → (char_len s i ≡ 0 → ⊥) → Char (take (char_len s i) (drop i s))
char_at s i h =
    let x = fitting utf8_char (drop i s) h in
    rw x.size (record {
      form = x.form;
      listed = x.listed;
      fit = fits_take x.form (drop i s) ∙ x.fit;
      size = length-take-le (length x.form) (drop i s) (fits_inside x.form (drop i s) x.fit);
    })

cut : (s : List ℕ) (i n : ℕ) → drop i s ≡ take n (drop i s) ++ drop (i + n) s
cut s i n = rw (← drop-drop n i s) (sym (take-append-drop n (drop i s)))

-- over a text that is sequence after sequence nothing is found
pub over : {t : List ℕ} → Octets t → (s r : List ℕ) (i n : ℕ) → drop i s ≡ t ++ r → length s ≤ i + n → bad_from n s i ≡ bad_from n s (i + length t)
over none s r i n e h = ap (bad_from n s) (omega arith)
over (more {w} {s = t} x o) s r i n e h =
    let f = char_found s i w (t ++ r) x (e ∙ append_assoc w t r) in
    let d : drop (i + length w) s ≡ t ++ r = sym (drop-drop (length w) i s) ∙ ap (drop (length w)) (e ∙ append_assoc w t r) ∙ drop-append_seam w (t ++ r) in
    let long : length s - i ≡ length (w ++ t ++ r) = sym (length-drop i s) ∙ ap length e in
    next s n i (omega (arith, length-append (w ++ t) r, length-append w t, f.1)) h (λ z. omega (arith, f.0, f.1))
    ∙ ap (λ k. bad_from n s (i + k)) f.0
    ∙ over o s r (i + length w) n d (omega arith)
    ∙ ap (bad_from n s) (omega (arith, length-append w t))

-- where nothing is found the rest is sequence after sequence
pub rest : (n : ℕ) (s : List ℕ) (i : ℕ) → length s ≤ i + n → bad_from n s i ≡ None → Octets (drop i s)
unfolding bad_from
rest zero s i h e = rw (drop_of_length-le s {i = i} (omega arith)) none
rest (suc n) s i h e =
    let later = bad_from n s (i + char_len s i) in
    by_test
    (λ b. ltb i (length s) ≡ b → cond b (cond (eqb (char_len s i) 0) (Some i) later) None ≡ None → Octets (drop i s))
    (ltb i (length s))
    (λ y l g.
    by_test (λ b. eqb (char_len s i) 0 ≡ b → cond b (Some i) later ≡ None → Octets (drop i s)) (eqb (char_len s i) 0)
    (λ _ z k. absurd (let no : ◌≡◌ {A = ℕ} 0 1 = cc in omega arith))
    (λ _ z k.
    let q : char_len s i ≡ 0 → ⊥ = eqb-false (char_len s i) 0 z in
    subst Octets (sym (cut s i (char_len s i))) (more (char_at s i q) (rest n s (i + char_len s i) (omega arith) k)))
    refl g)
    (λ _ l g. rw (drop_of_length-le s {i = i} (ltb-false i (length s) l)) none)
    refl e

-- where j is found, sequence after sequence stands up to it, and none starts there
pub record Upto (s : List ℕ) (i j : ℕ) : Type 0 where
  pub on : i ≤ j
  pub inside : j < length s
  pub before : Octets (take (j - i) (drop i s))
  pub starts_none : char_len s j ≡ 0

pub upto : (n : ℕ) (s : List ℕ) (i j : ℕ) → bad_from n s i ≡ Some j → Upto s i j
unfolding bad_from
upto zero s i j e = absurd (let no : ◌≡◌ {A = ℕ} 0 1 = cc in omega arith)
upto (suc n) s i j e =
    let later = bad_from n s (i + char_len s i) in
    by_test
    (λ b. ltb i (length s) ≡ b → cond b (cond (eqb (char_len s i) 0) (Some i) later) None ≡ Some j → Upto s i j)
    (ltb i (length s))
    (λ y l g.
    by_test (λ b. eqb (char_len s i) 0 ≡ b → cond b (Some i) later ≡ Some j → Upto s i j) (eqb (char_len s i) 0)
    (λ _ z k.
    let here : i ≡ j = cc in
    let q : char_len s i ≡ 0 = eqb-true (char_len s i) 0 z in
    subst (Upto s i) here (record { on = omega arith; inside = ltb-true i (length s) l; before = subst (λ m. Octets (take m (drop i s))) (sym (sub_self i)) none; starts_none = q }))
    (λ _ z k.
    let q : char_len s i ≡ 0 → ⊥ = eqb-false (char_len s i) 0 z in
    let x = upto n s (i + char_len s i) j k in
    let o = x.on in
    let m : char_len s i + (j - (i + char_len s i)) ≡ j - i = omega arith in
    let t : take (char_len s i) (drop i s) ++ take (j - (i + char_len s i)) (drop (i + char_len s i) s) ≡ take (j - i) (drop i s) =
    ap (λ d. take (char_len s i) (drop i s) ++ take (j - (i + char_len s i)) d) (sym (drop-drop (char_len s i) i s))
    ∙ sym (take-add (char_len s i) (j - (i + char_len s i)) (drop i s))
    ∙ ap (λ m. take m (drop i s)) m in
    record { on = omega arith; inside = x.inside; before = subst Octets t (more (char_at s i q) x.before); starts_none = x.starts_none })
    refl g)
    (λ _ l g. absurd (let no : ◌≡◌ {A = ℕ} 0 1 = cc in omega arith))
    refl e
