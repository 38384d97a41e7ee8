-- Where what stands at a place lies: it starts there, has at least a byte, and ends within the source; a token's kind
-- and a refusal's number are in range.
use Prim.Native.Nat.{ℕ, zero, suc, ◌+◌, ◌≤◌, ◌<◌}
use mathlib.Core.Path.{◌≡◌, refl, sym, subst, ◌∙◌}
use mathlib.Core.Bool.{Bool, true, false, ◌&&◌, ◌||◌, not, and-false, true≢false}
use mathlib.Core.List.{List, [], ◌∷◌}
use mathlib.Core.Logic.{◌⊎◌, inl, inr}
use native.Mathlib.Omega.{arith}
use lib.ListN.{length, get_or, get_or-eq_default}
use lib.Dec.{eqb, leb, ltb}
use borrow.Author.Tests.{leb-true, ltb-true, ltb-false, eqb-true, eqb-false, not-true, ne_eqb}
use Rattle.quanta_token.specs.declared.edition.Edition.{Edition}
use Rattle.quanta_token.specs.declared.edition.Edition.TheVariants.{One, Two}
use Rattle.quanta_token.specs.Bytes.{digit, word_start, goes_on}
use Rattle.quanta_token.specs.Keywords.{keywords, word_kind}
use Rattle.quanta_token.specs.Runs.{run_end}
use Rattle.quanta_token.specs.Symbols.{pairs, singles, no_kind, pair_kind, single_kind, if_any}
use Rattle.quanta_token.specs.Text.{Spelled, kind_if, kind_in, same}
use Rattle.quanta_token.specs.TokenKind.{code, Ident, Eof}
use Rattle.quanta_token.specs.declared.bytes.Run.TheVariants.{Word, Number, Quoted}
use Rattle.quanta_token.proofs.BoolLaws.{both}
use Rattle.quanta_token.proofs.RunLaws.{end_more, end_from, end_within, end_bounds}
use Rattle.quanta_lexer.specs.Refusals.{refusal, barred_word, other_byte, no_day}
use Rattle.quanta_lexer.specs.Scan.{Lexed, token, choose, word_at, date_at, number_at, string_at, dated, symbol_at, token_at}
use Rattle.std.specs.Prelude.{Option, Some, None, Ok, Err, cond}

-- the number of a failing token: 6 to 10, or 28 in edition 2, for the 11 bytes of a Date
abbrev pub Numbered : Edition → ℕ → ℕ → ℕ → Type 0
Numbered ed n a e = ((barred_word ≤ n) × (n ≤ other_byte)) ⊎ ((ed ≡ Two) × (n ≡ no_day) × (e ≡ a + 11))

abbrev pub StandsAt : Edition → List ℕ → ℕ → Lexed → Type 0
StandsAt ed s i (Ok (Some x)) =
    (x.start.0 ≡ i) × (i < x.end.0) × (x.end.0 ≤ length s) × (code Ident ≤ x.kind) × (x.kind < code Eof)
StandsAt ed s i (Ok None) = Unit
StandsAt ed s i (Err r) = (r.start ≡ i) × (i < r.end) × (r.end ≤ length s) × Numbered ed r.number r.start r.end

-- the kinds that the texts spell are numbered from lo on, below Eof
kinds : ℕ → List Spelled → Bool
kinds lo [] = true
kinds lo (e ∷ es) = (leb lo e.kind && ltb e.kind (code Eof)) && kinds lo es

kind_in_lem :
    (lo : ℕ) (es : List Spelled) (w : List ℕ) (other : ℕ) →
    kinds lo es ≡ true →
    (lo ≤ other) × (other < code Eof) →
    (lo ≤ kind_in es w other) × (kind_in es w other < code Eof)
unfolding kind_if kinds
kind_in_lem lo [] w other h o = o
kind_in_lem lo (e ∷ es) w other h o =
    let p = both (leb lo e.kind && ltb e.kind (code Eof)) (kinds lo es) h in
    let q = both (leb lo e.kind) (ltb e.kind (code Eof)) p.0 in
    at (same w e.text) refl q (kind_in_lem lo es w other p.1 o)
  where
    at :
        (b : Bool) →
        same w e.text ≡ b →
        (leb lo e.kind ≡ true) × (ltb e.kind (code Eof) ≡ true) →
        (lo ≤ kind_in es w other) × (kind_in es w other < code Eof) →
        (lo ≤ kind_in (e ∷ es) w other) × (kind_in (e ∷ es) w other < code Eof)
    at true q p ih = rw (q, kind_if) (leb-true _ _ p.0, ltb-true _ _ p.1)
    at false q p ih = rw (q, kind_if) ih

word_kind_lem : (w : List ℕ) → (code Ident ≤ word_kind w) × (word_kind w < code Eof)
unfolding word_kind kinds
word_kind_lem w = kind_in_lem (code Ident) keywords w (code Ident) refl (omega arith, omega arith)

pair_kind_lem : (c d : ℕ) → pair_kind c d < code Eof
unfolding pair_kind kinds
pair_kind_lem c d = (kind_in_lem no_kind pairs (c ∷ d ∷ []) no_kind refl (omega arith, omega arith)).1

single_kind_lem : (c : ℕ) → single_kind c < code Eof
unfolding single_kind kinds
single_kind_lem c = (kind_in_lem no_kind singles (c ∷ []) no_kind refl (omega arith, omega arith)).1

some : (k : ℕ) → not (eqb k no_kind) ≡ true → 1 ≤ k
some zero h = absurd (true≢false (sym h))
some (suc k) h = omega arith

-- a byte that is not 0 stands within the source
inside : (s : List ℕ) (i : ℕ) → (get_or s i 0 ≡ 0 → ⊥) → i < length s
inside s i h = at (ltb i (length s)) refl
  where
    at : (b : Bool) → ltb i (length s) ≡ b → i < length s
    at true e = ltb-true _ _ e
    at false e = absurd (h (get_or-eq_default s 0 (ltb-false _ _ e)))

-- a run that the first byte goes on with is not empty
moves :
    (p : ℕ → Bool) (s : List ℕ) (i : ℕ) →
    i < length s →
    p (get_or s i 0) ≡ true →
    (i < run_end p s i) × (run_end p s i ≤ length s)
moves p s i h t = (omega (arith, end_more p s i h t, end_from p s (i + 1)), end_within p s i (omega arith))

or_left : (a b : Bool) → a ≡ true → (a || b) ≡ true
or_left a b h = rw h

-- the last digit of a date shape stands within the source
pub date_inside : (s : List ℕ) (i : ℕ) → date_at s i ≡ true → i + 9 < length s
unfolding date_at
date_inside s i d =
    inside s (i + 9)
    (λ z.
    let f : date_at s i ≡ false = simp (z, and-false) in
    true≢false (sym d ∙ f))

pair_none : (c : ℕ) → pair_kind c 0 ≡ no_kind
unfolding pair_kind kind_if same
pair_none c = simp and-false

-- only edition 2 asks for days
asks : (ed : Edition) (s : List ℕ) (i : ℕ) → dated ed s i ≡ false → ed ≡ Two
asks One s i h = absurd (true≢false h)
asks Two s i h = refl

module _ (ed : Edition) (s : List ℕ) (i : ℕ) where
  -- by the two ways of a choice
  either :
      (b : Bool) (x y : Lexed) →
      (b ≡ true → StandsAt ed s i x) →
      (b ≡ false → StandsAt ed s i y) →
      StandsAt ed s i (choose b x y)
  unfolding choose
  either true x y f g = f refl
  either false x y f g = g refl

  word_stands : (t : List ℕ) → i < length s → word_start (get_or s i 0) ≡ true → StandsAt ed s i (word_at s t i)
  unfolding word_at
  word_stands t h w =
      let m = moves (goes_on Word) s i h (or_left (word_start (get_or s i 0)) (digit (get_or s i 0)) w) in
      let k = word_kind_lem _ in
      either _ _ _ (λ _. (refl, m.0, m.1, inl (omega arith, omega arith))) (λ _. (refl, m.0, m.1, k.0, k.1))

  number_stands : i < length s → digit (get_or s i 0) ≡ true → StandsAt ed s i (number_at s i)
  unfolding number_at
  number_stands h d =
      let m = moves (goes_on Number) s i h (or_left (digit (get_or s i 0)) (eqb (get_or s i 0) 0x5F) d) in
      either _ _ _
      (λ q. let l = date_inside s i q in (refl, omega arith, omega arith, inl (omega arith, omega arith)))
      (λ _.
      either _ _ _ (λ _. (refl, m.0, m.1, inl (omega arith, omega arith)))
      (λ _. (refl, m.0, m.1, omega arith, omega arith)))

  string_stands : i < length s → StandsAt ed s i (string_at s i)
  unfolding string_at
  string_stands h =
      let e = run_end (goes_on Quoted) s (i + 1) in
      let b : (i + 1 ≤ e) × (e ≤ length s) = end_bounds (goes_on Quoted) s (i + 1) e (omega arith) refl in
      either _ _ _
      (λ q.
      let c : get_or s e 0 ≡ 0x22 = eqb-true _ _ q in
      let l : e < length s = inside s e (λ z. let w : 0x22 ≡ 0 = sym c ∙ z in omega arith) in
      (refl, omega arith, omega arith, omega arith, omega arith))
      (λ _. (refl, omega arith, omega arith, inl (omega arith, omega arith)))

  symbol_stands : i < length s → StandsAt ed s i (symbol_at ed s i)
  unfolding symbol_at
  symbol_stands h =
      let c = get_or s i 0 in
      let d = get_or s (i + 1) 0 in
      either _ _ _
      (λ q.
      let m = date_inside s (i + 1) (both (eqb c 0x40) (date_at s (i + 1)) q).1 in
      either _ _ _ (λ _. (refl, omega arith, omega arith, omega arith, omega arith))
      (λ n. (refl, omega arith, omega arith, inr (asks ed s (i + 1) n, refl, refl))))
      (λ _.
      either _ _ _
      (λ q.
      let m = inside s (i + 1) (λ z. eqb-false (pair_kind c d) no_kind (not-true _ q) (rw z (pair_none c))) in
      (refl, omega arith, omega arith, some (pair_kind c d) q, pair_kind_lem c d))
      (λ _.
      either _ _ _ (λ q. (refl, omega arith, omega arith, some (single_kind c) q, single_kind_lem c))
      (λ _. (refl, omega arith, omega arith, inl (omega arith, omega arith)))))

pub token_stands : (ed : Edition) (s t : List ℕ) (i : ℕ) → StandsAt ed s i (token_at ed s t i)
unfolding token_at
token_stands ed s t i =
    either ed s i _ _ _
    (λ h.
    let l = ltb-true _ _ h in
    either ed s i _ _ _ (λ w. word_stands ed s i t l w)
    (λ _.
    either ed s i _ _ _ (λ d. number_stands ed s i l d)
    (λ _. either ed s i _ _ _ (λ _. string_stands ed s i l) (λ _. symbol_stands ed s i l))))
    (λ _. tt)

-- a date shape has a dash after its year
pub no_dash : (s : List ℕ) (i : ℕ) → (get_or s (i + 4) 0 ≡ 0x2D → ⊥) → date_at s i ≡ false
unfolding date_at
no_dash s i h =
    let year = digit (get_or s i 0) && digit (get_or s (i + 1) 0) && digit (get_or s (i + 2) 0) && digit (get_or s (i + 3) 0) in
    rw (ne_eqb (get_or s (i + 4) 0) 0x2D h, and-false year)

-- what a symbol's kind says of its number
abbrev Kinded : ℕ → Option ℕ → Type 0
Kinded k (Some t) = (eqb k no_kind ≡ false) × (t ≡ k)
Kinded k None = eqb k no_kind ≡ true

kinded : (k : ℕ) (b : Bool) → eqb k no_kind ≡ b → Kinded k (cond b None (Some k))
kinded k true e = e
kinded k false e = (e, refl)

some_kind : (k : ℕ) {o : Option ℕ} {t : ℕ} → o ≡ if_any k → o ≡ Some t → (eqb k no_kind ≡ false) × (t ≡ k)
unfolding if_any
some_kind k e z = subst (Kinded k) (sym e ∙ z) (kinded k (eqb k no_kind) refl)

none_kind : (k : ℕ) {o : Option ℕ} → o ≡ if_any k → ((t : ℕ) → o ≡ Some t → ⊥) → eqb k no_kind ≡ true
unfolding if_any
none_kind k {o} e n = at (eqb k no_kind) refl
  where
    at : (b : Bool) → eqb k no_kind ≡ b → eqb k no_kind ≡ true
    at true h = h
    at false h = absurd (n k (rw (e, h) refl))

-- WHERE NO DATE STANDS: a symbol of two bytes, a symbol of one, or another byte
module _ (ed : Edition) (s : List ℕ) (i : ℕ) (d : (eqb (get_or s i 0) 0x40 && date_at s (i + 1)) ≡ false) {b : ℕ}
    (z : b ≡ get_or s (i + 1) 0) {o : Option ℕ} (p : o ≡ if_any (pair_kind (get_or s i 0) b)) where
  pub symbol_pair : {t : ℕ} → o ≡ Some t → symbol_at ed s i ≡ Ok (Some (token t i (i + 2)))
  unfolding symbol_at choose
  symbol_pair e = let k = some_kind (pair_kind (get_or s i 0) b) p e in rw (d, ← z, k.0, k.1) refl

  module _ (n : (t : ℕ) → o ≡ Some t → ⊥) {o₁ : Option ℕ} (q : o₁ ≡ if_any (single_kind (get_or s i 0))) where
    pub symbol_single : {t : ℕ} → o₁ ≡ Some t → symbol_at ed s i ≡ Ok (Some (token t i (i + 1)))
    unfolding symbol_at choose
    symbol_single e =
        let m = none_kind (pair_kind (get_or s i 0) b) p n in
        let k = some_kind (single_kind (get_or s i 0)) q e in
        rw (d, ← z, m, k.0, k.1) refl

    pub symbol_none : ((t : ℕ) → o₁ ≡ Some t → ⊥) → symbol_at ed s i ≡ Err (refusal other_byte i (i + 1))
    unfolding symbol_at choose
    symbol_none n₁ =
        let m = none_kind (pair_kind (get_or s i 0) b) p n in
        let k = none_kind (single_kind (get_or s i 0)) q n₁ in
        rw (d, ← z, m, k) refl
