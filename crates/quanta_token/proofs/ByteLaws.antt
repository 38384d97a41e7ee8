-- The laws of the byte classes: what the chart says of a byte is what the tests say, by one test computed over the 256 bytes.
use Prim.Native.Nat.{ℕ, zero, suc, ◌<◌, ◌≤◌}
use mathlib.Core.Path.{◌≡◌, refl, sym, ◌∙◌}
use mathlib.Core.Bool.{Bool, true, false, not, ◌&&◌, or-true}
use native.Mathlib.Omega.{arith}
use lib.Dec.{eqb}
use borrow.Author.Tests.{eqb-true, eqb-false}
use Rattle.quanta_token.proofs.BoolLaws.{both}
use denote.Enum.Bare.{sameb, true_same, false_same}
use Rattle.std.proofs.Common.{rules, ◌⊎◌, inl, inr, List, length}
use Rattle.std.proofs.lemmas.Bool.{cases_lt}
use Rattle.std.proofs.lemmas.List.{get_or_past}
use Rattle.quanta_token.specs.declared.bytes.ByteClass.{ByteClass}
use Rattle.quanta_token.specs.declared.bytes.ByteClass.TheVariants.{WordStart, Digit, Blank, Quote, Other}
use Rattle.quanta_token.specs.contracts.bytes.ByteClass.{the_type}
use Rattle.quanta_token.specs.Bytes.{digit, word_start, word_byte, blank, class_of, Chart}

-- f holds of each number below n
unfoldable all : (ℕ → Bool) → ℕ → Bool
all f zero = true
all f (suc n) = f n && all f n

below : (f : ℕ → Bool) (n : ℕ) → all f n ≡ true → (c : ℕ) → c < n → f c ≡ true
unfolding all
below f zero h c l = absurd (omega arith)
below f (suc n) h c l = let p = both (f n) (all f n) h in at (eqb c n) refl p.0 (below f n p.1 c)
  where
    at : (b : Bool) → eqb c n ≡ b → f n ≡ true → (c < n → f c ≡ true) → f c ≡ true
    at true e here before = rw (eqb-true c n e) here
    at false e here before = before (omega (arith, eqb-false c n e))

agree : Bool → Bool → Bool
agree true b = b
agree false b = not b

agreed : (a b : Bool) → agree a b ≡ true → a ≡ b
unfolding agree
agreed true true h = refl
agreed true false h = sym h
agreed false true h = h
agreed false false h = refl

-- two tests that agree on each of the 256 bytes
equal : (f g : ℕ → Bool) → all (λ c. agree (f c) (g c)) 256 ≡ true → (c : ℕ) → c < 256 → f c ≡ g c
equal f g t c h = agreed (f c) (g c) (below (λ c. agree (f c) (g c)) 256 t c h)

-- whether a byte's class is k
abbrev pub classed : ByteClass → ℕ → Bool
classed k c = sameb the_type (class_of c) k

pub word_start_class : (c : ℕ) → c < 256 → classed WordStart c ≡ word_start c
unfolding all agree class_of
word_start_class = equal (classed WordStart) word_start refl

pub digit_class : (c : ℕ) → c < 256 → classed Digit c ≡ digit c
unfolding all agree class_of
digit_class = equal (classed Digit) digit refl

pub blank_class : (c : ℕ) → c < 256 → classed Blank c ≡ blank c
unfolding all agree class_of
blank_class = equal (classed Blank) blank refl

pub quote_class : (c : ℕ) → c < 256 → classed Quote c ≡ eqb c 0x22
unfolding all agree class_of
quote_class = equal (classed Quote) (λ c. eqb c 0x22) refl

-- a byte of another class
pub unlike : (k : ByteClass) (c : ℕ) (j : ByteClass) → j ≡ class_of c → (j ≡ k → ⊥) → classed k c ≡ false
unlike k c j e n = false_same the_type (search rules) _ _ (λ z. n (e ∙ z))

-- a word's byte is one of two classes
pub word_in : (c : ℕ) (k : ByteClass) → c < 256 → k ≡ class_of c → (k ≡ WordStart) ⊎ (k ≡ Digit) → true ≡ word_byte c
word_in c k l e (inl w) = rw (sym (word_start_class c l) ∙ true_same the_type _ _ (sym e ∙ w))
word_in c k l e (inr d) = rw (sym (digit_class c l) ∙ true_same the_type _ _ (sym e ∙ d), or-true)

pub word_out :
    (c : ℕ) (k : ByteClass) →
    c < 256 →
    k ≡ class_of c →
    (k ≡ WordStart → ⊥) →
    (k ≡ Digit → ⊥) →
    false ≡ word_byte c
word_out c k l e w d =
    rw (sym (word_start_class c l) ∙ unlike WordStart c k e w, sym (digit_class c l) ∙ unlike Digit c k e d)

-- a chart has all 256 entries: past its end it would say that a byte begins a word, and the last byte begins none
pub chart_whole : (t : List ByteClass) → Chart t → 255 < length t
unfolding class_of
chart_whole t h = at (cases_lt 255 (length t))
  where
    at : (255 < length t) ⊎ (length t ≤ 255) → 255 < length t
    at (inl l) = l
    at (inr s) = absurd (other (sym (get_or_past t 255 WordStart s) ∙ h 255 (omega arith)))
      where
        other : (WordStart ≡ Other) → ⊥
        other z = search rules
