-- A part of the source, and the word `of` by its text.
-- Assumes nothing.
use mathlib.Core.Path.{◌≡◌, refl, ap, sym, subst, ◌∙◌}
use mathlib.Core.Bool.{Bool, true, false, ◌&&◌, ◌||◌}
use mathlib.Core.List.{List, [], ◌∷◌}
use Prim.Native.Nat.{ℕ, suc, ◌-◌, ◌≤◌}
use native.Mathlib.Omega.{arith}
use lib.Dec.{eqb}
use lib.ListN.{length, take, drop, length-drop, drop_of_length-le}
use lib.Seq.{take_all, take-nil}
use borrow.Author.Tests.{eq-eqb, ne_eqb}
use Rattle.grammar.specs.Grammar.{has}
use Rattle.quanta_token.specs.TokenKind.{code, Ident, After, Shr, Eof}
use Rattle.quanta_token.specs.declared.edition.Edition.{Edition}
use Rattle.quanta_token.specs.declared.edition.Edition.TheVariants.{One, Two}
use Rattle.quanta_grammar.specs.FineKind.{fine, OfWord, UnitWord, AfterSpan, TwoClosers}
use Rattle.quanta_token.specs.Text.{bytes, same}
use Rattle.quanta_grammar.specs.Refine.{Text, in_edition, text_of, text_kind, word_kind, spells, units, classify, span_here}
use Rattle.quanta_cursor.specs.declared.parser.Span.{Span}
use Rattle.quanta_cursor.specs.Cursor.{span_at}
use Rattle.quanta_cursor.specs.Tokens.{kind_at, plain_at, plain_from, fine_at}
use Rattle.quanta_type.specs.Words.{is_of}

-- A PART that is empty, and one up to the end
pub part_none : (s : List ℕ) (a e : ℕ) → e ≤ a → take (e - a) (drop a s) ≡ []
part_none s a e h = let z : e - a ≡ 0 = omega arith in ap (λ (n : ℕ). take n (drop a s)) z

pub part_past : (s : List ℕ) (a e : ℕ) → length s ≤ a → take (e - a) (drop a s) ≡ []
part_past s a e h = ap (λ (l : List ℕ). take (e - a) l) (drop_of_length-le s h) ∙ take-nil (e - a)

pub part_rest : (s : List ℕ) (a e : ℕ) → length s ≤ e → take (length s - a) (drop a s) ≡ take (e - a) (drop a s)
part_rest s a e h =
    take_all (length s - a) (drop a s) (omega (arith, length-drop a s))
    ∙ sym (take_all (e - a) (drop a s) (omega (arith, length-drop a s)))

-- THE FINER KIND: a word's by the tests of its text, a token's by the test for an identifier, and a kind k where a
-- duration stands behind it or not
abbrev word_by : Bool → Bool → ℕ
word_by a b = elim (a || false) [ true ↦ fine OfWord | false ↦ elim b [ true ↦ fine UnitWord | false ↦ code Ident ] ]

abbrev kind_by : Text → List ℕ → ℕ → Bool → ℕ
kind_by src ws i b = elim b [
  | true ↦ word_kind (text_of src.source (plain_at ws i))
  | false ↦ in_edition src.edition (kind_at ws i)
]

abbrev sharp_by : ℕ → Bool → ℕ
sharp_by k c = elim (eqb k (code After) && c) [ true ↦ fine AfterSpan | false ↦ k ]

-- AN IDENTIFIER is of the finer kind where it spells `of`
word_of : (c a b : Bool) (k : ℕ) → k ≡ word_by a b → has (fine OfWord ∷ []) (sharp_by k c) ≡ a
word_of c a b k e = subst (λ (k : ℕ). has (fine OfWord ∷ []) (sharp_by k c) ≡ a) (sym e) (by a b)
  where
    by : (a b : Bool) → has (fine OfWord ∷ []) (sharp_by (word_by a b) c) ≡ a
    by true b = refl
    by false true = refl
    by false false = refl

pub text_kind_lem : (src : Text) (ws : List ℕ) (i : ℕ) → kind_at ws i ≡ code Ident
    → text_kind src (plain_at ws i) ≡ word_kind (text_of src.source (plain_at ws i))
text_kind_lem src ws i e = ap (kind_by src ws i) (eq-eqb (kind_at ws i) (code Ident) e)

-- the text that the code compared
pub text_is : (src : Text) (ws : List ℕ) (i : ℕ) {w : List ℕ} {s : Span} {a e : ℕ} → s ≡ span_at ws i → a ≡ s.start
    → e ≡ s.end → w ≡ take (e - a) (drop a src.source) → w ≡ text_of src.source (plain_at ws i)
text_is src ws i {w} {s} {a} {e} x y z v =
    let b : List ℕ = src.source in
    v ∙ ap (λ (n : ℕ). take (n - a) (drop a b)) z ∙ ap (λ (n : ℕ). take (s.end - n) (drop n b)) y
    ∙ ap (λ (s : Span). take (s.end - s.start) (drop s.start b)) x

pub of_word : (src : Text) (ws : List ℕ) (i : ℕ) {w : List ℕ} {s : Span} {a e : ℕ} {r : Bool}
    → kind_at ws i ≡ code Ident → s ≡ span_at ws i → a ≡ s.start → e ≡ s.end
    → w ≡ take (e - a) (drop a src.source) → r ≡ same w (bytes "of") → r ≡ is_of src ws i
unfolding fine_at
of_word src ws i k x y z v f =
    let w : List ℕ = text_of src.source (plain_at ws i) in
    let c : Bool = span_here (classify src (suc i) (plain_from ws (suc i))) in
    f ∙ ap (λ (w : List ℕ). same w (bytes "of")) (text_is src ws i x y z v)
    ∙ sym (word_of c (same w (bytes "of")) (spells units w) (text_kind src (plain_at ws i)) (text_kind_lem src ws i k))

-- .. and no other token is
no_word : (b : Bool) (e : Edition) (k : ℕ) → k ≤ code Eof
    → has (fine OfWord ∷ []) (elim b as (λ z. ℕ) [ true ↦ fine AfterSpan | false ↦ in_edition e k ]) ≡ false
no_word true e k h = refl
no_word false One k h = ap (λ (b : Bool). b || false) (ne_eqb k (fine OfWord) (λ e. omega arith))
no_word false Two k h = go (eqb k (code Shr))
  where
    go : (b : Bool) → has (fine OfWord ∷ []) (elim b as (λ z. ℕ) [ true ↦ fine TwoClosers | false ↦ k ]) ≡ false
    go true = refl
    go false = ap (λ (b : Bool). b || false) (ne_eqb k (fine OfWord) (λ e. omega arith))

pub not_of : (src : Text) (ws : List ℕ) (i : ℕ) → (kind_at ws i ≡ code Ident → ⊥) → kind_at ws i ≤ code Eof
    → false ≡ is_of src ws i
unfolding fine_at
not_of src ws i n h =
    let c : Bool = span_here (classify src (suc i) (plain_from ws (suc i))) in
    let k : ℕ = in_edition src.edition (kind_at ws i) in
    sym (ap (λ (k : ℕ). has (fine OfWord ∷ []) (sharp_by k c)) plain
    ∙ no_word (eqb k (code After) && c) src.edition (kind_at ws i) h)
  where
    plain : text_kind src (plain_at ws i) ≡ in_edition src.edition (kind_at ws i)
    plain = ap (kind_by src ws i) (ne_eqb (kind_at ws i) (code Ident) n)
