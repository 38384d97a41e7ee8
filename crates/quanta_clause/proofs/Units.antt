-- The units of time by their text, and `after` before a duration.
-- Assumes nothing.
use mathlib.Core.Path.{◌≡◌, refl, ap, sym, subst, ◌∙◌}
use mathlib.Core.Bool.{Bool, true, false, ◌&&◌, ◌||◌}
use mathlib.Core.List.{List, [], ◌∷◌}
use Prim.Native.Nat.{ℕ, suc, ◌+◌, ◌-◌, ◌<◌, ◌≤◌}
use native.Mathlib.Numerals.{add-one}
use native.Mathlib.Omega.{arith}
use lib.Dec.{T, eqb, eqb→eq, ltb}
use lib.ListN.{take, drop}
use borrow.Author.Tests.{eq-eqb, ne_eqb, ltb-true, ltb-false}
use Rattle.grammar.proofs.Table.{both}
use Rattle.quanta_token.specs.TokenKind.{code, Ident, Int, After, Shr, Eof}
use Rattle.quanta_token.specs.declared.edition.Edition.{Edition}
use Rattle.quanta_token.specs.declared.edition.Edition.TheVariants.{One, Two}
use Rattle.quanta_token.specs.Text.{bytes, same}
use Rattle.quanta_grammar.specs.FineKind.{fine, OfWord, UnitWord, AfterSpan, TwoClosers}
use Rattle.quanta_grammar.specs.Refine.{Text, Plain, text_of, in_edition, text_kind, word_kind, spells, of, units}
use Rattle.quanta_grammar.specs.Refine.{classify, span_here}
use Rattle.quanta_cursor.specs.declared.parser.Span.{Span}
use Rattle.quanta_cursor.specs.Cursor.{span_at}
use Rattle.quanta_cursor.specs.Tokens.{size, kind_at, plain_at, plain_from, fine_at, Closed}
use Rattle.quanta_cursor.proofs.Places.{run_none, plain_at_lem, past_as}
use Rattle.quanta_type.proofs.Words.{text_kind_lem, text_is}
use Rattle.quanta_clause.specs.Units.{is_unit, is_duration}

or_no : (a : Bool) → a || false ≡ a
or_no true = refl
or_no false = refl

-- A UNIT does not spell `of`
and_true : (a b : Bool) → a && b ≡ true → (a ≡ true) × (b ≡ true)
and_true true true e = (refl, refl)
and_true true false e = (refl, e)
and_true false b e = absurd (subst T (sym e) tt)

same_eq : (a b : List ℕ) → same a b ≡ true → a ≡ b
unfolding same
same_eq [] [] e = refl
same_eq [] (y ∷ ys) e = absurd (subst T (sym e) tt)
same_eq (x ∷ xs) [] e = absurd (subst T (sym e) tt)
same_eq (x ∷ xs) (y ∷ ys) e =
    let z = and_true (eqb x y) (same xs ys) e in
    ap (λ (n : ℕ). n ∷ xs) (eqb→eq x y (subst T (sym z.0) tt)) ∙ ap (λ (l : List ℕ). y ∷ l) (same_eq xs ys z.1)

of_no_unit : (w : List ℕ) → same w (bytes "of") ≡ true → spells units w ≡ false
unfolding same
of_no_unit w e = ap (spells units) (same_eq w (bytes "of") e)

abbrev worded : Bool → Bool → ℕ
worded a b = elim a as (λ z. ℕ) [ true ↦ fine OfWord | false ↦ elim b as (λ z. ℕ) [ true ↦ fine UnitWord | false ↦ code Ident ] ]

abbrev sharp : ℕ → Bool → ℕ
sharp k c = elim (eqb k (code After) && c) as (λ z. ℕ) [ true ↦ fine AfterSpan | false ↦ k ]

-- the condition on `after` does not touch a unit
sharp_unit : (k : ℕ) (c : Bool) → eqb (sharp k c) (fine UnitWord) ≡ eqb k (fine UnitWord)
sharp_unit k c = go (eqb k (code After) && c) (λ t. eqb→eq k (code After) (both (eqb k (code After)) c t).0)
  where
    go : (b : Bool) → (T b → k ≡ code After) → eqb (elim b as (λ z. ℕ) [ true ↦ fine AfterSpan | false ↦ k ]) (fine UnitWord) ≡ eqb k (fine UnitWord)
    go true e = ap (λ (k : ℕ). eqb k (fine UnitWord)) (sym (e tt))
    go false e = refl

pub fine_unit : (src : Text) (ws : List ℕ) (i : ℕ) → is_unit src ws i ≡ eqb (text_kind src (plain_at ws i)) (fine UnitWord)
unfolding fine_at
fine_unit src ws i = or_no (eqb (sharp (text_kind src (plain_at ws i)) (span_here (classify src (suc i) (plain_from ws (suc i))))) (fine UnitWord)) ∙ sharp_unit (text_kind src (plain_at ws i)) (span_here (classify src (suc i) (plain_from ws (suc i))))

-- AN IDENTIFIER is of the finer kind where it spells a unit
unit_by : (a b : Bool) → (a ≡ true → b ≡ false) → eqb (worded (a || false) b) (fine UnitWord) ≡ b
unit_by true b e = sym (e refl)
unit_by false true e = refl
unit_by false false e = refl

pub unit_word_lem : (src : Text) (ws : List ℕ) (i : ℕ) {w : List ℕ} {s : Span} {a e : ℕ} {r : Bool} → kind_at ws i ≡ code Ident → s ≡ span_at ws i → a ≡ s.start → e ≡ s.end → w ≡ take (e - a) (drop a src.source) → r ≡ spells units w → r ≡ is_unit src ws i
unit_word_lem src ws i k x y z v f =
    let t = text_of src.source (plain_at ws i) in
    f ∙ ap (spells units) (text_is src ws i x y z v) ∙ sym (unit_by (same t (bytes "of")) (spells units t) (of_no_unit t))
    ∙ ap (λ (k : ℕ). eqb k (fine UnitWord)) (sym (text_kind_lem src ws i k)) ∙ sym (fine_unit src ws i)

-- .. and no other token is. An edition changes the kind of `>>` alone
in_edition_lem : (e : Edition) (k c : ℕ) → eqb (fine TwoClosers) c ≡ eqb (code Shr) c → eqb (in_edition e k) c ≡ eqb k c
in_edition_lem One k c h = refl
in_edition_lem Two k c h = go (eqb k (code Shr)) (eqb→eq k (code Shr))
  where
    go : (b : Bool) → (T b → k ≡ code Shr)
        → eqb (elim b as (λ z. ℕ) [ true ↦ fine TwoClosers | false ↦ k ]) c ≡ eqb k c
    go true e = h ∙ ap (λ (k : ℕ). eqb k c) (sym (e tt))
    go false e = refl

after_in : (e : Edition) → in_edition e (code After) ≡ code After
after_in One = refl
after_in Two = refl

plain_kind_lem : (src : Text) (ws : List ℕ) (i : ℕ) → (kind_at ws i ≡ code Ident → ⊥)
    → text_kind src (plain_at ws i) ≡ in_edition src.edition (kind_at ws i)
plain_kind_lem src ws i n =
    ap (λ (b : Bool). elim b as (λ z. ℕ)
    [ true ↦ word_kind (text_of src.source (plain_at ws i)) | false ↦ in_edition src.edition (kind_at ws i) ])
    (ne_eqb (kind_at ws i) (code Ident) n)

pub not_unit : (src : Text) (ws : List ℕ) (i : ℕ) → (kind_at ws i ≡ code Ident → ⊥) → kind_at ws i ≤ code Eof → false ≡ is_unit src ws i
not_unit src ws i n h =
    sym (fine_unit src ws i
    ∙ ap (λ (k : ℕ). eqb k (fine UnitWord)) (plain_kind_lem src ws i n)
    ∙ in_edition_lem src.edition (kind_at ws i) (fine UnitWord) refl
    ∙ ne_eqb (kind_at ws i) (fine UnitWord) (λ e. omega arith))

-- A DURATION, as the code tells it
pub no_duration : (src : Text) (ws : List ℕ) (i : ℕ) → (kind_at ws i ≡ code Int → ⊥) → false ≡ is_duration src ws i
no_duration src ws i n = ap (λ (b : Bool). b && is_unit src ws (i + 1)) (sym (ne_eqb (kind_at ws i) (code Int) n))

pub some_duration : (src : Text) (ws : List ℕ) (i : ℕ) {p : ℕ} {r : Bool} → kind_at ws i ≡ code Int → p ≡ i + 1 → r ≡ is_unit src ws p → r ≡ is_duration src ws i
some_duration src ws i e q f = f ∙ ap (λ (j : ℕ). is_unit src ws j) q ∙ ap (λ (b : Bool). b && is_unit src ws (i + 1)) (sym (eq-eqb (kind_at ws i) (code Int) e))

-- `AFTER` is of the finer kind before a duration
plain_end : (ws : List ℕ) (i : ℕ) → size ws ≤ i → plain_from ws i ≡ []
unfolding plain_from
plain_end ws i h = run_none ws i (size ws - i) (omega arith)

-- neither the text nor the edition touches an integer
text_int : (src : Text) (ws : List ℕ) (i : ℕ)
    → eqb (text_kind src (plain_at ws i)) (code Int) ≡ eqb (kind_at ws i) (code Int)
text_int src ws i =
    let w = text_of src.source (plain_at ws i) in
    go (eqb (kind_at ws i) (code Ident)) (eqb→eq (kind_at ws i) (code Ident)) (spells of w) (spells units w)
  where
    go : (b : Bool) → (T b → kind_at ws i ≡ code Ident) → (o u : Bool)
        → eqb (elim b as (λ z. ℕ) [ true ↦ worded o u | false ↦ in_edition src.edition (kind_at ws i) ]) (code Int)
        ≡ eqb (kind_at ws i) (code Int)
    go true e true u = ap (λ (k : ℕ). eqb k (code Int)) (sym (e tt))
    go true e false true = ap (λ (k : ℕ). eqb k (code Int)) (sym (e tt))
    go true e false false = ap (λ (k : ℕ). eqb k (code Int)) (sym (e tt))
    go false e o u = in_edition_lem src.edition (kind_at ws i) (code Int) refl

span_here_lem : (src : Text) (ws : List ℕ) (i : ℕ) → Closed ws → i < size ws → span_here (classify src i (plain_from ws i)) ≡ is_duration src ws i
span_here_lem src ws i c h = ap (λ (ts : List Plain). span_here (classify src i ts)) (plain_at_lem ws i h) ∙ go (ltb (suc i) (size ws)) refl
  where
    here : eqb (text_kind src (plain_at ws i)) (code Int) && eqb (text_kind src (plain_at ws (suc i))) (fine UnitWord) ≡ is_duration src ws i
    here =
        ap (λ (b : Bool). b && eqb (text_kind src (plain_at ws (suc i))) (fine UnitWord)) (text_int src ws i)
        ∙ ap (λ (b : Bool). eqb (kind_at ws i) (code Int) && b) (sym (fine_unit src ws (suc i)))
        ∙ ap (λ (j : ℕ). eqb (kind_at ws i) (code Int) && is_unit src ws j) (sym (add-one i))

    go : (b : Bool) → ltb (suc i) (size ws) ≡ b → span_here (classify src i (plain_at ws i ∷ plain_from ws (suc i))) ≡ is_duration src ws i
    go true e = ap (λ (ts : List Plain). span_here (classify src i (plain_at ws i ∷ ts))) (plain_at_lem ws (suc i) (ltb-true (suc i) (size ws) e)) ∙ here
    go false e =
        let z = ltb-false (suc i) (size ws) e in
        let y : i ≡ size ws - 1 = omega arith in
        ap (λ (ts : List Plain). span_here (classify src i (plain_at ws i ∷ ts))) (plain_end ws (suc i) z)
        ∙ no_duration src ws i (λ f. let k : kind_at ws i ≡ code Eof = ap (kind_at ws) y ∙ c.last in omega arith)

abbrev pub after_kind : Bool → ℕ
after_kind b = elim b as (λ z. ℕ) [ true ↦ fine AfterSpan | false ↦ code After ]

pub after_kind_lem : (src : Text) (ws : List ℕ) (i : ℕ) → Closed ws → i < size ws → kind_at ws i ≡ code After → fine_at src ws i ≡ after_kind (is_duration src ws (i + 1))
unfolding fine_at
after_kind_lem src ws i c h e =
    ap (λ (k : ℕ). sharp k (span_here (classify src (suc i) (plain_from ws (suc i)))))
    (plain_kind_lem src ws i (λ f. omega arith) ∙ ap (in_edition src.edition) e ∙ after_in src.edition)
    ∙ ap (λ (j : ℕ). after_kind (span_here (classify src j (plain_from ws j)))) (sym (add-one i))
    ∙ ap after_kind (span_here_lem src ws (i + 1) c (past_as (code After) (λ u. u) c h e))
