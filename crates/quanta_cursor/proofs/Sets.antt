-- Sets of kinds: what the code tests is the lexer's kind, what the grammar asks is the finer one. A set that does not tell them apart has both or none.
-- Assumes nothing.
use mathlib.Core.Path.{◌≡◌, refl, ap, sym, subst, ◌∙◌}
use mathlib.Core.Bool.{Bool, true, false, not, ◌&&◌}
use mathlib.Core.List.{List, [], ◌∷◌}
use Prim.Native.Nat.{ℕ, suc, ◌≤◌, ◌<◌}
use native.Mathlib.Omega.{arith}
use lib.Dec.{T, eqb, eqb→eq, eqb_refl, leb, le→leb}
use Rattle.grammar.specs.Grammar.{Tok, has}
use Rattle.grammar.proofs.Lines.{stays}
use Rattle.quanta_grammar.specs.Productions.{grammar}
use Rattle.grammar.proofs.Table.{both, or_cases, or_left, or_right}
use Rattle.quanta_token.specs.TokenKind.{code, Ident, After, Shr, Eof}
use Rattle.quanta_token.specs.declared.edition.Edition.{Edition}
use Rattle.quanta_token.specs.declared.edition.Edition.TheVariants.{One, Two}
use Rattle.quanta_grammar.specs.FineKind.{fine, OfWord, UnitWord, AfterSpan, TwoClosers, OneCloser}
use Rattle.quanta_grammar.specs.Refine.{Text, Plain, in_edition, word_kind, text_of, text_kind, classify, span_here, of, spells, units, plain_kind}
use Rattle.quanta_cursor.specs.Tokens.{size, kind_at, plain_at, plain_from, fine_at, Closed}

-- a kind that is in a set, and one that is in none
pub is_in : (cs : List ℕ) (c : ℕ) {j k : ℕ} → j ≡ k → j ≡ c → T (has cs c) → T (has cs k)
is_in cs c e f t = subst (λ (i : ℕ). T (has cs i)) (sym f ∙ e) t

abbrev pub Apart : List ℕ → ℕ → Type 0
Apart [] k = Unit {0}
Apart (c ∷ cs) k = (k ≡ c → ⊥) × Apart cs k

pub apart : (cs : List ℕ) (k : ℕ) → Apart cs k → T (has cs k) → ⊥
apart [] k a t = t
apart (c ∷ cs) k a t = or_cases (eqb k c) (has cs k) t (λ x. a.0 (eqb→eq k c x)) (λ x. apart cs k a.1 x)

-- the lexer's kinds of a set
abbrev pub lows : List ℕ → List ℕ
lows [] = []
lows (c ∷ cs) = elim (leb c (code Eof)) [ true ↦ c ∷ lows cs | false ↦ lows cs ]

low_has : (cs : List ℕ) (k : ℕ) → k ≤ code Eof → T (has cs k) → T (has (lows cs) k)
low_has [] k h t = t
low_has (c ∷ cs) k h t = go (leb c (code Eof)) (λ x. subst (λ (i : ℕ). T (leb i (code Eof))) (eqb→eq k c x) (le→leb k (code Eof) h)) (λ x. low_has cs k h x)
  where
    go : (b : Bool) → (T (eqb k c) → T b) → (T (has cs k) → T (has (lows cs) k)) → T (has (elim b [ true ↦ c ∷ lows cs | false ↦ lows cs ]) k)
    go true e f = or_cases (eqb k c) (has cs k) t (λ x. or_left (eqb k c) (has (lows cs) k) x) (λ x. or_right (eqb k c) (has (lows cs) k) (f x))
    go false e f = or_cases (eqb k c) (has cs k) t (λ x. absurd (e x)) f

pub not_in : (cs : List ℕ) {j k : ℕ} → j ≡ k → k ≤ code Eof → Apart (lows cs) j → T (has cs k) → ⊥
not_in cs {j} {k} e h a t = apart (lows cs) j a (subst (λ (i : ℕ). T (has (lows cs) i)) (sym e) (low_has cs k h t))

-- one kind
pub is_one : {k : ℕ} (c : ℕ) → k ≡ c → T (has (c ∷ []) k)
is_one {k} c e = or_left (eqb k c) false (subst (λ (i : ℕ). T (eqb i c)) (sym e) (eqb_refl c))

pub not_one : {k : ℕ} (c : ℕ) → (k ≡ c → ⊥) → T (has (c ∷ []) k) → ⊥
not_one {k} c n = apart (c ∷ []) k (n, tt)

-- what does not tell the finer kinds from the plain ones is the same of both
module _ {A : Type 0} (f : ℕ → A) (of_word : f (fine OfWord) ≡ f (code Ident)) (unit_word_lem : f (fine UnitWord) ≡ f (code Ident)) (after_span_lem : f (fine AfterSpan) ≡ f (code After)) (shr_pair : f (fine TwoClosers) ≡ f (code Shr)) where
  word_kind_lem : (w : List ℕ) → f (word_kind w) ≡ f (code Ident)
  word_kind_lem w = go (spells of w) (spells units w)
    where
      go : (a b : Bool) → f (elim a [ true ↦ fine OfWord | false ↦ elim b [ true ↦ fine UnitWord | false ↦ code Ident ] ]) ≡ f (code Ident)
      go true b = of_word
      go false true = unit_word_lem
      go false false = refl

  shr_kind : (e : Edition) (k : ℕ) → f (in_edition e k) ≡ f k
  shr_kind One k = refl
  shr_kind Two k = go (eqb k (code Shr)) (eqb→eq k (code Shr))
    where
      go : (b : Bool) → (T b → k ≡ code Shr) → f (elim b [ true ↦ fine TwoClosers | false ↦ k ]) ≡ f k
      go true e = shr_pair ∙ ap f (sym (e tt))
      go false e = refl

  text_kind_lem : (src : Text) (t : Plain) → f (text_kind src t) ≡ f t.kind
  text_kind_lem src t = go (eqb t.kind (code Ident)) (eqb→eq t.kind (code Ident)) (word_kind (text_of src.source t)) (word_kind_lem (text_of src.source t))
    where
      go : (b : Bool) → (T b → t.kind ≡ code Ident) → (k : ℕ) → f k ≡ f (code Ident) → f (elim b [ true ↦ k | false ↦ in_edition src.edition t.kind ]) ≡ f t.kind
      go true e k h = h ∙ ap f (sym (e tt))
      go false e k h = shr_kind src.edition t.kind

  sharp_kind : (k : ℕ) (c : Bool) → f (elim (eqb k (code After) && c) [ true ↦ fine AfterSpan | false ↦ k ]) ≡ f k
  sharp_kind k c = go (eqb k (code After) && c) (λ t. eqb→eq k (code After) (both (eqb k (code After)) c t).0)
    where
      go : (b : Bool) → (T b → k ≡ code After) → f (elim b [ true ↦ fine AfterSpan | false ↦ k ]) ≡ f k
      go true e = after_span_lem ∙ ap f (sym (e tt))
      go false e = refl

  pub fine_kind : (src : Text) (ws : List ℕ) (i : ℕ) → f (fine_at src ws i) ≡ f (kind_at ws i)
  unfolding fine_at
  fine_kind src ws i = sharp_kind (text_kind src (plain_at ws i)) (span_here (classify src (suc i) (plain_from ws (suc i)))) ∙ text_kind_lem src (plain_at ws i)

-- .. so of a set that passes this test
abbrev same : Bool → Bool → Bool
same true b = b
same false b = not b

abbrev pub coarse : List ℕ → Bool
coarse cs =
    same (has cs (fine OfWord)) (has cs (code Ident)) && (same (has cs (fine UnitWord)) (has cs (code Ident)) && (same (has cs (fine AfterSpan)) (has cs (code After))
    && (same (has cs (fine TwoClosers)) (has cs (code Shr)) && not (has cs (fine OneCloser)))))

same_eq : (a b : Bool) → T (same a b) → a ≡ b
same_eq true true t = refl
same_eq true false t = absurd t
same_eq false true t = absurd t
same_eq false false t = refl

pub same_set : (cs : List ℕ) → T (coarse cs) → (src : Text) (ws : List ℕ) (i : ℕ) → has cs (fine_at src ws i) ≡ has cs (kind_at ws i)
same_set cs h =
    let l = both (same (has cs (fine OfWord)) (has cs (code Ident))) (same (has cs (fine UnitWord)) (has cs (code Ident)) && (same (has cs (fine AfterSpan)) (has cs (code After)) && (same (has cs (fine TwoClosers)) (has cs (code Shr)) && not (has cs (fine OneCloser))))) h in
    let m = both (same (has cs (fine UnitWord)) (has cs (code Ident))) (same (has cs (fine AfterSpan)) (has cs (code After)) && (same (has cs (fine TwoClosers)) (has cs (code Shr)) && not (has cs (fine OneCloser)))) l.1 in
    let n = both (same (has cs (fine AfterSpan)) (has cs (code After))) (same (has cs (fine TwoClosers)) (has cs (code Shr)) && not (has cs (fine OneCloser))) m.1 in
    let o = both (same (has cs (fine TwoClosers)) (has cs (code Shr))) (not (has cs (fine OneCloser))) n.1 in
    fine_kind (has cs) (same_eq (has cs (fine OfWord)) (has cs (code Ident)) l.0) (same_eq (has cs (fine UnitWord)) (has cs (code Ident)) m.0) (same_eq (has cs (fine AfterSpan)) (has cs (code After)) n.0) (same_eq (has cs (fine TwoClosers)) (has cs (code Shr)) o.0)

-- .. and such a set wants no half
pub unhalved : (cs : List ℕ) → T (coarse cs) → T (not (has cs (fine OneCloser)))
unhalved cs h =
    let l = both (same (has cs (fine OfWord)) (has cs (code Ident))) (same (has cs (fine UnitWord)) (has cs (code Ident)) && (same (has cs (fine AfterSpan)) (has cs (code After)) && (same (has cs (fine TwoClosers)) (has cs (code Shr)) && not (has cs (fine OneCloser))))) h in
    let m = both (same (has cs (fine UnitWord)) (has cs (code Ident))) (same (has cs (fine AfterSpan)) (has cs (code After)) && (same (has cs (fine TwoClosers)) (has cs (code Shr)) && not (has cs (fine OneCloser)))) l.1 in
    let n = both (same (has cs (fine AfterSpan)) (has cs (code After))) (same (has cs (fine TwoClosers)) (has cs (code Shr)) && not (has cs (fine OneCloser))) m.1 in
    (both (same (has cs (fine TwoClosers)) (has cs (code Shr))) (not (has cs (fine OneCloser))) n.1).1

pub unhalved_at : (cs : List ℕ) (t : Tok) → T (not (has cs (fine OneCloser))) → T (stays grammar cs t)
unhalved_at cs t n = go (has cs (fine OneCloser)) (eqb t.kind (fine TwoClosers)) n
  where
    go : (a b : Bool) → T (not a) → T (not (a && b))
    go true b n = absurd n
    go false b n = tt

module _ (cs : List ℕ) (h : T (coarse cs)) (src : Text) (ws : List ℕ) (i : ℕ) where
  pub fine_in : T (has cs (kind_at ws i)) → T (has cs (fine_at src ws i))
  fine_in t = subst T (sym (same_set cs h src ws i)) t

  pub fine_out : (T (has cs (kind_at ws i)) → ⊥) → T (has cs (fine_at src ws i)) → ⊥
  fine_out n t = n (subst T (same_set cs h src ws i) t)

-- the lexer's kind comes back
no_elim : (b : Bool) (x y : ℕ) → (T b → ⊥) → elim b as (λ z. ℕ) [ true ↦ x | false ↦ y ] ≡ y
no_elim true x y h = absurd (h tt)
no_elim false x y h = refl

pub plain_low : (k : ℕ) → k ≤ code Eof → plain_kind k ≡ k
plain_low k h =
    no_elim (has (fine OfWord ∷ fine UnitWord ∷ []) k) _ _ (apart (fine OfWord ∷ fine UnitWord ∷ []) k (λ e. omega arith, (λ e. omega arith, tt)))
    ∙ no_elim (eqb k (fine AfterSpan)) _ _ (λ x. let e = eqb→eq k (fine AfterSpan) x in omega arith)
    ∙ no_elim (eqb k (fine TwoClosers)) _ _ (λ x. let e = eqb→eq k (fine TwoClosers) x in omega arith)
    ∙ no_elim (eqb k (fine OneCloser)) _ _ (λ x. let e = eqb→eq k (fine OneCloser) x in omega arith)

pub plain_at_lem : {ws : List ℕ} (src : Text) (i : ℕ) → Closed ws → i < size ws → plain_kind (fine_at src ws i) ≡ kind_at ws i
plain_at_lem {ws} src i c h = fine_kind plain_kind refl refl refl refl src ws i ∙ plain_low (kind_at ws i) (c.known i h).1
