-- The refinement takes nothing away and keeps the lexer's promise; so the theorems hold of the calls' answers.
-- Assumes nothing.
use mathlib.Core.Path.{◌≡◌, refl, ap, sym, ◌∙◌}
use mathlib.Core.Bool.{Bool, true, false, not, ◌&&◌, ◌||◌}
use mathlib.Core.List.{List, [], ◌∷◌, ◌++◌}
use Prim.Native.Nat.{ℕ, suc, ◌+◌, ◌≤◌}
use native.Mathlib.Omega.{arith}
use lib.Dec.{T, leb, leb→le, eqb, eqb→eq}
use Rattle.grammar.specs.Grammar.{Tok, head, has}
use Rattle.grammar.specs.Records.{Rec, nodes}
use Rattle.grammar.specs.Reader.{Res, got, bad, Refusal}
use Rattle.grammar.specs.Facts.{Derives, shut, Spaced, Counted}
use Rattle.grammar.proofs.Table.{both, and_intro, or_cases, not_yes}
use Rattle.grammar.proofs.Halves.{single}
use Rattle.grammar.proofs.Unique as Unique
use Rattle.grammar.proofs.Whole as Whole
use Rattle.quanta_token.specs.TokenKind.{code, Ident, After, Shr, Eof}
use Rattle.quanta_token.specs.declared.edition.Edition.{Edition}
use Rattle.quanta_token.specs.declared.edition.Edition.TheVariants.{One, Two}
use Rattle.quanta_grammar.specs.FineKind.{fine, OfWord, UnitWord, AfterSpan, TwoClosers, OneCloser}
use Rattle.quanta_grammar.specs.Productions.{Symbol, grammar, Derivation, outs}
use Rattle.quanta_grammar.specs.Names.{names}
use Rattle.quanta_grammar.specs.Reading.{toll, allowance, terms, plan, Call, parse}
use Rattle.quanta_grammar.specs.Refine.{Plain, Text, text, in_edition, word_kind, text_of, text_kind, classify, span_here, sharpen, ahead, refine, plain_kind, plains, kinds, closed, Ordered, of, spells, units, accept, answer_of, answer, Derived, marking}
use Rattle.quanta_grammar.specs.Complaint.{untold, plain, blunt, Complaint}
use Rattle.quanta_grammar.proofs.Tables.{fronts, follows, low, ok}
use Rattle.quanta_grammar.proofs.Calls.{ends}
use Rattle.quanta_grammar.proofs.Calls as Calls
use Rattle.quanta_grammar.proofs.Complaint.{untold_no, plain_single, complaint}

no_elim : (b : Bool) (x y : ℕ) → (T b → ⊥) → elim b as (λ z. ℕ) [ true ↦ x | false ↦ y ] ≡ y
no_elim true x y h = absurd (h tt)
no_elim false x y h = refl

plain_low : (k : ℕ) → k ≤ code Eof → plain_kind k ≡ k
plain_low k h =
    no_elim (has (fine OfWord ∷ fine UnitWord ∷ []) k) _ _ (λ x. or_cases (eqb k (fine OfWord)) (eqb k (fine UnitWord) || false) x (λ e. let z = eqb→eq k (fine OfWord) e in omega arith) (λ y. or_cases (eqb k (fine UnitWord)) false y (λ e. let z = eqb→eq k (fine UnitWord) e in omega arith) (λ e. e)))
    ∙ no_elim (eqb k (fine AfterSpan)) _ _ (λ e. let z = eqb→eq k (fine AfterSpan) e in omega arith)
    ∙ no_elim (eqb k (fine TwoClosers)) _ _ (λ e. let z = eqb→eq k (fine TwoClosers) e in omega arith)
    ∙ no_elim (eqb k (fine OneCloser)) _ _ (λ e. let z = eqb→eq k (fine OneCloser) e in omega arith)

-- by text, and by what is behind: a test that does not tell the finer kinds from the plain ones holds as before
module _ (f : ℕ → ℕ) (of_word : f (fine OfWord) ≡ f (code Ident)) (unit_word_lem : f (fine UnitWord) ≡ f (code Ident)) (after_span_lem : f (fine AfterSpan) ≡ f (code After)) (shr_pair : f (fine TwoClosers) ≡ f (code Shr)) where
  word_kind_lem : (w : List ℕ) → f (word_kind w) ≡ f (code Ident)
  word_kind_lem w = go (spells of w) (spells units w)
    where
      go : (a b : Bool) → f (elim a [ true ↦ fine OfWord | false ↦ elim b [ true ↦ fine UnitWord | false ↦ code Ident ] ]) ≡ f (code Ident)
      go true b = of_word
      go false true = unit_word_lem
      go false false = refl

  shr_kind : (e : Edition) (k : ℕ) → f (in_edition e k) ≡ f k
  shr_kind One k = refl
  shr_kind Two k = go (eqb k (code Shr)) (eqb→eq k (code Shr))
    where
      go : (b : Bool) → (T b → k ≡ code Shr) → f (elim b [ true ↦ fine TwoClosers | false ↦ k ]) ≡ f k
      go true e = shr_pair ∙ ap f (sym (e tt))
      go false e = refl

  text_kind_lem : (src : Text) (t : Plain) → f (text_kind src t) ≡ f t.kind
  text_kind_lem src t = go (eqb t.kind (code Ident)) (eqb→eq t.kind (code Ident)) (word_kind (text_of src.source t)) (word_kind_lem (text_of src.source t))
    where
      go : (b : Bool) → (T b → t.kind ≡ code Ident) → (k : ℕ) → f k ≡ f (code Ident) → f (elim b [ true ↦ k | false ↦ in_edition src.edition t.kind ]) ≡ f t.kind
      go true e k h = h ∙ ap f (sym (e tt))
      go false e k h = shr_kind src.edition t.kind

  sharp_kind : (k : ℕ) (c : Bool) → f (elim (eqb k (code After) && c) [ true ↦ fine AfterSpan | false ↦ k ]) ≡ f k
  sharp_kind k c = go (eqb k (code After) && c) (λ t. eqb→eq k (code After) (both (eqb k (code After)) c t).0)
    where
      go : (b : Bool) → (T b → k ≡ code After) → f (elim b [ true ↦ fine AfterSpan | false ↦ k ]) ≡ f k
      go true e = after_span_lem ∙ ap f (sym (e tt))
      go false e = refl

  fine_kind : (src : Text) (t : Plain) (c : Bool) → f (elim (eqb (text_kind src t) (code After) && c) [ true ↦ fine AfterSpan | false ↦ text_kind src t ]) ≡ f t.kind
  fine_kind src t c = sharp_kind (text_kind src t) c ∙ text_kind_lem src t

-- the lexer's tokens come back
restores : (src : Text) (n : ℕ) (ts : List Plain) → T (kinds ts) → plains (ahead (classify src n ts)) ≡ ts
restores src n [] h = refl
restores src n (t ∷ ts) h =
    let l = both (leb t.kind (code Eof)) (kinds ts) h in
    let p = fine_kind plain_kind refl refl refl refl src t (span_here (classify src (suc n) ts)) ∙ plain_low t.kind (leb→le t.kind (code Eof) l.0) in
    let q : record { kind = plain_kind (sharpen (record { place = n; kind = text_kind src t; start = t.start; stop = t.stop }) (classify src (suc n) ts)).kind; start = t.start; stop = t.stop } ≡ t = ap (λ k. record { kind = k; start = t.start; stop = t.stop }) p in
    let r = restores src (suc n) ts l.1 in
    cc

pub restored : (src : Text) (ts : List Plain) → T (kinds ts) → plains (refine src ts) ≡ ts
restored src = restores src 0

-- they are counted from 0, and stand as they stood
counts : (src : Text) (n : ℕ) (ts : List Plain) → Counted n (ahead (classify src n ts))
counts src n [] = tt
counts src n (t ∷ ts) = (refl, counts src (suc n) ts)

pub counted : (src : Text) (ts : List Plain) → Counted 0 (refine src ts)
counted src = counts src 0

spaces : (src : Text) (n : ℕ) (ts : List Plain) (lo hi : ℕ) → Ordered lo hi ts → Spaced lo hi (ahead (classify src n ts))
spaces src n [] lo hi h = h
spaces src n (t ∷ ts) lo hi h = (h.0, h.1, spaces src (suc n) ts t.stop hi h.2)

pub spaced : (src : Text) (ts : List Plain) (lo hi : ℕ) → Ordered lo hi ts → Spaced lo hi (refine src ts)
spaced src = spaces src 0

-- Eof stays at the end, and only there
abbrev bit_of : Bool → ℕ
bit_of true = 1
bit_of false = 0

bit_eq : (a b : Bool) → bit_of a ≡ bit_of b → a ≡ b
bit_eq true true e = refl
bit_eq true false e = absurd (omega arith)
bit_eq false true e = absurd (omega arith)
bit_eq false false e = refl

eof_kind : (src : Text) (t : Plain) (c : Bool) → eqb (elim (eqb (text_kind src t) (code After) && c) [ true ↦ fine AfterSpan | false ↦ text_kind src t ]) (code Eof) ≡ eqb t.kind (code Eof)
eof_kind src t c = bit_eq (eqb (elim (eqb (text_kind src t) (code After) && c) [ true ↦ fine AfterSpan | false ↦ text_kind src t ]) (code Eof)) (eqb t.kind (code Eof)) (fine_kind (λ k. bit_of (eqb k (code Eof))) refl refl refl refl src t c)

shuts : (src : Text) (n : ℕ) (ts : List Plain) → T (closed ts) → T (shut (code Eof) (ahead (classify src n ts)))
shuts src n [] h = absurd h
shuts src n (t ∷ []) h = rw (eof_kind src t false) h
shuts src n (t ∷ (u ∷ ts)) h =
    let l = both (not (eqb t.kind (code Eof))) (closed (u ∷ ts)) h in
    and_intro (not (eqb (sharpen (record { place = n; kind = text_kind src t; start = t.start; stop = t.stop }) (classify src (suc n) (u ∷ ts))).kind (code Eof))) (shut (code Eof) (ahead (classify src (suc n) (u ∷ ts)))) (rw (eof_kind src t (span_here (classify src (suc n) (u ∷ ts)))) l.0) (shuts src (suc n) (u ∷ ts) l.1)

pub sealed : (src : Text) (ts : List Plain) → T (closed ts) → T (shut (code Eof) (refine src ts))
sealed src = shuts src 0

-- what is told apart by text alone in edition 1 is plain
low_plain : (k : ℕ) → k ≤ code Eof → T (not (has untold k))
low_plain k h = untold_no k (go (fine AfterSpan) tt) (go (fine TwoClosers) tt) (go (fine OneCloser) tt)
  where
    go : (f : ℕ) → T (leb (code Eof + 1) f) → T (not (eqb k f))
    go f t = not_yes (eqb k f) (λ e. let z = eqb→eq k f e in let y = leb→le (code Eof + 1) f t in omega arith)

word_plain : (w : List ℕ) → T (not (has untold (word_kind w)))
word_plain w = go (spells of w) (spells units w)
  where
    word : Bool → Bool → ℕ
    word a b = elim a [ true ↦ fine OfWord | false ↦ elim b [ true ↦ fine UnitWord | false ↦ code Ident ] ]

    go : (a b : Bool) → T (not (has untold (word a b)))
    go true b = tt
    go false true = tt
    go false false = tt

plain_text : (bytes : List ℕ) (n : ℕ) (ts : List Plain) → T (kinds ts) → T (plain (classify (text One bytes) n ts))
plain_text bytes n [] h = tt
plain_text bytes n (t ∷ ts) h =
    let l = both (leb t.kind (code Eof)) (kinds ts) h in
    and_intro (not (has untold (text_kind (text One bytes) t))) (plain (classify (text One bytes) (suc n) ts))
    (go (eqb t.kind (code Ident)) (leb→le t.kind (code Eof) l.0)) (plain_text bytes (suc n) ts l.1)
  where
    go : (b : Bool) → t.kind ≤ code Eof
        → T (not (has untold (elim b as (λ z. ℕ) [ true ↦ word_kind (text_of bytes t) | false ↦ t.kind ])))
    go true y = word_plain (text_of bytes t)
    go false y = low_plain t.kind y

-- so no token of edition 1 is two closers
pub single_text : (bytes : List ℕ) (n : ℕ) (ts : List Plain) → T (kinds ts)
    → T (single (fine TwoClosers) (ahead (classify (text One bytes) n ts)))
single_text bytes n ts h = plain_single (classify (text One bytes) n ts) (plain_text bytes n ts h)

-- R-14 of a call on the lexer's tokens in edition 1: the tokens are those told apart by text
pub complained : {s : Symbol} → Call s → (bytes : List ℕ) (ts : List Plain) → T (kinds ts) → (e : Refusal) → parse s allowance (refine (text One bytes) ts) ≡ bad e → T (marking e.number) → Complaint s (classify (text One bytes) 0 ts) e
complained c bytes ts h e q l = complaint c allowance (classify (text One bytes) 0 ts) (plain_text bytes 0 ts h) e q l

-- the marked token: the lexer's tokens are those before and those from it on, and the kind that is found is the lexer's
plains_append : (xs ys : List Tok) → plains (xs ++ ys) ≡ plains xs ++ plains ys
plains_append [] ys = refl
plains_append (x ∷ xs) ys = let p = plains_append xs ys in cc

unread : (src : Text) (n : ℕ) (ts : List Plain) → T (kinds ts) → plains (classify src n ts) ≡ ts
unread src n [] h = refl
unread src n (t ∷ ts) h =
    let l = both (leb t.kind (code Eof)) (kinds ts) h in
    let p = text_kind_lem plain_kind refl refl refl refl src t ∙ plain_low t.kind (leb→le t.kind (code Eof) l.0) in
    let q : record { kind = plain_kind (text_kind src t); start = t.start; stop = t.stop } ≡ t = ap (λ k. record { kind = k; start = t.start; stop = t.stop }) p in
    let r = unread src (suc n) ts l.1 in
    cc

plain_blunt : (t : Tok) → plain_kind (blunt t).kind ≡ plain_kind t.kind
plain_blunt t = go (eqb t.kind (fine AfterSpan)) (eqb→eq t.kind (fine AfterSpan))
  where
    go : (b : Bool) → (T b → t.kind ≡ fine AfterSpan) → plain_kind (elim b [ true ↦ code After | false ↦ t.kind ]) ≡ plain_kind t.kind
    go true e = rw (e tt) refl
    go false e = refl

pub found_law : {s : Symbol} (src : Text) (ts : List Plain) → T (kinds ts) → (e : Refusal) (x : Complaint s (classify src 0 ts) e) → (plains x.before ++ plains x.rest ≡ ts) × (plain_kind e.at.kind ≡ plain_kind (head x.rest).kind)
found_law src ts h e x = (sym (plains_append x.before x.rest) ∙ ap plains x.cut ∙ unread src 0 ts h, sym (plain_blunt e.at) ∙ ap (λ t. plain_kind t.kind) x.marked)

-- a call's answer, by derivations
pub answers : {s : Symbol} → Call s → (src : Text) (ts : List Plain) → T (closed ts) → (d : Derivation s) → Derives toll terms allowance (refine src ts) d → answer s src ts ≡ accept (nodes outs d)
unfolding answer
answers c src ts h d x = ap answer_of (Unique.accepts grammar toll terms plan fronts follows names low ok allowance d (refine src ts) (ends c) x)

pub answered : {s : Symbol} → Call s → (src : Text) (ts : List Plain) → T (closed ts) → (rs : List Rec) → answer s src ts ≡ accept rs → Derived s src ts rs
unfolding answer
answered {s} c src ts h rs e = go (parse s allowance (refine src ts)) refl e
  where
    go : (q : Res (Derivation s)) → parse s allowance (refine src ts) ≡ q → answer_of q ≡ accept rs → Derived s src ts rs
    go (got d r) p e =
        let z = Whole.whole grammar names (code Eof) s (Calls.closed c) toll terms plan allowance (refine src ts) (sealed src ts h) d r p in
        record { tree = d; derives = Unique.accepted grammar toll terms plan fronts follows names low ok allowance d (refine src ts) (rw z at p); same = cc }
    go (bad x) p e = let n : ◌≡◌ {A = ℕ} 0 1 = cc in absurd (omega arith)
