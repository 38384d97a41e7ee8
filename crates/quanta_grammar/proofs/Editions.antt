-- The two editions: edition 1 is as before there were any; what it accepts edition 2 accepts, with the same records.
-- Assumes nothing.
use mathlib.Core.Path.{◌≡◌, refl, ap, sym, ◌∙◌, subst}
use mathlib.Core.Bool.{Bool, true, false, ◌&&◌}
use mathlib.Core.List.{List, [], ◌∷◌, append-nil}
use Prim.Native.Nat.{ℕ, suc, ◌≤◌}
use lib.Dec.{T, eqb, eqb→eq}
use Rattle.grammar.specs.Grammar.{Tok, yield, Spells}
use Rattle.grammar.specs.Records.{Acc, Rec, leaf_kind, flag_of}
use Rattle.grammar.specs.Facts.{Derives}
use Rattle.grammar.proofs.Table.{every_rule}
use Rattle.grammar.proofs.Halves.{spells_self, spells_single}
use Rattle.grammar.proofs.Before.{read_before_lem}
use Rattle.grammar.proofs.Relabel.{relabel, relabels, kept, renew}
use Rattle.grammar.proofs.Relabel.{renew_yield, renew_measure, renew_nodes, renew_lawful}
use Rattle.quanta_token.specs.TokenKind.{code, Ident, Int, After, Shr}
use Rattle.quanta_token.specs.declared.edition.Edition.TheVariants.{One, Two}
use Rattle.quanta_grammar.specs.FineKind.{fine, OfWord, UnitWord, AfterSpan, TwoClosers}
use Rattle.quanta_grammar.specs.Names.{names}
use Rattle.quanta_grammar.specs.Productions.{Symbol, Derivation, grammar, outs}
use Rattle.quanta_grammar.specs.Reading.{toll, allowance, terms, targets, plan, Call, parse}
use Rattle.quanta_grammar.specs.Refine.{Plain, text, in_edition, of, units, spells, word_kind, text_of, text_kind}
use Rattle.quanta_grammar.specs.Refine.{classify, span_here, sharpen, ahead, refine, kinds, closed, accept}
use Rattle.quanta_grammar.specs.Refine.{answer_of, answer}
use Rattle.quanta_grammar.specs.Before.{kind_before, classify_before, refine_before}
use Rattle.quanta_grammar.specs.Before.{parse_before, answer_before, DerivesBefore}
use Rattle.quanta_grammar.proofs.Refined.{single_text, answers, answered}

-- EDITION 1: the kinds are those of before ..
pub one_kind : (bytes : List ℕ) (t : Plain) → text_kind (text One bytes) t ≡ kind_before bytes t
one_kind bytes t = refl

one_classify : (bytes : List ℕ) (n : ℕ) (ts : List Plain) → classify (text One bytes) n ts ≡ classify_before bytes n ts
one_classify bytes n [] = refl
one_classify bytes n (t ∷ ts) =
    ap (λ (l : List Tok). record { place = n; kind = kind_before bytes t; start = t.start; stop = t.stop } ∷ l)
    (one_classify bytes (suc n) ts)

pub one_refine : (bytes : List ℕ) (ts : List Plain) → refine (text One bytes) ts ≡ refine_before bytes ts
one_refine bytes ts = ap ahead (one_classify bytes 0 ts)

-- .. so no token is two closers, and reading is as before
pub one_reads : (s : Symbol) (a : ℕ) (bytes : List ℕ) (ts : List Plain) → T (kinds ts)
    → parse s a (refine (text One bytes) ts) ≡ parse_before s a (refine_before bytes ts)
one_reads s a bytes ts h =
    read_before_lem toll terms plan s a (refine (text One bytes) ts) (single_text bytes 0 ts h)
    ∙ ap (parse_before s a) (one_refine bytes ts)

pub one_answers : (s : Symbol) (bytes : List ℕ) (ts : List Plain) → T (kinds ts)
    → answer s (text One bytes) ts ≡ answer_before s bytes ts
unfolding answer answer_before
one_answers s bytes ts h = ap answer_of (one_reads s allowance bytes ts h)

-- .. and a derivation derives the tokens that it is a list of
whole_yield : {s : Symbol} (bytes : List ℕ) (ts : List Plain) → T (kinds ts) → (d : Derivation s)
    → Spells grammar (refine (text One bytes) ts) (yield d) [] → yield d ≡ refine (text One bytes) ts
whole_yield bytes ts h d x = sym (append-nil (yield d)) ∙ spells_single x (single_text bytes 0 ts h)

pub one_derives : {s : Symbol} (a : ℕ) (bytes : List ℕ) (ts : List Plain) → T (kinds ts) → (d : Derivation s)
    → Derives toll terms a (refine (text One bytes) ts) d → DerivesBefore a (refine_before bytes ts) d
one_derives a bytes ts h d x = record {
  spells = whole_yield bytes ts h d x.spells ∙ one_refine bytes ts;
  small = x.small;
  lawful = x.lawful;
}

pub derives_one : {s : Symbol} (a : ℕ) (bytes : List ℕ) (ts : List Plain) (d : Derivation s)
    → DerivesBefore a (refine_before bytes ts) d → Derives toll terms a (refine (text One bytes) ts) d
derives_one a bytes ts d x =
    let e = append-nil (yield d) ∙ x.spells ∙ sym (one_refine bytes ts) in
    record {
      spells = subst (λ (l : List Tok). Spells grammar l (yield d) []) e (spells_self (yield d) []);
      small = x.small;
      lawful = x.lawful;
    }

-- the kinds of edition 2 for those of edition 1
abbrev shift : ℕ → ℕ
shift k = in_edition Two k

-- what is the same of `>>` of either kind is the same of all
same_shift : {A : Type 0} (g : ℕ → A) → g (fine TwoClosers) ≡ g (code Shr) → (k : ℕ) → g (shift k) ≡ g k
same_shift g e k = go (eqb k (code Shr)) (eqb→eq k (code Shr))
  where
    go : (b : Bool) → (T b → k ≡ code Shr) → g (elim b [ true ↦ fine TwoClosers | false ↦ k ]) ≡ g k
    go true h = e ∙ ap g (sym (h tt))
    go false h = refl

-- each set of the grammar with the one has the other, and the records and the target rule do not tell them apart
sets : T (every_rule names (λ s p. kept shift (grammar.parts s p)))
sets = tt

leafs : (k : ℕ) → leaf_kind outs.leafs (shift k) ≡ leaf_kind outs.leafs k
leafs = same_shift (leaf_kind outs.leafs) refl

flags : (r k : ℕ) → flag_of outs.flags r (shift k) ≡ flag_of outs.flags r k
flags r = same_shift (flag_of outs.flags r) refl

fair : (x : Acc) (k : ℕ)
    → targets.suits (record { row = x.row; reach = x.reach; mine = relabel shift x.mine; sum = x.sum }) (shift k)
    ≡ targets.suits x k
fair x = same_shift (λ k. targets.suits x k) refl

-- the tokens of edition 2 are those of edition 1, but for `>>`
word_shift : (w : List ℕ) → shift (word_kind w) ≡ word_kind w
word_shift w = go (spells of w) (spells units w)
  where
    word : Bool → Bool → ℕ
    word a b = elim a [ true ↦ fine OfWord | false ↦ elim b [ true ↦ fine UnitWord | false ↦ code Ident ] ]

    go : (a b : Bool) → shift (word a b) ≡ word a b
    go true b = refl
    go false true = refl
    go false false = refl

kind_shift : (bytes : List ℕ) (t : Plain) → text_kind (text Two bytes) t ≡ shift (text_kind (text One bytes) t)
kind_shift bytes t = go (eqb t.kind (code Ident))
  where
    by : Bool → ℕ → ℕ
    by b k = elim b [ true ↦ word_kind (text_of bytes t) | false ↦ k ]

    go : (b : Bool) → by b (shift t.kind) ≡ shift (by b t.kind)
    go true = sym (word_shift (text_of bytes t))
    go false = refl

classify_shift : (bytes : List ℕ) (n : ℕ) (ts : List Plain)
    → classify (text Two bytes) n ts ≡ relabels shift (classify (text One bytes) n ts)
classify_shift bytes n [] = refl
classify_shift bytes n (t ∷ ts) =
    ap (λ (k : ℕ). this k ∷ classify (text Two bytes) (suc n) ts) (kind_shift bytes t)
    ∙ ap (λ (l : List Tok). this (shift (text_kind (text One bytes) t)) ∷ l) (classify_shift bytes (suc n) ts)
  where
    this : ℕ → Tok
    this k = record { place = n; kind = k; start = t.start; stop = t.stop }

span_shift : (ts : List Tok) → span_here (relabels shift ts) ≡ span_here ts
span_shift [] = refl
span_shift (i ∷ []) = refl
span_shift (i ∷ (u ∷ ts)) =
    ap (λ (b : Bool). b && eqb (shift u.kind) (fine UnitWord)) (same_shift (λ k. eqb k (code Int)) refl i.kind)
    ∙ ap (λ (b : Bool). eqb i.kind (code Int) && b) (same_shift (λ k. eqb k (fine UnitWord)) refl u.kind)

-- a kind where it is told apart by what is behind
abbrev sharp : Bool → ℕ → ℕ
sharp b k = elim b [ true ↦ fine AfterSpan | false ↦ k ]

sharp_shift : (k : ℕ) (b : Bool) → sharp b (shift k) ≡ shift (sharp b k)
sharp_shift k true = refl
sharp_shift k false = refl

sharpen_shift : (t : Tok) (ts : List Tok) → sharpen (relabel shift t) (relabels shift ts) ≡ relabel shift (sharpen t ts)
sharpen_shift t ts =
    let k = shift t.kind in
    ap (λ (b : Bool). this (sharp (eqb k (code After) && b) k)) (span_shift ts)
    ∙ ap (λ (b : Bool). this (sharp (b && span_here ts) k)) (same_shift (λ k. eqb k (code After)) refl t.kind)
    ∙ ap this (sharp_shift t.kind (eqb t.kind (code After) && span_here ts))
  where
    this : ℕ → Tok
    this k = record { place = t.place; kind = k; start = t.start; stop = t.stop }

ahead_shift : (ts : List Tok) → ahead (relabels shift ts) ≡ relabels shift (ahead ts)
ahead_shift [] = refl
ahead_shift (t ∷ ts) =
    ap (λ (u : Tok). u ∷ ahead (relabels shift ts)) (sharpen_shift t ts)
    ∙ ap (λ (l : List Tok). relabel shift (sharpen t ts) ∷ l) (ahead_shift ts)

pub refine_shift : (bytes : List ℕ) (ts : List Plain)
    → refine (text Two bytes) ts ≡ relabels shift (refine (text One bytes) ts)
refine_shift bytes ts = ap ahead (classify_shift bytes 0 ts) ∙ ahead_shift (classify (text One bytes) 0 ts)

-- so a derivation of the first is one of the second
moved : {s : Symbol} (bytes : List ℕ) (ts : List Plain) → T (kinds ts) → (d : Derivation s)
    → Derives toll terms allowance (refine (text One bytes) ts) d
    → Derives toll terms allowance (refine (text Two bytes) ts) (renew names shift sets d)
moved bytes ts h d x =
    let e : yield d ≡ refine (text One bytes) ts = whole_yield bytes ts h d x.spells in
    let u = yield (renew names shift sets d) in
    let z = renew_yield names shift sets d ∙ ap (relabels shift) e ∙ sym (refine_shift bytes ts) in
    record {
      spells = subst (λ (l : List Tok). Spells grammar l u []) (append-nil u ∙ z) (spells_self u []);
      small = subst (λ (n : ℕ). n ≤ allowance) (sym (renew_measure names shift sets toll d)) x.small;
      lawful = renew_lawful names shift sets outs leafs flags refl targets fair d [] [] refl x.lawful;
    }

pub accepted_too : {s : Symbol} → Call s → (bytes : List ℕ) (ts : List Plain) → T (kinds ts) → T (closed ts)
    → (rs : List Rec) → answer s (text One bytes) ts ≡ accept rs → answer s (text Two bytes) ts ≡ accept rs
accepted_too c bytes ts h k rs e =
    let x = answered c (text One bytes) ts k rs e in
    answers c (text Two bytes) ts k (renew names shift sets x.tree) (moved bytes ts h x.tree x.derives)
    ∙ ap accept (renew_nodes names shift sets outs leafs flags refl x.tree ∙ x.same)

pub same_records : {s : Symbol} → Call s → (bytes : List ℕ) (ts : List Plain) → T (kinds ts) → T (closed ts)
    → (rs rs' : List Rec) → answer s (text One bytes) ts ≡ accept rs → answer s (text Two bytes) ts ≡ accept rs'
    → rs ≡ rs'
same_records c bytes ts h k rs rs' e e' =
    let z : accept rs ≡ accept rs' = sym (accepted_too c bytes ts h k rs e) ∙ e' in cc
