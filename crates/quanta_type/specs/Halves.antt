-- The two closers that a `>>` of edition 2 counts as where a type list must close, its halves; and what the readers of
-- types answer where the first of them closed a type.
-- Assumes nothing.
use Rattle.std.specs.Prelude.{◌≡◌, Bool, false, List, ◌∷◌, ℕ, ◌+◌, ◌-◌, ◌<◌, max, T, eqb, Err, Ok, Result}
use Rattle.grammar.specs.Grammar.{Tok, back}
use Rattle.grammar.specs.Records.{Acc, Rec, Row, none, put, count, fresh}
use Rattle.grammar.specs.Fused.{Outcome, left}
use Rattle.quanta_token.specs.TokenKind.{code, Gt, Shr}
use Rattle.quanta_token.specs.declared.edition.Edition.{Edition}
use Rattle.quanta_token.specs.declared.edition.Edition.TheVariants.{One, Two}
use Rattle.quanta_grammar.specs.FineKind.{fine, OneCloser}
use Rattle.quanta_grammar.specs.Productions.{Symbol}
use Rattle.quanta_grammar.specs.Reading.{reads}
use Rattle.quanta_grammar.specs.Refine.{Text}
use Rattle.quanta_cursor.specs.declared.parser.Span.{Span}
use Rattle.quanta_cursor.specs.declared.parser.Node.{Node}
use Rattle.quanta_cursor.specs.declared.parser.Nodes.{Nodes}
use Rattle.quanta_cursor.specs.declared.parser.Refusal.{Refusal}
use Rattle.quanta_cursor.specs.Tokens.{size, kind_at, start_at, stop_at, from, tok_at, Ready}
use Rattle.quanta_grammar.specs.NodeKind.{node_code, type_node}
use Rattle.quanta_grammar.specs.RefusalKind.{refusal_code, expected_token}
use Rattle.quanta_cursor.specs.Cursor.{joined, span_at, err_at}
use Rattle.quanta_cursor.specs.Tree.{Laid, rec_of, put_rec}
use Rattle.quanta_cursor.specs.Answers.{single, Failed, Took}
use Rattle.quanta_cursor.specs.Lists.{grown, TookOn}
use Rattle.quanta_type.specs.declared.half.Typed.TheVariants.{Whole, Half}
use Rattle.quanta_type.specs.declared.half.Typed.{Typed}

-- the token at i is a `>>` that counts as two closers where a type list must close
abbrev pub is_pair : Edition → List ℕ → ℕ → Bool
is_pair One ws i = false
is_pair Two ws i = eqb (kind_at ws i) (code Shr)

-- the spans of its halves, one byte each: what is before its last byte, and that byte
abbrev pub middle_at : List ℕ → ℕ → ℕ
middle_at ws i = max (start_at ws i) (stop_at ws i - 1)

abbrev pub front_span : List ℕ → ℕ → Span
front_span ws i = record { start = start_at ws i; end = middle_at ws i }

abbrev pub back_span : List ℕ → ℕ → Span
back_span ws i = record { start = middle_at ws i; end = stop_at ws i }

-- the grammar's tokens from the second half of the token at i on
abbrev pub half_from : Text → List ℕ → ℕ → List Tok
half_from src ws i = back (fine OneCloser) (tok_at src ws i) ∷ from src ws (i + 1)

-- a refusal that marks the second closer, found `>`
abbrev pub half_err : List ℕ → ℕ → ℕ → ℕ → Refusal
half_err ws i number wanted = record { number = number; span = back_span ws i; wanted = wanted; found = code Gt }

-- THE RECORD OF A TYPE whose name is the token at `name` with so many arguments, from its name up to the span u: it is
-- written as the record n over the words t, and the node r says it, with the next token
abbrev pub type_rec : List ℕ → ℕ → ℕ → Span → Rec
type_rec ws name count u =
    let s = joined (span_at ws name) u in
    rec_of (node_code type_node) 0 name s.start s.end count

pub record TypeUpTo (ws t : List ℕ) (n name count : ℕ) (u : Span) (next : ℕ) (r : Node) (t' : List ℕ) : Type 0 where
  pub at : r.at.0 ≡ next
  pub no : r.no.0 ≡ n + 1
  pub span : r.span ≡ joined (span_at ws name) u
  pub kind : r.kind ≡ node_code type_node
  pub words : t' ≡ put_rec t n (type_rec ws name count u)

-- what closes a type's arguments at the token i: `>`, the first closer of a `>>`, or nothing
abbrev pub AnswersClose : Edition → List ℕ → List ℕ → ℕ → ℕ → ℕ → ℕ → Result (Typed Node) Refusal → List ℕ → Type 0
AnswersClose e ws t i n name c (Ok (Whole r)) t' =
    (kind_at ws i ≡ code Gt) × TypeUpTo ws t n name c (span_at ws i) (i + 1) r t'
AnswersClose e ws t i n name c (Ok (Half r)) t' = T (is_pair e ws i) × TypeUpTo ws t n name c (front_span ws i) i r t'
AnswersClose e ws t i n name c (Err u) t' =
    (kind_at ws i ≡ code Gt → ⊥) × (T (is_pair e ws i) → ⊥) × (u ≡ err_at ws i (refusal_code expected_token) (code Gt))

pub record ClosesType (e : Edition) (ws t : List ℕ) (i n name c : ℕ) (r : Result (Typed Node) Refusal) (t' : List ℕ) : Type 0 where
  pub by : AnswersClose e ws t i n name c r t'

-- the outcome is one record, as in `Took`, and what is left begins with the second half of the `>>` at r's position
pub record TookHalf (o : Outcome) (src : Text) (ws t : List ℕ) (n : ℕ) (r : Node) (t' : List ℕ) : Type 0 where
  pub top : Rec
  pub below : Row
  pub gave : o ≡ left (single top below r.span) (half_from src ws r.at.0)
  pub laid : Laid t n (put none top below) t' r.no.0
  pub inside : r.at.0 < size ws
  pub shr : kind_at ws r.at.0 ≡ code Shr

abbrev pub AnswersType : Outcome → Text → List ℕ → List ℕ → ℕ → Result (Typed Node) Refusal → List ℕ → Type 0
AnswersType o src ws t n (Ok (Whole r)) t' = Took o src ws t n r t'
AnswersType o src ws t n (Ok (Half r)) t' = TookHalf o src ws t n r t'
AnswersType o src ws t n (Err e) t' = Failed o e

pub record MeetsType (o : Outcome) (src : Text) (ws t : List ℕ) (n : ℕ) (r : Result (Typed Node) Refusal) (t' : List ℕ) : Type 0 where
  pub by : AnswersType o src ws t n r t'

-- a type, or an argument of one, at the token i with the allowance a, over the words t from the record n on: the
-- answer r, and the words t'
abbrev pub Types : Text → Symbol → List ℕ → ℕ → ℕ → ℕ → List ℕ → Result (Typed Node) Refusal → List ℕ → Type 0
Types src s ws i n a t r t' = MeetsType (reads s a (from src ws i) fresh) src ws t n r t'

-- the same of a list on top of x, as in `TookOn`
pub record TookOnHalf (o : Outcome) (x : Acc) (src : Text) (ws t : List ℕ) (n : ℕ) (r : Nodes) (t' : List ℕ)
    : Type 0 where
  pub row : Row
  pub gave : o ≡ left (grown x row) (half_from src ws r.at.0)
  pub many : r.count ≡ count row
  pub laid : Laid t n row t' r.no.0
  pub ready : Ready ws r.at.0 r.no.0
  pub shr : kind_at ws r.at.0 ≡ code Shr

abbrev pub AnswersTypes : Outcome → Acc → Text → List ℕ → List ℕ → ℕ → Result (Typed Nodes) Refusal → List ℕ → Type 0
AnswersTypes o x src ws t n (Ok (Whole r)) t' = TookOn o x src ws t n r t'
AnswersTypes o x src ws t n (Ok (Half r)) t' = TookOnHalf o x src ws t n r t'
AnswersTypes o x src ws t n (Err e) t' = Failed o e

pub record ListsTypes (o : Outcome) (x : Acc) (src : Text) (ws t : List ℕ) (n : ℕ) (r : Result (Typed Nodes) Refusal) (t' : List ℕ)
    : Type 0 where
  pub by : AnswersTypes o x src ws t n r t'
