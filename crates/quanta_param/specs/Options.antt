-- Parts that may be missing: what a reader of them answers and writes, whatever is left before them.
-- Assumes nothing.
use Rattle.std.specs.Prelude.{◌≡◌, List, ◌⊎◌, ℕ, ◌+◌, Err, None, Ok, Option, Result, Some}
use Rattle.grammar.specs.Records.{Acc, Rec, Row, none, put, Reach, widen, span}
use Rattle.grammar.specs.Fused.{Outcome, left}
use Rattle.quanta_grammar.specs.Productions.{Symbol}
use Rattle.quanta_grammar.specs.Reading.{reads}
use Rattle.quanta_cursor.specs.declared.parser.Span.{Span}
use Rattle.quanta_cursor.specs.declared.parser.Node.{Node}
use Rattle.quanta_cursor.specs.Tokens.{kind_at, from, Ready}
use Rattle.quanta_cursor.specs.Tree.{rec_of, put_rec, Laid}
use Rattle.quanta_cursor.specs.Answers.{Failed}
use Rattle.quanta_param.specs.declared.decl.Eaten.{Eaten}
use Rattle.quanta_grammar.specs.Refine.{Text}
use Rattle.quanta_cursor.specs.declared.parser.Refusal.{Refusal}

-- a token of the kind k stands at i, and r is behind it, with the flag f; or it is missing, and r is at i, without a flag
abbrev pub Eats : List ℕ → ℕ → ℕ → ℕ → Eaten → Type 0
Eats ws i k f r = ((kind_at ws i ≡ k) × (r.at.0 ≡ i + 1) × (r.flag ≡ f)) ⊎ ((kind_at ws i ≡ k → ⊥) × (r.at.0 ≡ i) × (r.flag ≡ 0))

-- x with one record more, whose span does y to the span so far, and with f more for the flag of the record to come
abbrev pub added : Reach → ℕ → Acc → Rec → Row → Span → Acc
added y f x top below s = record { row = put x.row top below; reach = widen y x.reach (span s.start s.end); mine = x.mine; sum = x.sum + f }

-- the outcome on top of x is that; the record and what is below it are laid over the words t from the record n on, and a reader may stand behind it
pub record TookOpt (o : Outcome) (x : Acc) (y : Reach) (f : ℕ) (src : Text) (ws t : List ℕ) (n : ℕ) (r : Node)
    (t' : List ℕ) : Type 0 where
  pub top : Rec
  pub below : Row
  pub gave : o ≡ left (added y f x top below r.span) (from src ws r.at.0)
  pub laid : Laid t n (put none top below) t' r.no.0
  pub ready : Ready ws r.at.0 r.no.0

-- where it is missing, nothing is left and nothing is written
abbrev pub AnswersOpt : Outcome → Acc → Reach → ℕ → Text → List ℕ → ℕ → List ℕ → ℕ → Result (Option Node) Refusal → List ℕ → Type 0
AnswersOpt o x y f src ws i t n (Ok None) t' = (o ≡ left x (from src ws i)) × (t' ≡ t)
AnswersOpt o x y f src ws i t n (Ok (Some r)) t' = TookOpt o x y f src ws t n r t'
AnswersOpt o x y f src ws i t n (Err e) t' = Failed o e

pub record MeetsOpt (o : Outcome) (x : Acc) (y : Reach) (f : ℕ) (src : Text) (ws : List ℕ) (i : ℕ) (t : List ℕ)
    (n : ℕ) (r : Result (Option Node) Refusal) (t' : List ℕ) : Type 0 where
  pub by : AnswersOpt o x y f src ws i t n r t'

-- a phrase of s at the token i that may be missing, over the words t from the record n on: the answer r, and the words t'
abbrev pub Opts : Text → Symbol → Reach → ℕ → List ℕ → ℕ → ℕ → ℕ → List ℕ → Result (Option Node) Refusal → List ℕ → Type 0
Opts src s y f ws i n a t r t' = (x : Acc) → MeetsOpt (reads s a (from src ws i) x) x y f src ws i t n r t'

-- a node that ends where `last` does: its record is written behind those so far
abbrev pub EndsAt : List ℕ → ℕ → ℕ → ℕ → Span → ℕ → Node → Node → List ℕ → Type 0
EndsAt t kind flag own s count last r t' =
    (r ≡ record { at = last.at; no = record { 0 = last.no.0 + 1 }; span = s; kind = kind })
    × (t' ≡ put_rec t last.no.0 (rec_of kind flag own s.start s.end count))
