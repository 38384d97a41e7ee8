-- A list in a program: elements one after the other, each of which takes the place of the span so far.
-- Assumes nothing.
use Rattle.std.specs.Prelude.{◌≡◌, List, ℕ, Err, Ok, Result}
use Rattle.grammar.specs.Records.{Acc, Row, glue, count, Span as Reached, nil, span, or_else}
use Rattle.grammar.specs.Fused.{Outcome, left}
use Rattle.quanta_grammar.specs.Productions.{Symbol}
use Rattle.quanta_grammar.specs.Reading.{reads}
use Rattle.quanta_cursor.specs.declared.parser.Span.{Span}
use Rattle.quanta_cursor.specs.Tokens.{from, Ready}
use Rattle.quanta_cursor.specs.Tree.{Laid}
use Rattle.quanta_cursor.specs.Answers.{Failed}
use Rattle.quanta_cursor.specs.declared.parser.Run.{Run}
use Rattle.quanta_grammar.specs.Refine.{Text}
use Rattle.quanta_cursor.specs.declared.parser.Refusal.{Refusal}

-- x with these records beside its own, and with the last one's span, if there is one, in place of its own
abbrev pub onto : Acc → Row → Reached → Acc
onto x r u = record { row = glue x.row r; reach = or_else u x.reach; mine = x.mine; sum = x.sum }

-- that span, or else s
abbrev pub last_or : Reached → Span → Span
last_or nil s = s
last_or (span a b) s = record { start = a; end = b }

-- the outcome on top of x is x with so many records more, which are laid over the words t from the record n on; a reader may stand behind them
pub record TookRun (o : Outcome) (x : Acc) (src : Text) (ws t : List ℕ) (n : ℕ) (s : Span) (r : Run) (t' : List ℕ) : Type 0 where
  pub row : Row
  pub last : Reached
  pub gave : o ≡ left (onto x row last) (from src ws r.at.0)
  pub many : r.count ≡ count row
  pub spans : r.span ≡ last_or last s
  pub laid : Laid t n row t' r.no.0
  pub ready : Ready ws r.at.0 r.no.0

abbrev pub AnswersRun : Outcome → Acc → Text → List ℕ → List ℕ → ℕ → Span → Result Run Refusal → List ℕ → Type 0
AnswersRun o x src ws t n s (Ok r) t' = TookRun o x src ws t n s r t'
AnswersRun o x src ws t n s (Err e) t' = Failed o e

pub record MeetsRun (o : Outcome) (x : Acc) (src : Text) (ws t : List ℕ) (n : ℕ) (s : Span) (r : Result Run Refusal) (t' : List ℕ) : Type 0 where
  pub by : AnswersRun o x src ws t n s r t'

-- a list l at the token i with the allowance a, over the words t from the record n on, whatever is left before it
abbrev pub Runs : Text → Symbol → List ℕ → ℕ → ℕ → ℕ → Span → List ℕ → Result Run Refusal → List ℕ → Type 0
Runs src l ws i n a s t r t' = (x : Acc) → MeetsRun (reads l a (from src ws i) x) x src ws t n s r t'
