-- What a reader of a block answers and writes, and the record of a declaration that ends with its block.
-- Assumes nothing.
use Rattle.std.specs.Prelude.{◌≡◌, List, ℕ, ◌+◌, ◌<◌, Err, Ok, Result}
use Rattle.grammar.specs.Records.{Rec, Acc, count, span, fresh}
use Rattle.grammar.specs.Fused.{Outcome, left}
use Rattle.quanta_grammar.specs.Productions.{block}
use Rattle.quanta_grammar.specs.Reading.{reads}
use Rattle.quanta_cursor.specs.declared.parser.Span.{Span}
use Rattle.quanta_cursor.specs.declared.parser.Node.{Node}
use Rattle.quanta_cursor.specs.Tokens.{size, from}
use Rattle.quanta_cursor.specs.Tree.{rec_of, Laid}
use Rattle.quanta_cursor.specs.Answers.{Failed}
use Rattle.quanta_cursor.specs.Cursor.{joined, span_at}
use Rattle.quanta_cursor.specs.declared.parser.Run.{Run}
use Rattle.quanta_grammar.specs.Refine.{Text}
use Rattle.quanta_cursor.specs.declared.parser.Refusal.{Refusal}

-- the outcome is so many records side by side and this span, with the tokens from r's position on;
-- they are laid over the words t from the record n on
pub record TookBlock (o : Outcome) (src : Text) (ws t : List ℕ) (n : ℕ) (r : Run) (t' : List ℕ) : Type 0 where
  pub acc : Acc
  pub gave : o ≡ left acc (from src ws r.at.0)
  pub many : r.count ≡ count acc.row
  pub reach : acc.reach ≡ span r.span.start r.span.end
  pub laid : Laid t n acc.row t' r.no.0
  pub inside : r.at.0 < size ws

abbrev pub AnswersBlock : Outcome → Text → List ℕ → List ℕ → ℕ → Result Run Refusal → List ℕ → Type 0
AnswersBlock o src ws t n (Ok r) t' = TookBlock o src ws t n r t'
AnswersBlock o src ws t n (Err e) t' = Failed o e

pub record MeetsBlock (o : Outcome) (src : Text) (ws t : List ℕ) (n : ℕ) (r : Result Run Refusal) (t' : List ℕ) : Type 0 where
  pub by : AnswersBlock o src ws t n r t'

-- a block at the token i with the allowance a, over the words t from the record n on: the answer r, and the words t'
abbrev pub Blocks : Text → List ℕ → ℕ → ℕ → ℕ → List ℕ → Result Run Refusal → List ℕ → Type 0
Blocks src ws i n a t r t' = MeetsBlock (reads block a (from src ws i) fresh) src ws t n r t'

-- a declaration from its keyword, the token own, up to its block b: its span, its record and its node
abbrev pub decl_span : List ℕ → ℕ → Run → Span
decl_span ws own b = joined (span_at ws own) b.span

abbrev pub decl_rec : List ℕ → ℕ → ℕ → Run → ℕ → Rec
decl_rec ws kind own b count = rec_of kind 0 own (decl_span ws own b).start (decl_span ws own b).end count

abbrev pub decl_node : List ℕ → ℕ → ℕ → Run → Node
decl_node ws kind own b = record { at = b.at; no = record { 0 = b.no.0 + 1 }; span = decl_span ws own b; kind = kind }
