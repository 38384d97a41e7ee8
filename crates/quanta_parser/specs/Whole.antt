-- THE CONTRACT OF A WHOLE READING: a phrase and Eof behind it, from the first token and the first record on.
-- Assumes nothing.
use Rattle.std.specs.Prelude.{◌≡◌, List, [], ℕ, Err, Ok, Result}
use Rattle.grammar.specs.Records.{Acc, fresh}
use Rattle.grammar.specs.Fused.{Outcome, left}
use Rattle.quanta_token.specs.TokenKind.{code, Eof}
use Rattle.quanta_grammar.specs.RefusalKind.{refusal_code, token_after_the_end}
use Rattle.quanta_grammar.specs.Productions.{Symbol, program_call, item_call, stmt_call, expr_call, type_call}
use Rattle.quanta_grammar.specs.Reading.{allowance, reads}
use Rattle.quanta_grammar.specs.Refine.{Text}
use Rattle.quanta_cursor.specs.Tokens.{from, kind_at}
use Rattle.quanta_cursor.specs.Cursor.{err_at}
use Rattle.quanta_parser.specs.declared.whole.Call.{Call}
use Rattle.quanta_parser.specs.declared.whole.Call.TheVariants.{Program, Item, Stmt, Expr, «Type»}
use Rattle.quanta_cursor.specs.Tree.{Laid}
use Rattle.quanta_cursor.specs.Answers.{Failed}
use Rattle.quanta_cursor.specs.declared.parser.Node.{Node}
use Rattle.quanta_cursor.specs.declared.parser.Refusal.{Refusal}

-- the outcome has no token behind it; its records, n in all, are laid over the words t from the first on
pub record TookWhole (o : Outcome) (t : List ℕ) (n : ℕ) (t' : List ℕ) : Type 0 where
  pub acc : Acc
  pub gave : o ≡ left acc []
  pub laid : Laid t 0 acc.row t' n

abbrev pub AnswersWhole : Outcome → List ℕ → Result Node Refusal → List ℕ → Type 0
AnswersWhole o t (Ok r) t' = TookWhole o t r.no.0 t'
AnswersWhole o t (Err e) t' = Failed o e

pub record MeetsWhole (o : Outcome) (t : List ℕ) (r : Result Node Refusal) (t' : List ℕ) : Type 0 where
  pub by : AnswersWhole o t r t'

-- the whole reading of s over the words t: the answer r, and the words t'
abbrev pub ReadsWhole : Text → Symbol → List ℕ → List ℕ → Result Node Refusal → List ℕ → Type 0
ReadsWhole src s ws t r t' = MeetsWhole (reads s allowance (from src ws 0) fresh) t r t'

-- what a call reads
abbrev pub symbol_of : Call → Symbol
symbol_of Program = program_call
symbol_of Item = item_call
symbol_of Stmt = stmt_call
symbol_of Expr = expr_call
symbol_of «Type» = type_call

-- the end stands behind the node m, which is the answer; or a token after the end
abbrev pub End : List ℕ → Node → Result Node Refusal → Type 0
End ws m (Ok r) = (kind_at ws m.at.0 ≡ code Eof) × (r ≡ m)
End ws m (Err e) = (kind_at ws m.at.0 ≡ code Eof → ⊥) × (e ≡ err_at ws m.at.0 (refusal_code token_after_the_end) 0)

pub record Ends (ws : List ℕ) (m : Node) (r : Result Node Refusal) : Type 0 where
  pub by : End ws m r
