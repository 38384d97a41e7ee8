-- What the readers of the single clauses answer and write.
-- Assumes nothing.
use Rattle.std.specs.Prelude.{◌≡◌, Bool, true, false, List, [], ◌∷◌, ◌⊎◌, ℕ, ◌+◌, eqb, Err, Ok, Result}
use Rattle.grammar.specs.Records.{pick_n, span, fresh}
use Rattle.grammar.specs.Fused.{Outcome}
use Rattle.quanta_token.specs.TokenKind.{TokenKind, code, codes, Writes, Reads, Conserves, Mints, Burns, Limits, Denies, LParen}
use Rattle.quanta_grammar.specs.NodeKind.{NodeKind, node_code, flag_code, has_duration, writes_node, reads_node, conserves_node, mints_node, burns_node, limits_node, denies_node, after_node, name_node}
use Rattle.quanta_grammar.specs.RefusalKind.{refusal_code, expected_token, expected_identifier}
use Rattle.quanta_grammar.specs.Productions.{Symbol, name, expr, duration}
use Rattle.quanta_grammar.specs.Reading.{reads}
use Rattle.quanta_grammar.specs.Refine.{Text}
use Rattle.quanta_cursor.specs.declared.parser.Node.{Node}
use Rattle.quanta_cursor.specs.Tokens.{kind_at, from}
use Rattle.quanta_cursor.specs.Tree.{rec_of, put_rec}
use Rattle.quanta_cursor.specs.Answers.{Failed, TookAll}
use Rattle.quanta_cursor.specs.Cursor.{joined, span_at, err_at, Words}
use Rattle.quanta_clause.specs.declared.decl.AfterTarget.{AfterTarget}
use Rattle.quanta_clause.specs.Units.{is_duration}
use Rattle.quanta_cursor.specs.declared.parser.Refusal.{Refusal}

-- the keywords of a clause with a list of names, with one name, and with one expression
abbrev pub of_names : List ℕ
of_names = codes (Writes ∷ Reads ∷ [])

abbrev pub of_name : List ℕ
of_name = codes (Conserves ∷ Mints ∷ Burns ∷ [])

abbrev pub of_expr : List ℕ
of_expr = codes (Limits ∷ Denies ∷ [])

-- the record's kind of the clause that a keyword begins
abbrev pub kind_in : List (TokenKind × NodeKind) → ℕ → ℕ
kind_in [] k = node_code after_node
kind_in (r ∷ rs) k = pick_n (eqb k (code r.0)) (node_code r.1) (kind_in rs k)

abbrev pub clause_kinds : List (TokenKind × NodeKind)
clause_kinds = (Writes, writes_node) ∷ (Reads, reads_node) ∷ (Conserves, conserves_node) ∷ (Mints, mints_node) ∷ (Burns, burns_node) ∷ (Limits, limits_node) ∷ (Denies, denies_node) ∷ []

abbrev pub clause_kind : ℕ → ℕ
clause_kind = kind_in clause_kinds

-- `(` stands at i and a name behind it; or one of them is missing
abbrev pub First : List ℕ → List ℕ → ℕ → ℕ → Result Node Refusal → List ℕ → Type 0
First ws t i n (Ok r) t' = (kind_at ws i ≡ code LParen) × Words name (node_code name_node) (refusal_code expected_identifier) ws t (i + 1) n (Ok r) t'
First ws t i n (Err e) t' =
    ((kind_at ws i ≡ code LParen) × Words name (node_code name_node) (refusal_code expected_identifier) ws t (i + 1) n (Err e) t')
    ⊎ ((kind_at ws i ≡ code LParen → ⊥) × (e ≡ err_at ws i (refusal_code expected_token) (code LParen)))

pub record FirstName (ws t : List ℕ) (i n : ℕ) (r : Result Node Refusal) (t' : List ℕ) : Type 0 where
  pub by : First ws t i n r t'

-- the record of the clause whose keyword stands at i, over its one part
pub record Ends (ws t : List ℕ) (i : ℕ) (part r : Node) (t' : List ℕ) : Type 0 where
  pub node : r ≡ record { at = part.at; no = record { 0 = part.no.0 + 1 }; span = joined (span_at ws i) part.span; kind = clause_kind (kind_at ws i) }
  pub words : t' ≡ put_rec t part.no.0 (rec_of (clause_kind (kind_at ws i)) 0 i (joined (span_at ws i) part.span).start (joined (span_at ws i) part.span).end 1)

-- the record of the `after` at i, over its target
pub record EndsAfter (ws t : List ℕ) (i : ℕ) (target : AfterTarget) (r : Node) (t' : List ℕ) : Type 0 where
  pub node : r ≡ record { at = target.at; no = record { 0 = target.no.0 + 1 }; span = joined (span_at ws i) target.span; kind = node_code after_node }
  pub words : t' ≡ put_rec t target.no.0 (rec_of (node_code after_node) target.flag i (joined (span_at ws i) target.span).start (joined (span_at ws i) target.span).end target.count)

-- the target of an `after` is a duration or an expression, and the flag says which
abbrev pub target_of : Bool → Symbol
target_of true = duration
target_of false = expr

abbrev pub flag_if : Bool → ℕ
flag_if true = flag_code has_duration
flag_if false = 0

pub record TookTarget (o : Outcome) (src : Text) (ws t : List ℕ) (n flag : ℕ) (r : AfterTarget)
    (t' : List ℕ) : Type 0 where
  pub all : TookAll o src ws t n (record { at = r.at; no = r.no; count = r.count }) t'
  pub reach : all.acc.reach ≡ span r.span.start r.span.end
  pub flagged : r.flag ≡ flag

abbrev pub AnswersTarget : Bool → Text → List ℕ → ℕ → ℕ → ℕ → List ℕ → Result AfterTarget Refusal → List ℕ → Type 0
AnswersTarget b src ws i n a t (Ok r) t' = TookTarget (reads (target_of b) a (from src ws i) fresh) src ws t n (flag_if b) r t'
AnswersTarget b src ws i n a t (Err e) t' = Failed (reads (target_of b) a (from src ws i) fresh) e

pub record Targets (src : Text) (ws : List ℕ) (i n a : ℕ) (t : List ℕ) (r : Result AfterTarget Refusal) (t' : List ℕ) : Type 0 where
  pub by : AnswersTarget (is_duration src ws i) src ws i n a t r t'
