-- The nodes of an expression: what the functions between the readers make of those that were read.
-- Assumes nothing.
use Rattle.std.specs.Prelude.{◌≡◌, List, ℕ, ◌+◌, min, max, T, Err, Ok, Result}
use Rattle.grammar.specs.Grammar.{has}
use Rattle.grammar.specs.Records.{Rec}
use Rattle.quanta_token.specs.TokenKind.{code, RParen}
use Rattle.quanta_grammar.specs.NodeKind.{node_code, unary_node, binary_node, access_node, name_node}
use Rattle.quanta_grammar.specs.RefusalKind.{refusal_code, expected_token, expected_identifier}
use Rattle.quanta_grammar.specs.Productions.{name}
use Rattle.quanta_cursor.specs.declared.parser.Span.{Span}
use Rattle.quanta_cursor.specs.declared.parser.Node.{Node}
use Rattle.quanta_cursor.specs.Tokens.{kind_at}
use Rattle.quanta_cursor.specs.Tree.{rec_of, put_rec}
use Rattle.quanta_cursor.specs.Cursor.{joined, span_at, err_at, leaf_rec}
use Rattle.quanta_cursor.specs.declared.parser.Refusal.{Refusal}

-- a record over the spans s and s'
abbrev pub over : ℕ → ℕ → ℕ → Span → Span → ℕ → Rec
over kind flag own s s' count = rec_of kind flag own (min s.start s'.start) (max s.end s'.end) count

-- two operands under an operator
abbrev pub folded : Node → Node → Node
folded l r = record { at = r.at; no = record { 0 = r.no.0 + 1 }; span = joined l.span r.span; kind = node_code binary_node }

abbrev pub fold_rec : ℕ → ℕ → Node → Node → Rec
fold_rec op flag l r = over (node_code binary_node) flag op l.span r.span 2

-- an operand under the prefix at the token i
abbrev pub prefixed : List ℕ → ℕ → Node → Node
prefixed ws i m = record { at = m.at; no = record { 0 = m.no.0 + 1 }; span = joined (span_at ws i) m.span; kind = node_code unary_node }

abbrev pub prefix_rec : List ℕ → ℕ → ℕ → Node → Rec
prefix_rec ws i flag m = over (node_code unary_node) flag i (span_at ws i) m.span 1

-- a name behind the `.` at which l ends; or no name
abbrev pub accessed : List ℕ → Node → Node
accessed ws l = record { at = record { 0 = l.at.0 + 1 + 1 }; no = record { 0 = l.no.0 + 1 + 1 }; span = joined l.span (span_at ws (l.at.0 + 1)); kind = node_code access_node }

abbrev pub Access : List ℕ → List ℕ → Node → Result Node Refusal → List ℕ → Type 0
Access ws t l (Ok r) t' =
    T (has name (kind_at ws (l.at.0 + 1))) × (r ≡ accessed ws l)
    × (t' ≡ put_rec (put_rec t l.no.0 (leaf_rec ws (l.at.0 + 1) (node_code name_node))) (l.no.0 + 1) (over (node_code access_node) 0 l.at.0 l.span (span_at ws (l.at.0 + 1)) 2))
Access ws t l (Err e) t' = (T (has name (kind_at ws (l.at.0 + 1))) → ⊥) × (e ≡ err_at ws (l.at.0 + 1) (refusal_code expected_identifier) 0)

pub record Accesses (ws t : List ℕ) (l : Node) (r : Result Node Refusal) (t' : List ℕ) : Type 0 where
  pub by : Access ws t l r t'

-- the `)` behind an expression in parentheses; or another token
abbrev pub Paren : List ℕ → Node → Result Node Refusal → Type 0
Paren ws m (Ok r) = (kind_at ws m.at.0 ≡ code RParen) × (r ≡ record { at = record { 0 = m.at.0 + 1 }; no = m.no; span = m.span; kind = m.kind })
Paren ws m (Err e) = (kind_at ws m.at.0 ≡ code RParen → ⊥) × (e ≡ err_at ws m.at.0 (refusal_code expected_token) (code RParen))

pub record Parens (ws : List ℕ) (m : Node) (r : Result Node Refusal) : Type 0 where
  pub by : Paren ws m r
