-- What the cursor's functions answer of the token at a place.
-- Assumes nothing.
use Rattle.std.specs.Prelude.{◌≡◌, List, ℕ, ◌+◌, ◌-◌, ◌<◌, min, max, T, Err, Ok, Result}
use Rattle.grammar.specs.Grammar.{has}
use Rattle.grammar.specs.Records.{Rec}
use Rattle.quanta_token.specs.TokenKind.{code, Eof}
use Rattle.quanta_grammar.specs.RefusalKind.{refusal_code, expected_token, too_deep, token_after_the_end}
use Rattle.quanta_cursor.specs.declared.parser.Span.{Span}
use Rattle.quanta_cursor.specs.declared.parser.Node.{Node}
use Rattle.quanta_cursor.specs.declared.parser.Refusal.{Refusal}
use Rattle.quanta_cursor.specs.Tokens.{kind_at, start_at, stop_at}
use Rattle.quanta_cursor.specs.Tree.{rec_of, put_rec}
use Rattle.quanta_cursor.specs.declared.parser.TokenPos.{TokenPos}
use Rattle.quanta_cursor.specs.declared.parser.RecordNo.{RecordNo}
use Rattle.quanta_cursor.specs.declared.parser.Record.{Record}

-- from the least start to the greatest end
abbrev pub joined : Span → Span → Span
joined a b = record { start = min a.start b.start; end = max a.end b.end }

abbrev pub span_at : List ℕ → ℕ → Span
span_at ws i = record { start = start_at ws i; end = stop_at ws i }

-- a refusal that marks the token found at i; and 20, which carries no `found`
abbrev pub err_at : List ℕ → ℕ → ℕ → ℕ → Refusal
err_at ws i number wanted = record { number = number; span = span_at ws i; wanted = wanted; found = kind_at ws i }

abbrev pub deep_at : List ℕ → ℕ → Refusal
deep_at ws i = record { number = refusal_code too_deep; span = span_at ws i; wanted = 0; found = 0 }

-- the counter may rise: so much is left of the allowance a; or it would pass the limit
abbrev pub Enter : List ℕ → ℕ → ℕ → Result ℕ Refusal → Type 0
Enter ws i a (Ok b) = (0 < a) × (b ≡ a - 1)
Enter ws i a (Err e) = (a ≡ 0) × (e ≡ deep_at ws i)

pub record Enters (ws : List ℕ) (i a : ℕ) (r : Result ℕ Refusal) : Type 0 where
  pub by : Enter ws i a r

-- a certain token stands at i, and p is behind it; or it is missing
abbrev pub Expect : List ℕ → ℕ → ℕ → Result TokenPos Refusal → Type 0
Expect ws i want (Ok p) = (kind_at ws i ≡ want) × (p.0 ≡ i + 1)
Expect ws i want (Err e) = (kind_at ws i ≡ want → ⊥) × (e ≡ err_at ws i (refusal_code expected_token) want)

pub record Expects (ws : List ℕ) (i want : ℕ) (r : Result TokenPos Refusal) : Type 0 where
  pub by : Expect ws i want r

-- the end stands at i, which is also p; or a token after the end
abbrev pub AtEof : List ℕ → ℕ → Result TokenPos Refusal → Type 0
AtEof ws i (Ok p) = (kind_at ws i ≡ code Eof) × (p.0 ≡ i)
AtEof ws i (Err e) = (kind_at ws i ≡ code Eof → ⊥) × (e ≡ err_at ws i (refusal_code token_after_the_end) 0)

pub record ExpectsEof (ws : List ℕ) (i : ℕ) (r : Result TokenPos Refusal) : Type 0 where
  pub by : AtEof ws i r

-- the node that a record r is, which is written as number q; the token behind it is p
abbrev pub node_written : TokenPos → RecordNo → Record → Node
node_written p q r = record { at = p; no = record { 0 = q.0 + 1 }; span = r.span; kind = r.kind }

-- a token of one of these kinds stands at i and leaves a record of the kind k; or another does, with a refusal of this number
abbrev pub leaf_rec : List ℕ → ℕ → ℕ → Rec
leaf_rec ws i k = rec_of k 0 i (start_at ws i) (stop_at ws i) 0

abbrev pub leaf_node : List ℕ → ℕ → ℕ → ℕ → Node
leaf_node ws i n k = record { at = record { 0 = i + 1 }; no = record { 0 = n + 1 }; span = span_at ws i; kind = k }

abbrev pub Word : List ℕ → ℕ → ℕ → List ℕ → List ℕ → ℕ → ℕ → Result Node Refusal → List ℕ → Type 0
Word cs k number ws t i n (Ok r) t' = T (has cs (kind_at ws i)) × (r ≡ leaf_node ws i n k) × (t' ≡ put_rec t n (leaf_rec ws i k))
Word cs k number ws t i n (Err e) t' = (T (has cs (kind_at ws i)) → ⊥) × (e ≡ err_at ws i number 0)

pub record Words (cs : List ℕ) (k number : ℕ) (ws t : List ℕ) (i n : ℕ) (r : Result Node Refusal) (t' : List ℕ) : Type 0 where
  pub by : Word cs k number ws t i n r t'

-- a closing token stands at p and is joined to the span s, and a record over all so far is written at q; or the token is missing
abbrev pub close_rec : List ℕ → ℕ → ℕ → ℕ → ℕ → Span → ℕ → Rec
close_rec ws p kind flag own s count = rec_of kind flag own (min s.start (start_at ws p)) (max s.end (stop_at ws p)) count

abbrev pub close_node : List ℕ → ℕ → ℕ → ℕ → Span → Node
close_node ws p q kind s = record { at = record { 0 = p + 1 }; no = record { 0 = q + 1 }; span = joined s (span_at ws p); kind = kind }

abbrev pub Close : List ℕ → List ℕ → ℕ → ℕ → ℕ → ℕ → ℕ → ℕ → Span → ℕ → Result Node Refusal → List ℕ → Type 0
Close ws t want p q kind flag own s count (Ok r) t' = (kind_at ws p ≡ want) × (r ≡ close_node ws p q kind s) × (t' ≡ put_rec t q (close_rec ws p kind flag own s count))
Close ws t want p q kind flag own s count (Err e) t' = (kind_at ws p ≡ want → ⊥) × (e ≡ err_at ws p (refusal_code expected_token) want)

pub record Closes (ws t : List ℕ) (want p q kind flag own : ℕ) (s : Span) (count : ℕ) (r : Result Node Refusal) (t' : List ℕ) : Type 0 where
  pub by : Close ws t want p q kind flag own s count r t'
