-- What the tables of operators and literals say, as the grammar has it.
-- Assumes nothing.
use Rattle.std.specs.Prelude.{◌≡◌, ℕ, T, List, Option, Some, None}
use Rattle.grammar.specs.Grammar.{has}
use Rattle.grammar.specs.Records.{leaf_kind, flag_of}
use Rattle.quanta_token.specs.TokenKind.{code, Checked}
use Rattle.quanta_grammar.specs.NodeKind.{NodeKind, node_code, unary_node, binary_node, checked_node, wrapping_node}
use Rattle.quanta_grammar.specs.Productions.{Level, operators, prefixes, literal, outs}

-- r is the flag of the operator k, which is one of the set and goes with a record of this kind; or there is none
abbrev pub Flag : List ℕ → NodeKind → ℕ → Option ℕ → Type 0
Flag cs n k (Some r) = T (has cs k) × (r ≡ flag_of outs.flags (node_code n) k)
Flag cs n k None = T (has cs k) → ⊥

pub record Flags (cs : List ℕ) (n : NodeKind) (k : ℕ) (r : Option ℕ) : Type 0 where
  pub by : Flag cs n k r

abbrev pub Operator : Level → ℕ → Option ℕ → Type 0
Operator v = Flags (operators v) binary_node

abbrev pub Prefix : ℕ → Option ℕ → Type 0
Prefix = Flags prefixes unary_node

-- r is the kind of the record that a token of the kind k leaves, where it is a whole expression; or there is none
abbrev pub LeafKind : ℕ → Option ℕ → Type 0
LeafKind k (Some r) = T (has literal k) × (r ≡ leaf_kind outs.leafs k)
LeafKind k None = T (has literal k) → ⊥

pub record Leaf (k : ℕ) (r : Option ℕ) : Type 0 where
  pub by : LeafKind k r

-- r is the kind of the record that an expression under the keyword k leaves: `checked`, or else `wrapping`
pub record Wrapper (k r : ℕ) : Type 0 where
  pub checked : k ≡ code Checked → r ≡ node_code checked_node
  pub wrapping : (k ≡ code Checked → ⊥) → r ≡ node_code wrapping_node
