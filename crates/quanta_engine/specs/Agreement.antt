-- What it means that two readers of a phrase agree.
-- Assumes nothing.
use Rattle.std.specs.Prelude.{◌≡◌, List, ℕ, Ok, Result}
use Rattle.quanta_cursor.specs.declared.parser.Node.{Node}
use Rattle.quanta_cursor.specs.declared.parser.Nodes.{Nodes}
use Rattle.quanta_cursor.specs.declared.parser.Refusal.{Refusal}

-- the same answer; and where it is a node, the same words: records, spans and counts
pub record Agree (r : Result Node Refusal) (t : List ℕ) (r' : Result Node Refusal) (t' : List ℕ) : Type 0 where
  pub answer : r ≡ r'
  pub words : (m : Node) → r ≡ Ok m → t ≡ t'

-- .. of a list: with the count of its nodes
pub record AgreeAll (r : Result Nodes Refusal) (t : List ℕ) (r' : Result Nodes Refusal) (t' : List ℕ) : Type 0 where
  pub answer : r ≡ r'
  pub words : (m : Nodes) → r ≡ Ok m → t ≡ t'
