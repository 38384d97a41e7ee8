-- What `statement` knows of the next kind, what assigns, and what may be assigned to.
-- Assumes nothing.
use Rattle.std.specs.Prelude.{◌≡◌, List, [], ◌∷◌, ℕ, T, Option, Some, None}
use Rattle.grammar.specs.Grammar.{has}
use Rattle.grammar.specs.Records.{flag_of}
use Rattle.quanta_token.specs.TokenKind.{code, Guard, Let, Emit}
use Rattle.quanta_grammar.specs.NodeKind.{node_code, assign_node, name_node, access_node}
use Rattle.quanta_grammar.specs.Productions.{assigns, outs}

-- the records of a target (`is_target`)
abbrev pub lvalues : List ℕ
lvalues = node_code name_node ∷ node_code access_node ∷ []

-- no statement's keyword
pub record Keyless (k : ℕ) : Type 0 where
  pub guard : k ≡ code Guard → ⊥
  pub let' : k ≡ code Let → ⊥
  pub emit : k ≡ code Emit → ⊥

-- r is the flag of the assignment that a token of the kind k stands for; or there is none
abbrev pub Assigns : ℕ → Option ℕ → Type 0
Assigns k (Some r) = T (has assigns k) × (r ≡ flag_of outs.flags (node_code assign_node) k)
Assigns k None = T (has assigns k) → ⊥

pub record Assignment (k : ℕ) (r : Option ℕ) : Type 0 where
  pub by : Assigns k r
