-- What the tables of operators and literals tell of a token.
-- Assumes nothing.
use Rattle.std.specs.Prelude.{Option, Some, None}
use mathlib.Core.Path.{◌≡◌, subst}
use mathlib.Core.List.{List}
use Prim.Native.Nat.{ℕ}
use lib.Dec.{T}
use Rattle.grammar.specs.Grammar.{has}
use Rattle.grammar.specs.Records.{leaf_kind, flag_of}
use Rattle.quanta_grammar.specs.NodeKind.{NodeKind, node_code}
use Rattle.quanta_grammar.specs.Productions.{literal, outs}
use Rattle.quanta_expr.specs.Ops.{Flag, Flags, LeafKind, Leaf}

-- at a token
module _ (cs : List ℕ) (n : NodeKind) {j k : ℕ} (e : j ≡ k) {r : Option ℕ} (f : Flags cs n j r) where
  pub op_at : {flag : ℕ} → r ≡ Some flag → T (has cs k) × (flag ≡ flag_of outs.flags (node_code n) k)
  op_at {flag} z =
      let y : Flag cs n j (Some flag) = subst (λ (r : Option ℕ). Flag cs n j r) z f.by in
      subst (λ (i : ℕ). T (has cs i) × (flag ≡ flag_of outs.flags (node_code n) i)) e y

  pub no_op_at : r ≡ None → T (has cs k) → ⊥
  no_op_at z =
      let y : Flag cs n j None = subst (λ (r : Option ℕ). Flag cs n j r) z f.by in
      subst (λ (i : ℕ). T (has cs i) → ⊥) e y

module _ {j k : ℕ} (e : j ≡ k) {r : Option ℕ} (f : Leaf j r) where
  pub leaf_at : {kind : ℕ} → r ≡ Some kind → T (has literal k) × (kind ≡ leaf_kind outs.leafs k)
  leaf_at {kind} z =
      let y : LeafKind j (Some kind) = subst (λ (r : Option ℕ). LeafKind j r) z f.by in
      subst (λ (i : ℕ). T (has literal i) × (kind ≡ leaf_kind outs.leafs i)) e y

  pub no_leaf_at : r ≡ None → T (has literal k) → ⊥
  no_leaf_at z =
      let y : LeafKind j None = subst (λ (r : Option ℕ). LeafKind j r) z f.by in
      subst (λ (i : ℕ). T (has literal i) → ⊥) e y
