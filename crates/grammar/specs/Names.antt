-- Lists that hold every symbol and every production of a grammar, so that a computed test of the list says something of each of them.
-- Assumes nothing.
use Rattle.std.specs.Prelude.{◌≡◌, List, [], ◌∷◌, ℕ, zero, suc}
use Rattle.std.proofs.Math.Option.{Option, none, some}
use Rattle.grammar.specs.Grammar.{Grammar}

-- the entry at a place, counted from 0
abbrev pub entry : {A : Type 0} → List A → ℕ → Option A
entry [] n = none
entry (x ∷ xs) zero = some x
entry (x ∷ xs) (suc n) = entry xs n

-- x stands in the list, at this place
pub record Placed {A : Type 0} (xs : List A) (x : A) : Type 0 where
  pub no : ℕ
  pub there : entry xs no ≡ some x

abbrev pub at : {A : Type 0} {xs : List A} {x : A} (n : ℕ) → entry xs n ≡ some x → Placed xs x
at n e = record { no = n; there = e }

-- all symbols; all productions of each; and where each of them stands
pub record Names (G : Grammar) : Type 0 where
  pub symbols : List G.Symbol
  pub symbol : (s : G.Symbol) → Placed symbols s
  pub rules : (s : G.Symbol) → List (G.Rule s)
  pub rule : (s : G.Symbol) (p : G.Rule s) → Placed (rules s) p
