-- How each symbol is read, computed of a grammar for the test of its spans to check.
-- Nothing here is to be believed: a wrong shape only fails the test.
-- Assumes nothing.
use mathlib.Core.Bool.{Bool, true, false, ◌&&◌}
use mathlib.Core.List.{List, [], ◌∷◌, ◌++◌}
use mathlib.Core.Option.{none, some}
use Prim.Native.Nat.{ℕ, zero, suc}
use lib.Dec.{eqb}
use Rattle.grammar.specs.Grammar.{Item, one, sub, Grammar}
use Rattle.grammar.specs.Names.{entry, Names}
use Rattle.grammar.specs.Records.{Way, pass, fold, Mark, first_mark, rest, Outs}
use Rattle.grammar.proofs.Sets.{table, any, collect}
use Rattle.grammar.proofs.Spans.{State, state, whole, clear, on_token, settles, Shape, alone, over, on_symbol}

-- what is known either way
abbrev meet : State → State → State
meet σ τ = state (σ.seen && τ.seen) (σ.low && τ.low) (σ.high && τ.high)

abbrev meets : List State → State
meets [] = whole
meets (σ ∷ σs) = meet σ (meets σs)

abbrev entered : Shape → State
entered (alone τ) = clear
entered (over ρ τ) = ρ

-- does a production fold the symbol numbered n
abbrev folds : {S : Type 0} → (S → ℕ) → ℕ → List Mark → List (Item S) → Bool
folds N n ms [] = false
folds N n ms (one c ∷ is) = folds N n (rest ms) is
folds {S} N n ms (sub s ∷ is) = elim (first_mark ms).phrase [ pass ↦ folds N n (rest ms) is | fold ↦ elim (eqb (N s) n) [ true ↦ true | false ↦ folds N n (rest ms) is ] ]

-- the state behind the parts; the states in which the symbol numbered n is read
abbrev run : {S : Type 0} → (S → Shape) → State → List Mark → List (Item S) → State
run H σ ms [] = σ
run H σ ms (one c ∷ is) = run H (settles (first_mark ms).steps (on_token (first_mark ms).token (first_mark ms).reach σ)) (rest ms) is
run H σ ms (sub s ∷ is) = run H (settles (first_mark ms).steps (on_symbol (first_mark ms).phrase (first_mark ms).reach (H s) σ)) (rest ms) is

abbrev here : {S : Type 0} → (S → ℕ) → ℕ → Way → S → State → List State
here N n pass s σ = elim (eqb (N s) n) [ true ↦ clear ∷ [] | false ↦ [] ]
here N n fold s σ = elim (eqb (N s) n) [ true ↦ σ ∷ [] | false ↦ [] ]

abbrev places : {S : Type 0} → (S → ℕ) → ℕ → (S → Shape) → State → List Mark → List (Item S) → List State
places N n H σ ms [] = []
places N n H σ ms (one c ∷ is) = places N n H (settles (first_mark ms).steps (on_token (first_mark ms).token (first_mark ms).reach σ)) (rest ms) is
places N n H σ ms (sub s ∷ is) = here N n (first_mark ms).phrase s σ ++ places N n H (settles (first_mark ms).steps (on_symbol (first_mark ms).phrase (first_mark ms).reach (H s) σ)) (rest ms) is

module _ {G : Grammar} (N : Names G) (O : Outs G) where
  abbrev no : G.Symbol → ℕ
  no s = (N.symbol s).no

  abbrev look : List Shape → G.Symbol → Shape
  look t s = elim (entry t (no s)) [ none ↦ alone whole | some e ↦ e ]

  -- at first all is thought to be known
  first : G.Symbol → Shape
  first s = elim (any (λ q. any (λ p. folds no (no s) (O.marks q p) (G.parts q p)) (N.rules q)) N.symbols) [ true ↦ over whole whole | false ↦ alone whole ]

  again : List Shape → G.Symbol → Shape → Shape
  again t s (alone τ) = alone (meets (table (λ p. run (look t) clear (O.marks s p) (G.parts s p)) (N.rules s)))
  again t s (over ρ τ) = over
      (meets (collect (λ q. collect (λ p. places no (no s) (look t) (entered (look t q)) (O.marks q p) (G.parts q p)) (N.rules q)) N.symbols))
      (meets (table (λ p. run (look t) ρ (O.marks s p) (G.parts s p)) (N.rules s)))

  rounds : ℕ → List Shape → List Shape
  unfolding again
  rounds zero t = t
  rounds (suc n) t = rounds n (table (λ s. again t s (look t s)) N.symbols)

  unfoldable pub shapes : List Shape
  unfolding first rounds
  shapes = rounds 8 (table first N.symbols)

  unfoldable pub shape : G.Symbol → Shape
  unfolding shapes
  shape s = look shapes s
