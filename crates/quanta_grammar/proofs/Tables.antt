-- The grammar of Quanta passes the tests, so that the theorems hold of it.
-- Assumes nothing.
use mathlib.Core.Bool.{true, false}
use mathlib.Core.List.{List, [], ◌++◌}
use Prim.Native.Nat.{ℕ}
use lib.Dec.{T}
use Rattle.grammar.proofs.Sets.{row, table, solid, rank, first, follow, shortest, height, pure}
use Rattle.grammar.proofs.Fix.{ranked}
use Rattle.grammar.proofs.Complete.{Sets, predictive}
use Rattle.grammar.proofs.Count.{thrifty}
use Rattle.grammar.proofs.Spans.{Shape, steady}
use Rattle.grammar.proofs.Shapes as Shapes
use Rattle.grammar.proofs.Owns.{owned}
use Rattle.grammar.proofs.OwnTokens.{keyedly, unhalved}
use Rattle.grammar.proofs.Seeds.{sprouts}
use Rattle.quanta_grammar.specs.Productions.{Symbol, grammar, outs}
use Rattle.quanta_grammar.specs.Names.{symbols, symbol_no, names}
use Rattle.quanta_grammar.specs.Reading.{plan}
use Rattle.quanta_grammar.specs.OwnTokens.{own_kinds}

-- no symbol begins with itself
pub low : T (ranked grammar names)
unfolding solid rank
low = tt

-- the kinds that may follow each symbol, and those that may come next before it
unfoldable pub follow_table : List (List ℕ)
unfolding solid first follow
follow_table = table (follow names) symbols

unfoldable pub follows : Sets grammar
unfolding follow_table
follows s = row follow_table (symbol_no s)

unfoldable pub front_table : List (List ℕ)
unfolding solid first follows
front_table = table (λ s. first names s ++ elim (solid names s) [ true ↦ [] | false ↦ follows s ]) symbols

unfoldable pub fronts : Sets grammar
unfolding front_table
fronts s = row front_table (symbol_no s)

-- the next token's kind tells the productions of a symbol apart
pub ok : T (predictive grammar names plan fronts follows)
unfolding predictive fronts follows
ok = tt

-- no production leaves more records than it has tokens
pub cheap : T (thrifty grammar names outs)
cheap = tt

-- how each symbol is read
unfoldable pub shape : Symbol → Shape
unfolding Shapes.shape
shape = Shapes.shape names outs

-- each record is made under a span that holds all that is left
pub sane : T (steady grammar names outs shape)
unfolding steady shape
sane = tt

-- each record takes a token of its own
pub owned_ok : T (owned grammar names outs)
unfolding owned pure
owned_ok = tt

-- .. of the kinds that document 01 says
pub rightly : T (keyedly grammar names outs own_kinds)
unfolding keyedly pure
rightly = tt

-- .. so never a half
pub whole_ok : T (unhalved grammar.half own_kinds)
whole_ok = tt

-- each symbol has a derivation
pub grows : T (sprouts grammar names)
unfolding shortest height
grows = tt
