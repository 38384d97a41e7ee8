-- Reading and recording in one: what a phrase leaves on top of what is left so far, and the tokens behind it; or a refusal.
-- Assumes nothing.
use Rattle.std.specs.Prelude.{List, ℕ}
use Rattle.grammar.specs.Grammar.{Tok, Grammar, Tree, Tolls, Terms}
use Rattle.grammar.specs.Records.{Acc, Outs, walk}
use Rattle.grammar.specs.Reader.{Res, got, bad, Refusal, Plan, read}

pub data Outcome : Type 0 where
  left : Acc → List Tok → Outcome
  refused : Refusal → Outcome

abbrev pub walked : {G : Grammar} (O : Outs G) {s : G.Symbol} → Res (Tree G s) → Acc → Outcome
walked O (got d r) x = left (walk O d x) r
walked O (bad e) x = refused e

-- a phrase of s with the allowance a, from the front of the tokens, on top of x
unfoldable pub reads : (G : Grammar) (W : Tolls G) (C : Terms G) (P : Plan G) (O : Outs G) → G.Symbol → ℕ → List Tok → Acc → Outcome
reads G W C P O s a ts x = walked O (read G W C P s a ts) x
