-- Where a reader stands behind what another has read.
-- Assumes nothing.
use Rattle.std.specs.Prelude.{Ok, Result}
use mathlib.Core.Path.{◌≡◌, ap}
use mathlib.Core.List.{List}
use Prim.Native.Nat.{ℕ}
use lib.Dec.{T, eqb}
use Rattle.quanta_token.specs.TokenKind.{code, Eof}
use Rattle.quanta_grammar.specs.NodeKind.{node_code, name_node}
use Rattle.quanta_grammar.specs.RefusalKind.{refusal_code, expected_identifier}
use Rattle.quanta_grammar.specs.Productions.{Symbol, name}
use Rattle.quanta_grammar.specs.Refine.{Text, blank}
use Rattle.quanta_cursor.specs.declared.parser.TokenPos.{TokenPos}
use Rattle.quanta_cursor.specs.declared.parser.Node.{Node}
use Rattle.quanta_cursor.specs.declared.parser.Nodes.{Nodes}
use Rattle.quanta_cursor.specs.declared.parser.Refusal.{Refusal}
use Rattle.quanta_cursor.specs.Tokens.{Ready}
use Rattle.quanta_cursor.specs.Answers.{Reads, Lists}
use Rattle.quanta_cursor.specs.Cursor.{Expects, Words}
use Rattle.quanta_cursor.proofs.Places.{past_in, ready_word, ready_behind, took_ready, all_ready}
use Rattle.quanta_cursor.proofs.Meeting.{word_of, next_of, took_of, all_of}

-- a name, as `expect_ident` answers
abbrev pub Named : List ℕ → ℕ → ℕ → List ℕ → Result Node Refusal → List ℕ → Type 0
Named ws p n t r t' = Words name (node_code name_node) (refusal_code expected_identifier) ws t p n r t'

module _ {ws : List ℕ} {p n : ℕ} (g : Ready ws p n)
    {t : List ℕ} {r : Result Node Refusal} {t' : List ℕ} {m : Node} where
  -- behind a name
  pub name_ready : Named ws p n t r t' → r ≡ Ok m → Ready ws m.at.0 m.no.0
  name_ready v z =
      let y = word_of z v in
      ready_word g (past_in name (λ u. u) g.closed g.inside y.0)
      (ap (λ (m : Node). m.at.0) y.1) (ap (λ (m : Node). m.no.0) y.1)

  -- behind a phrase, which may have been read of any text
  pub phrase_ready : (s : Symbol) (a : ℕ) → ((src : Text) → Reads src s ws p n a t r t')
      → r ≡ Ok m → Ready ws m.at.0 m.no.0
  phrase_ready s a v z = took_ready blank s a g (took_of z (v blank))

module _ {ws : List ℕ} {p n : ℕ} (g : Ready ws p n) where
  -- behind a list
  pub list_ready : (s : Symbol) (a : ℕ) {t : List ℕ} {r : Result Nodes Refusal} {t' : List ℕ} {m : Nodes}
      → ((src : Text) → Lists src s ws p n a t r t') → r ≡ Ok m → Ready ws m.at.0 m.no.0
  list_ready s a v z = all_ready blank s a g (all_of z (v blank))

  -- behind a token that was expected
  pub next_ready : (k : ℕ) → (T (eqb k (code Eof)) → ⊥) → {r : Result TokenPos Refusal} {i : TokenPos}
      → Expects ws p k r → r ≡ Ok i → Ready ws i.0 n
  next_ready k w v z = let y = next_of z v in ready_behind k w g y.0 y.1
