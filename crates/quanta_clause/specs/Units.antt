-- An integer and a unit of time, which make a duration behind `after`.
-- Assumes nothing.
use Rattle.std.specs.Prelude.{Bool, ◌&&◌, List, ℕ, ◌+◌, eqb}
use Rattle.grammar.specs.Grammar.{has}
use Rattle.quanta_token.specs.TokenKind.{code, Int}
use Rattle.quanta_grammar.specs.Productions.{unit_word}
use Rattle.quanta_grammar.specs.Refine.{Text}
use Rattle.quanta_cursor.specs.Tokens.{kind_at, fine_at}

-- the token at i is an identifier that spells a unit of time
abbrev pub is_unit : Text → List ℕ → ℕ → Bool
is_unit src ws i = has unit_word (fine_at src ws i)

-- an integer stands at i, and a unit behind it
abbrev pub is_duration : Text → List ℕ → ℕ → Bool
is_duration src ws i = eqb (kind_at ws i) (code Int) && is_unit src ws (i + 1)
