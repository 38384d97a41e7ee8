-- How edition 2 reads what edition 1 reads: up to the first Date that is no day.
use Rattle.std.specs.Prelude.{ℕ, ◌+◌, ◌≡◌, true, false, List, [], ◌∷◌, ◌++◌}
use Rattle.quanta_token.specs.TokenKind.{code, Date}
use Rattle.quanta_lexer.specs.Days.{day_at}
use Rattle.quanta_lexer.specs.Refusals.{no_day}
use Rattle.quanta_lexer.specs.Tokens.{Tok, tok, refused, Lexing}

-- every Date of a list of tokens is a day
abbrev pub AllDays : List ℕ → List Tok → Type 0
AllDays s [] = Unit
AllDays s (t ∷ ts) = (t.kind ≡ code Date → day_at s (t.start + 1) ≡ true) × AllDays s ts

-- a Date of the first reading is no day, every Date before it is one, and the second reading stops at it with 28
pub record FirstNoDay (s : List ℕ) (one two : Lexing) : Type 0 where
  pub before : List Tok
  pub start : ℕ
  pub stop : ℕ
  pub behind : List Tok
  pub stands : one.toks ≡ before ++ (tok (code Date) start stop ∷ behind)
  pub days : AllDays s before
  pub is_no_day : day_at s (start + 1) ≡ false
  pub stops : two ≡ record { toks = before; ending = refused no_day start stop }
