-- A token as the lexer gives it and the parser takes it.
use Rattle.std.specs.Prelude.{ℕ}

-- the number of its kind, and the bytes from start up to stop
pub record Token : Type 0 where
  pub kind : ℕ
  pub start : ℕ
  pub stop : ℕ
