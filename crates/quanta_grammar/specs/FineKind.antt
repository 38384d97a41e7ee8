-- Kinds finer than the lexer's, told apart by a token's text or by the edition; their numbers stand behind its 62.
-- Assumes nothing.
use Rattle.std.specs.Prelude.{ℕ}

-- an identifier that spells `of`; one that spells a unit of time; an `after` with an integer and such a unit behind it;
-- in edition 2 a `>>`, which counts as two closers where a type list must close; and one closer of the two
pub data FineKind : Type 0 where
  OfWord UnitWord AfterSpan TwoClosers OneCloser : FineKind

abbrev pub fine : FineKind → ℕ
fine OfWord = 63
fine UnitWord = 64
fine AfterSpan = 65
fine TwoClosers = 66
fine OneCloser = 67
