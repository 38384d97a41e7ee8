-- Line and column of an offset.
use Rattle.std.specs.Prelude.{ℕ, ◌+◌, cond, List, [], ◌∷◌, eqb, leb, length, take}
use Rattle.quanta_text.specs.declared.place.LineColumn.{LineColumn}

abbrev pub LF : ℕ
LF = 0x0A

-- the LFs of a text
unfoldable pub feeds_in : List ℕ → ℕ
feeds_in [] = 0
feeds_in (c ∷ cs) = cond (eqb c LF) 1 0 + feeds_in cs

-- the bytes since the last LF, where n stand since then before the text
unfoldable pub since_from : ℕ → List ℕ → ℕ
since_from n [] = n
since_from n (c ∷ cs) = since_from (cond (eqb c LF) 0 (n + 1)) cs

abbrev pub placed : ℕ → ℕ → LineColumn
placed l c = record { line = l; column = c }

-- line is 1 plus the LFs before an offset; column is 1 plus the bytes since the last LF; an offset above the source's length gives 0 and 0
unfoldable pub place_of : List ℕ → ℕ → LineColumn
place_of s o = cond (leb o (length s)) (placed (feeds_in (take o s) + 1) (since_from 0 (take o s) + 1)) (placed 0 0)
