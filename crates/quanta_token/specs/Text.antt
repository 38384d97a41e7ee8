-- Texts as lists of bytes, and lists of spelled kinds.
use Rattle.std.specs.Prelude.{ℕ, Bool, true, false, ◌&&◌, cond, List, [], ◌∷◌, eqb}
use Prim.Native.Char.{code as code_point}
use Prim.Native.String.{String, [] as []ˢ, ◌∷◌ as ◌∷ˢ◌}
use Rattle.quanta_token.specs.TokenKind.{TokenKind, code}

-- the bytes of an ASCII text
abbrev pub bytes : String → List ℕ
bytes []ˢ = []
bytes (c ∷ˢ cs) = code_point c ∷ bytes cs

-- whether two lists are the same bytes
unfoldable pub same : List ℕ → List ℕ → Bool
same [] [] = true
same [] (y ∷ ys) = false
same (x ∷ xs) [] = false
same (x ∷ xs) (y ∷ ys) = eqb x y && same xs ys

-- a text and the number of the kind that it spells
pub record Spelled : Type 0 where
  pub text : List ℕ
  pub kind : ℕ

abbrev pub spell : String → TokenKind → Spelled
spell t k = record { text = bytes t; kind = code k }

-- a kind if a word is a text, and else another
unfoldable pub kind_if : List ℕ → List ℕ → ℕ → ℕ → ℕ
kind_if w t kind other = cond (same w t) kind other

-- the kind of the first entry that a word spells, or another
abbrev pub kind_in : List Spelled → List ℕ → ℕ → ℕ
kind_in [] w other = other
kind_in (e ∷ es) w other = kind_if w e.text e.kind (kind_in es w other)
