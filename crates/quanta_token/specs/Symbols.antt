-- The symbols.
use Rattle.std.specs.Prelude.{ℕ, cond, eqb, List, [], ◌∷◌, Option, Some, None}
use Rattle.quanta_token.specs.Text.{Spelled, spell, kind_in}
use Rattle.quanta_token.specs.TokenKind.{PlusEq, MinusEq, Le, Ge, Shr, EqEq, Ne, AndAnd, OrOr, LBrace, RBrace, LParen, RParen, Comma, Semi, Colon, Dot, Eq, Plus, Minus, Star, Slash, Percent, Lt, Gt, Bang}

-- the symbols of two bytes, which come first
abbrev pub pairs : List Spelled
pairs =
    spell "+=" PlusEq ∷
    spell "-=" MinusEq ∷
    spell "<=" Le ∷
    spell ">=" Ge ∷
    spell ">>" Shr ∷
    spell "==" EqEq ∷
    spell "!=" Ne ∷
    spell "&&" AndAnd ∷
    spell "||" OrOr ∷
    []

-- the symbols of one byte
abbrev pub singles : List Spelled
singles =
    spell "{" LBrace ∷
    spell "}" RBrace ∷
    spell "(" LParen ∷
    spell ")" RParen ∷
    spell "," Comma ∷
    spell ";" Semi ∷
    spell ":" Colon ∷
    spell "." Dot ∷
    spell "=" Eq ∷
    spell "+" Plus ∷
    spell "-" Minus ∷
    spell "*" Star ∷
    spell "/" Slash ∷
    spell "%" Percent ∷
    spell "<" Lt ∷
    spell ">" Gt ∷
    spell "!" Bang ∷
    []

-- no kind's number: where no symbol stands
abbrev pub no_kind : ℕ
no_kind = 0

-- the kind of the symbol of two bytes c d, and of the one byte c
unfoldable pub pair_kind : ℕ → ℕ → ℕ
pair_kind c d = kind_in pairs (c ∷ d ∷ []) no_kind

unfoldable pub single_kind : ℕ → ℕ
single_kind c = kind_in singles (c ∷ []) no_kind

-- a kind, if it is one
unfoldable pub if_any : ℕ → Option ℕ
if_any k = cond (eqb k no_kind) None (Some k)
