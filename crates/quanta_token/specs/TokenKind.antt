-- The kinds of tokens by name, and their numbers: 1 plus the place in `TokenKind`. The one list of both.
use Rattle.std.specs.Prelude.{ℕ, List, [], ◌∷◌}

-- the kinds in the order of the original's `TokenKind`
pub data TokenKind : Type 0 where
  Ident Int Date Str : TokenKind
  Contract Entry Guard Genesis Caller InAsset Native Now State Invariant Event Emit Asset Let Signed By : TokenKind
  Sealed Meta Quorum After From Mints Burns Conserves Writes Reads Limits Denies Import Checked Wrapping : TokenKind
  LBrace RBrace LParen RParen Comma Semi Colon Dot Eq PlusEq MinusEq Plus Minus Star Slash Percent : TokenKind
  Lt Gt Le Ge EqEq Ne Bang AndAnd OrOr Shr : TokenKind
  Eof : TokenKind

-- a kind's number in the token records
abbrev pub code : TokenKind → ℕ
code Ident = 1
code Int = 2
code Date = 3
code Str = 4
code Contract = 5
code Entry = 6
code Guard = 7
code Genesis = 8
code Caller = 9
code InAsset = 10
code Native = 11
code Now = 12
code State = 13
code Invariant = 14
code Event = 15
code Emit = 16
code Asset = 17
code Let = 18
code Signed = 19
code By = 20
code Sealed = 21
code Meta = 22
code Quorum = 23
code After = 24
code From = 25
code Mints = 26
code Burns = 27
code Conserves = 28
code Writes = 29
code Reads = 30
code Limits = 31
code Denies = 32
code Import = 33
code Checked = 34
code Wrapping = 35
code LBrace = 36
code RBrace = 37
code LParen = 38
code RParen = 39
code Comma = 40
code Semi = 41
code Colon = 42
code Dot = 43
code Eq = 44
code PlusEq = 45
code MinusEq = 46
code Plus = 47
code Minus = 48
code Star = 49
code Slash = 50
code Percent = 51
code Lt = 52
code Gt = 53
code Le = 54
code Ge = 55
code EqEq = 56
code Ne = 57
code Bang = 58
code AndAnd = 59
code OrOr = 60
code Shr = 61
code Eof = 62

abbrev pub codes : List TokenKind → List ℕ
codes [] = []
codes (k ∷ ks) = code k ∷ codes ks
