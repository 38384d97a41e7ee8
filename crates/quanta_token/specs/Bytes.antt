-- The classes of bytes.
use Rattle.std.specs.Prelude.{ℕ, ◌<◌, Bool, not, cond, ◌&&◌, ◌||◌, List, ◌≡◌, leb, eqb, get_or}
use Rattle.quanta_token.specs.declared.bytes.ByteClass.{ByteClass}
use Rattle.quanta_token.specs.declared.bytes.ByteClass.TheVariants.{WordStart, Digit, Blank, Symbol, Quote, At, Other}
use Rattle.quanta_token.specs.declared.bytes.Run.{Run}
use Rattle.quanta_token.specs.declared.bytes.Run.TheVariants.{Blanks, Word, Number, Comment, Quoted}

-- lo ≤ c ≤ hi
abbrev pub within : ℕ → ℕ → ℕ → Bool
within lo hi c = leb lo c && leb c hi

abbrev pub digit : ℕ → Bool
digit c = within 0x30 0x39 c

abbrev pub letter : ℕ → Bool
letter c = within 0x61 0x7A c || within 0x41 0x5A c

-- a letter or `_`
abbrev pub word_start : ℕ → Bool
word_start c = letter c || eqb c 0x5F

-- a letter, `_` or a digit
abbrev pub word_byte : ℕ → Bool
word_byte c = word_start c || digit c

-- space, tab, LF, CR
abbrev pub blank : ℕ → Bool
blank c = eqb c 0x20 || eqb c 0x09 || eqb c 0x0A || eqb c 0x0D

-- a byte that a symbol begins with: one of { } ( ) , ; : . = + - * / % < > ! & |
abbrev pub symbol : ℕ → Bool
symbol c =
    eqb c 0x7B || eqb c 0x7D || eqb c 0x28 || eqb c 0x29 || eqb c 0x2C || eqb c 0x3B || eqb c 0x3A || eqb c 0x2E || eqb c 0x3D || eqb c 0x2B ||
    eqb c 0x2D || eqb c 0x2A || eqb c 0x2F || eqb c 0x25 || eqb c 0x3C || eqb c 0x3E || eqb c 0x21 || eqb c 0x26 || eqb c 0x7C

-- the class of a byte
unfoldable pub class_of : ℕ → ByteClass
class_of c =
    cond (word_start c) WordStart
    (cond (digit c) Digit (cond (blank c) Blank (cond (symbol c) Symbol (cond (eqb c 0x22) Quote (cond (eqb c 0x40) At Other)))))

-- a chart has at each byte its class
abbrev pub Chart : List ByteClass → Type 0
Chart t = (c : ℕ) → c < 256 → get_or t c WordStart ≡ class_of c

-- what goes on with each run: blanks; a word; digits and `_`; anything but LF; anything but LF and `"`
abbrev pub goes_on : Run → ℕ → Bool
goes_on Blanks c = blank c
goes_on Word c = word_byte c
goes_on Number c = digit c || eqb c 0x5F
goes_on Comment c = not (eqb c 0x0A)
goes_on Quoted c = not (eqb c 0x0A || eqb c 0x22)
