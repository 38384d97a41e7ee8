-- What stands at a place: a token, the end, or the rule that is broken there.
use Rattle.std.specs.Prelude.{ℕ, ◌+◌, ◌-◌, Bool, true, false, ◌&&◌, not, List, length, get_or, take, drop, eqb, ltb}
use Rattle.std.specs.Prelude.{Option, Some, None, Result, Ok, Err}
use Rattle.quanta_token.specs.declared.edition.Edition.{Edition}
use Rattle.quanta_token.specs.declared.edition.Edition.TheVariants.{One, Two}
use Rattle.quanta_token.specs.Bytes.{digit, word_start, goes_on}
use Rattle.quanta_token.specs.Keywords.{word_kind}
use Rattle.quanta_token.specs.Runs.{run_end}
use Rattle.quanta_token.specs.Symbols.{no_kind, pair_kind, single_kind}
use Rattle.quanta_token.specs.TokenKind.{code, Int, Date, Str}
use Rattle.quanta_token.specs.declared.bytes.Run.TheVariants.{Word, Number, Quoted}
use Rattle.quanta_words.specs.Words.{held_in}
use Rattle.quanta_lexer.specs.Days.{day_at}
use Rattle.quanta_lexer.specs.Refusals.{refusal, barred_word, bare_date, leading_zero, open_string, other_byte, no_day}
use Rattle.quanta_lexer.specs.declared.scan.BytePos.{BytePos}
use Rattle.quanta_lexer.specs.declared.refusal.Refusal.{Refusal}
use Rattle.quanta_lexer.specs.declared.scan.Token.{Token}

-- a byte's offset
abbrev pub pos : ℕ → BytePos
pos i = record { 0 = i }

-- a token of a kind, from a up to e
abbrev pub token : ℕ → ℕ → ℕ → Token
token k a e = record { kind = k; start = pos a; end = pos e }

-- a token, nothing at the end, or a refusal
abbrev pub Lexed : Type 0
Lexed = Result (Option Token) Refusal

-- the first if the test holds, else the second
unfoldable pub choose : Bool → Lexed → Lexed → Lexed
choose true a b = a
choose false a b = b

-- the bytes from i up to e
abbrev pub part : List ℕ → ℕ → ℕ → List ℕ
part s i e = take (e - i) (drop i s)

-- a word: refused if the table holds it, else a keyword or an identifier
unfoldable pub word_at : List ℕ → List ℕ → ℕ → Lexed
word_at s t i =
    let e = run_end (goes_on Word) s i in
    let w = part s i e in
    choose (held_in t w) (Err (refusal barred_word i e)) (Ok (Some (token (word_kind w) i e)))

-- a date shape: 4-2-2 digits, not followed by a digit
unfoldable pub date_at : List ℕ → ℕ → Bool
date_at s i =
    digit (get_or s i 0) &&
    digit (get_or s (i + 1) 0) &&
    digit (get_or s (i + 2) 0) &&
    digit (get_or s (i + 3) 0) &&
    eqb (get_or s (i + 4) 0) 0x2D &&
    digit (get_or s (i + 5) 0) &&
    digit (get_or s (i + 6) 0) &&
    eqb (get_or s (i + 7) 0) 0x2D &&
    digit (get_or s (i + 8) 0) &&
    digit (get_or s (i + 9) 0) &&
    not (digit (get_or s (i + 10) 0))

-- a number, a digit and then digits and `_`: refused in a date shape, and if it is longer than 1 and starts with 0
unfoldable pub number_at : List ℕ → ℕ → Lexed
number_at s i =
    let e = run_end (goes_on Number) s i in
    choose (date_at s i) (Err (refusal bare_date i (i + 10)))
    (choose (eqb (get_or s i 0) 0x30 && ltb (i + 1) e) (Err (refusal leading_zero i e))
    (Ok (Some (token (code Int) i e))))

-- a string, from quote to quote: refused if it is open at LF or the end
unfoldable pub string_at : List ℕ → ℕ → Lexed
string_at s i =
    let e = run_end (goes_on Quoted) s (i + 1) in
    choose (eqb (get_or s e 0) 0x22) (Ok (Some (token (code Str) i (e + 1)))) (Err (refusal open_string i e))

-- the date shape at i will do: any in edition 1, a day in edition 2
abbrev pub dated : Edition → List ℕ → ℕ → Bool
dated One s i = true
dated Two s i = day_at s i

-- `@` before a date shape, refused if that will not do; a symbol of two bytes, of one; or a byte that starts nothing
unfoldable pub symbol_at : Edition → List ℕ → ℕ → Lexed
symbol_at ed s i =
    let two = pair_kind (get_or s i 0) (get_or s (i + 1) 0) in
    let one = single_kind (get_or s i 0) in
    choose (eqb (get_or s i 0) 0x40 && date_at s (i + 1))
    (choose (dated ed s (i + 1)) (Ok (Some (token (code Date) i (i + 11)))) (Err (refusal no_day i (i + 11))))
    (choose (not (eqb two no_kind)) (Ok (Some (token two i (i + 2))))
    (choose (not (eqb one no_kind)) (Ok (Some (token one i (i + 1))))
    (Err (refusal other_byte i (i + 1)))))

-- what stands at i
unfoldable pub token_at : Edition → List ℕ → List ℕ → ℕ → Lexed
token_at ed s t i =
    choose (ltb i (length s))
    (choose (word_start (get_or s i 0)) (word_at s t i)
    (choose (digit (get_or s i 0)) (number_at s i)
    (choose (eqb (get_or s i 0) 0x22) (string_at s i)
    (symbol_at ed s i))))
    (Ok None)
