-- Worked readings of documents 01 and 02, computed: texts under an empty word table.
use Prim.Native.String.{String}
use mathlib.Core.Path.{◌≡◌, refl}
use mathlib.Core.List.{List, [], ◌∷◌}
use Rattle.quanta_token.specs.declared.edition.Edition.TheVariants.{One, Two}
use Rattle.quanta_token.specs.declared.edition.Edition.{Edition}
use Rattle.quanta_token.specs.Runs.{run, run_end}
use Rattle.quanta_token.specs.Symbols.{pair_kind, single_kind}
use Rattle.quanta_token.specs.Text.{bytes, same, kind_if}
use Rattle.quanta_token.specs.TokenKind.{code, Int, Date, RParen, Minus, Eof}
use Rattle.quanta_lexer.specs.Refusals.{bare_date, leading_zero, other_byte, no_day}
use Rattle.quanta_lexer.specs.Scan.{choose, date_at, number_at, symbol_at, token_at}
use Rattle.quanta_lexer.specs.Tokens.{Tok, tok, Ending, done, refused, Lexing, lex_from, lex_all}
use Rattle.quanta_lexer.specs.Trivia.{trivia, trivia_end}
use Rattle.quanta_lexer.specs.Dates.{dates, read_all, told_all}
use Rattle.quanta_lexer.specs.Days.{leap_year, month_days, day_at}

abbrev lexings : Edition → List String → List Lexing
lexings ed [] = []
lexings ed (x ∷ xs) = lex_all ed (bytes x) [] ∷ lexings ed xs

abbrev read : List Tok → Lexing
read ts = record { toks = ts; ending = done }

abbrev stop : List Tok → Ending → Lexing
stop ts e = record { toks = ts; ending = e }

pub readings :
    lexings One ("" ∷ "0" ∷ "1_" ∷ "@2024-99-99" ∷ "0_1" ∷ "00" ∷ "2024-01-01" ∷ "2024-01-011" ∷ ") #" ∷ []) ≡
    read (tok (code Eof) 0 0 ∷ []) ∷
    read (tok (code Int) 0 1 ∷ tok (code Eof) 1 1 ∷ []) ∷
    read (tok (code Int) 0 2 ∷ tok (code Eof) 2 2 ∷ []) ∷
    read (tok (code Date) 0 11 ∷ tok (code Eof) 11 11 ∷ []) ∷
    stop [] (refused leading_zero 0 3) ∷
    stop [] (refused leading_zero 0 2) ∷
    stop [] (refused bare_date 0 10) ∷
    stop (tok (code Int) 0 4 ∷ tok (code Minus) 4 5 ∷ []) (refused leading_zero 5 7) ∷
    stop (tok (code RParen) 0 1 ∷ []) (refused other_byte 2 3) ∷
    []
unfolding lex_all lex_from trivia_end trivia token_at choose number_at date_at symbol_at run_end run
    pair_kind single_kind kind_if same
readings = refl

-- edition 2: 28 takes its place among 6 to 10 by the place of the token
pub readings_two :
    lexings Two
    ("2024-02-30" ∷ "@2024-02-301" ∷ "@2024-02-30x" ∷ "00 @2024-02-30" ∷ "@2024-02-30 00" ∷ ") @2024-02-30" ∷ []) ≡
    stop [] (refused bare_date 0 10) ∷
    stop [] (refused other_byte 0 1) ∷
    stop [] (refused no_day 0 11) ∷
    stop [] (refused leading_zero 0 2) ∷
    stop [] (refused no_day 0 11) ∷
    stop (tok (code RParen) 0 1 ∷ []) (refused no_day 2 13) ∷
    []
unfolding lex_all lex_from trivia_end trivia token_at choose number_at date_at symbol_at day_at month_days leap_year run_end run
    pair_kind single_kind kind_if same
readings_two = refl

pub days : read_all dates ≡ told_all dates
unfolding lex_all lex_from trivia_end trivia token_at choose date_at symbol_at day_at month_days leap_year
days = refl
