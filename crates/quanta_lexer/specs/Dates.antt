-- Dates to read in edition 2, each with whether it is a day.
use Prim.Native.String.{String}
use Rattle.std.specs.Prelude.{Bool, true, false, List, [], ◌∷◌}
use Rattle.quanta_token.specs.Text.{bytes}
use Rattle.quanta_token.specs.TokenKind.{code, Date, Eof}
use Rattle.quanta_token.specs.declared.edition.Edition.TheVariants.{Two}
use Rattle.quanta_lexer.specs.Refusals.{no_day}
use Rattle.quanta_lexer.specs.Tokens.{tok, done, refused, Lexing, lex_all}

-- the last day of every month of a common year and of a leap year and the number behind it, February by the leap rule,
-- the first and the last day there are, and numbers that are no month's and no day's
abbrev pub dates : List (String × Bool)
dates =
    ("@2023-01-31", true) ∷ ("@2023-01-32", false) ∷ ("@2023-02-28", true) ∷ ("@2023-02-29", false) ∷
    ("@2023-03-31", true) ∷ ("@2023-03-32", false) ∷ ("@2023-04-30", true) ∷ ("@2023-04-31", false) ∷
    ("@2023-05-31", true) ∷ ("@2023-05-32", false) ∷ ("@2023-06-30", true) ∷ ("@2023-06-31", false) ∷
    ("@2023-07-31", true) ∷ ("@2023-07-32", false) ∷ ("@2023-08-31", true) ∷ ("@2023-08-32", false) ∷
    ("@2023-09-30", true) ∷ ("@2023-09-31", false) ∷ ("@2023-10-31", true) ∷ ("@2023-10-32", false) ∷
    ("@2023-11-30", true) ∷ ("@2023-11-31", false) ∷ ("@2023-12-31", true) ∷ ("@2023-12-32", false) ∷
    ("@2024-01-31", true) ∷ ("@2024-01-32", false) ∷ ("@2024-02-29", true) ∷ ("@2024-02-30", false) ∷
    ("@2024-03-31", true) ∷ ("@2024-03-32", false) ∷ ("@2024-04-30", true) ∷ ("@2024-04-31", false) ∷
    ("@2024-05-31", true) ∷ ("@2024-05-32", false) ∷ ("@2024-06-30", true) ∷ ("@2024-06-31", false) ∷
    ("@2024-07-31", true) ∷ ("@2024-07-32", false) ∷ ("@2024-08-31", true) ∷ ("@2024-08-32", false) ∷
    ("@2024-09-30", true) ∷ ("@2024-09-31", false) ∷ ("@2024-10-31", true) ∷ ("@2024-10-32", false) ∷
    ("@2024-11-30", true) ∷ ("@2024-11-31", false) ∷ ("@2024-12-31", true) ∷ ("@2024-12-32", false) ∷
    ("@0000-02-29", true) ∷ ("@0000-02-30", false) ∷ ("@1600-02-29", true) ∷ ("@1700-02-29", false) ∷
    ("@1900-02-28", true) ∷ ("@1900-02-29", false) ∷ ("@2000-02-29", true) ∷ ("@2100-02-29", false) ∷
    ("@0000-01-01", true) ∷ ("@0000-00-00", false) ∷ ("@9999-12-31", true) ∷ ("@9999-99-99", false) ∷
    ("@2024-01-01", true) ∷ ("@2024-01-00", false) ∷ ("@2024-00-10", false) ∷ ("@2024-13-01", false) ∷
    []

-- a Date and the end, or 28 with the span of the Date
abbrev pub told : Bool → Lexing
told true = record { toks = tok (code Date) 0 11 ∷ tok (code Eof) 11 11 ∷ []; ending = done }
told false = record { toks = []; ending = refused no_day 0 11 }

abbrev pub read_all : List (String × Bool) → List Lexing
read_all [] = []
read_all (d ∷ ds) = lex_all Two (bytes d.0) [] ∷ read_all ds

abbrev pub told_all : List (String × Bool) → List Lexing
told_all [] = []
told_all (d ∷ ds) = told d.1 ∷ told_all ds
