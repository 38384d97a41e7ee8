-- The numbers of the refusals that the lexer gives, and its two limits.
use Rattle.std.specs.Prelude.{ℕ}
use Rattle.quanta_lexer.specs.declared.refusal.Refusal.{Refusal}

abbrev pub refusal : ℕ → ℕ → ℕ → Refusal
refusal k a e = record { number = k; start = a; end = e }

-- the table is too long or malformed
abbrev pub bad_table : ℕ
bad_table = 1

-- the source is too long
abbrev pub long_source : ℕ
long_source = 2

-- the source is not UTF-8
abbrev pub not_utf8 : ℕ
not_utf8 = 3

-- a CR without LF
abbrev pub bare_return : ℕ
bare_return = 4

-- a barred character
abbrev pub barred_character : ℕ
barred_character = 5

-- a word is in the table
abbrev pub barred_word : ℕ
barred_word = 6

-- a date shape without `@`
abbrev pub bare_date : ℕ
bare_date = 7

-- a number longer than 1 starts with 0
abbrev pub leading_zero : ℕ
leading_zero = 8

-- a string is open at LF or the end
abbrev pub open_string : ℕ
open_string = 9

-- another byte
abbrev pub other_byte : ℕ
other_byte = 10

-- too few token records
abbrev pub no_room : ℕ
no_room = 11

-- a Date is no day, in edition 2
abbrev pub no_day : ℕ
no_day = 28

abbrev pub source_limit : ℕ
source_limit = 1048576

abbrev pub table_limit : ℕ
table_limit = 65536
