-- The whole reading of bytes into tokens: the refusals 1 to 11 and 28 in order of test, and every word of the token
-- buffer.
use Rattle.std.specs.Prelude.{ℕ, ◌+◌, ◌-◌, ◌*◌, ◌/◌, Bool, true, false, List, ◌++◌, ◌≡◌, length, replicate, ltb}
use Rattle.std.specs.Prelude.{Option, Some, None, Result, Ok, Err}
use Rattle.quanta_token.specs.declared.edition.Edition.{Edition}
use Rattle.utf8.specs.Utf8.{first_bad}
use Rattle.quanta_source.specs.Source.{checked}
use Rattle.quanta_source.specs.declared.source.Fault.{Fault}
use Rattle.quanta_source.specs.declared.source.Fault.TheVariants.{CarriageReturn, Barred}
use Rattle.quanta_words.specs.Words.{bad_in}
use Rattle.quanta_lexer.specs.Refusals.{refusal, bad_table, long_source, not_utf8, bare_return, barred_character}
use Rattle.quanta_lexer.specs.Refusals.{source_limit, table_limit}
use Rattle.quanta_lexer.specs.Tokens.{Tok, Read, records, put, read_of, lex_all}
use Rattle.quanta_lexer.specs.declared.refusal.Failure.{Failure}
use Rattle.quanta_lexer.specs.declared.refusal.Failure.TheVariants.{Refused, Short}

-- the first if the test holds, else the second
unfoldable pub or_else : Bool → Read → Read → Read
or_else true a b = a
or_else false a b = b

-- 3 at the first offset where no well-formed sequence starts, or what comes after
unfoldable pub well_or : Option ℕ → Read → Read
well_or (Some i) later = Err (refusal not_utf8 i (i + 1))
well_or None later = later

-- 4 and 5 at the first byte at fault, or what comes after
unfoldable pub clean_or : Result Unit Fault → Read → Read
clean_or (Err (CarriageReturn i)) later = Err (refusal bare_return i (i + 1))
clean_or (Err (Barred i)) later = Err (refusal barred_character i (i + 1))
clean_or (Ok u) later = later

-- the refusals 1 to 10 and 28 in order of test, or the number of tokens
unfoldable pub reading : Edition → List ℕ → List ℕ → Read
reading ed s t =
    or_else (ltb table_limit (length t)) (Err (refusal bad_table table_limit table_limit))
    (or_else (ltb (bad_in t) (length t)) (Err (refusal bad_table (bad_in t) (bad_in t)))
    (or_else (ltb source_limit (length s)) (Err (refusal long_source source_limit source_limit))
    (well_or (first_bad s)
    (clean_or (checked s)
    (read_of (lex_all ed s t))))))

-- the number of tokens, a refusal 1 to 10 or 28, or 11 with the need
abbrev pub Answer : Type 0
Answer = Result ℕ Failure

-- 11 with the need if there are more tokens than room
abbrev pub room_for : Bool → ℕ → Answer
room_for true n = Err (Short n)
room_for false n = Ok n

-- room is the buffer's length divided by 3, rounded down
abbrev pub in_room : ℕ → Read → Answer
in_room words (Ok n) = room_for (ltb (words / 3) n) n
in_room words (Err r) = Err (Refused r)

-- the answer on a source s, a word table t and a token buffer of so many words
unfoldable pub tokenizing : Edition → List ℕ → List ℕ → ℕ → Answer
tokenizing ed s t words = in_room words (reading ed s t)

-- accepted: records at the front, zeros behind; after a refusal all zero
abbrev pub filled : List Tok → ℕ → Answer → List ℕ
filled ts words (Ok n) = records ts ++ replicate (words - 3 * n) 0
filled ts words (Err (Refused r)) = replicate words 0
filled ts words (Err (Short n)) = replicate words 0

-- every word of the token buffer
unfoldable pub token_words : Edition → List ℕ → List ℕ → ℕ → List ℕ
token_words ed s t words = filled (lex_all ed s t).toks words (tokenizing ed s t words)

-- what a reading leaves in the buffer where it counts tokens: their records, as far as there is room
abbrev pub Written : List Tok → List ℕ → List ℕ → Read → Type 0
Written ts before after (Ok n) = (n ≡ length ts) × (after ≡ put ts before)
Written ts before after (Err r) = Unit
