-- The rows of both tables hold: claims that are proved by computation.
-- Assumes nothing.
use mathlib.Core.Path.{◌≡◌, refl}
use Rattle.utf8.specs.Utf8.{fits, form_len, bad_from}
use Rattle.quanta_token.specs.Keywords.{word_kind}
use Rattle.quanta_token.specs.Runs.{run, run_end}
use Rattle.quanta_token.specs.Symbols.{pair_kind, single_kind}
use Rattle.quanta_token.specs.Text.{same, kind_if}
use Rattle.quanta_source.specs.Source.{encode, begins, stands_at, any, barred_at, bare_at, check_from, checked}
use Rattle.quanta_words.specs.Words as Words
use Rattle.quanta_lexer.specs.Days.{leap_year, month_days, day_at}
use Rattle.quanta_lexer.specs.Scan.{choose, word_at, date_at, number_at, string_at, symbol_at, token_at}
use Rattle.quanta_lexer.specs.Tokens.{lex_from, lex_all, read_of}
use Rattle.quanta_lexer.specs.Tokenizing.{or_else, well_or, clean_or, reading as reading_of, tokenizing, token_words}
use Rattle.quanta_lexer.specs.Trivia.{trivia, trivia_end}
use Rattle.grammar.specs.Grammar.{yields}
use Rattle.grammar.specs.Records.{nodes, walk}
use Rattle.grammar.specs.Records as Records
use Rattle.grammar.specs.Reader.{read, deep}
use Rattle.quanta_grammar.specs.Refine.{answer}
use Rattle.quanta_reading.specs.Reading.{answering, reading}
use Rattle.quanta_reading.specs.Rows.{rows, rows2, refusals2, said, seen, said_of, seen_of}

pub all_hold : seen rows ≡ said rows
unfolding reading answering token_words tokenizing reading_of or_else well_or clean_or read_of bad_from form_len fits checked check_from bare_at barred_at any stands_at begins encode lex_all lex_from trivia_end trivia token_at choose word_at number_at date_at string_at symbol_at run_end run Words.bad_in Words.bad_from Words.held_in Words.words_in Words.words_from Words.among word_kind kind_if same pair_kind single_kind answer read deep yields nodes walk Records.records day_at month_days leap_year
all_hold = refl

pub all_hold2 : seen rows2 ≡ said rows2
unfolding reading answering token_words tokenizing reading_of or_else well_or clean_or read_of bad_from form_len fits checked check_from bare_at barred_at any stands_at begins encode lex_all lex_from trivia_end trivia token_at choose word_at number_at date_at string_at symbol_at run_end run Words.bad_in Words.bad_from Words.held_in Words.words_in Words.words_from Words.among word_kind kind_if same pair_kind single_kind answer read deep yields nodes walk Records.records day_at month_days leap_year
all_hold2 = refl

pub refusals_hold2 : seen_of refusals2 ≡ said_of refusals2
unfolding reading answering token_words tokenizing reading_of or_else well_or clean_or read_of bad_from form_len fits checked check_from bare_at barred_at any stands_at begins encode lex_all lex_from trivia_end trivia token_at choose word_at number_at date_at string_at symbol_at run_end run Words.bad_in Words.bad_from Words.held_in Words.words_in Words.words_from Words.among word_kind kind_if same pair_kind single_kind answer read deep yields nodes walk Records.records day_at month_days leap_year
refusals_hold2 = refl
