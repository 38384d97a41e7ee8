-- `quanta_lexer::lexer::read_source` meets its contract: each test in turn decides, or leaves the answer to the rest.
-- Assumes nothing.
use Prim.Native.Nat.{ℕ, ◌≤◌}
use mathlib.Core.List.{List}
use lib.ListN.{length}
use Rattle.std.specs.Prelude.{Err}
use Rattle.quanta_token.specs.declared.edition.Edition.{Edition}
use Rattle.quanta_words.specs.Words.{bad_in}
use Rattle.quanta_lexer.specs.Refusals.{source_limit, table_limit}
use mathlib.Core.Path.{◌≡◌, ap, sym, ◌∙◌}
use native.Mathlib.Omega.{arith}
use borrow.Author.Tests.{lt-ltb, le-ltb}
use Rattle.utf8.specs.Utf8.{first_bad}
use Rattle.quanta_source.specs.Source.{checked}
use Rattle.quanta_lexer.specs.Tokens.{read_of, lex_all}
use Rattle.quanta_lexer.specs.Tokenizing.{reading, or_else, well_or, clean_or}
use Rattle.quanta_lexer.proofs.TokenizingLaws.{bad_place, return_place, barred_place, unwritten, written}
use Rattle.quanta_lexer.proofs.lexer.read_source.Goals as goal

-- the table is well formed, and neither is too long
past-limits :
    (ed : Edition) (s t : List ℕ) (bad : ℕ) →
    length t ≤ table_limit →
    bad ≡ bad_in t →
    length t ≤ bad →
    length s ≤ source_limit →
    reading ed s t ≡ well_or (first_bad s) (clean_or (checked s) (read_of (lex_all ed s t)))
unfolding reading or_else
past-limits ed s t bad h e w l = rw (le-ltb _ _ h, ← e, le-ltb _ _ w, le-ltb _ _ l)

pub returns-then-bad-words : goal.returns-then-bad-words
unfolding reading or_else
returns-then-bad-words c =
    let short : length c.args.words.now ≤ table_limit = omega arith in
    let e = c.refused-then-bad-words.ensures in
    record {
      answer = rw (le-ltb _ _ short, ← c.check_words-bad.ensures, lt-ltb _ _ c.if-bad-words.true) e;
      words = unwritten _ _ _ e;
    }

pub returns-then-src-gt-SOURCE_LIMIT : goal.returns-then-src-gt-SOURCE_LIMIT
unfolding reading or_else
returns-then-src-gt-SOURCE_LIMIT c =
    let short : length c.args.words.now ≤ table_limit = omega arith in
    let e = c.refused-then-src-gt-SOURCE_LIMIT.ensures in
    let well = le-ltb _ _ c.if-bad-words.false in
    record {
      answer = rw (le-ltb _ _ short, ← c.check_words-bad.ensures, well, lt-ltb _ _ c.if-src-gt-SOURCE_LIMIT.true) e;
      words = unwritten _ _ _ e;
    }

pub overflow_add-i : goal.overflow_add-i
overflow_add-i c =
    omega (arith, bad_place c.args.src.now _ (sym c.first_bad.ensures ∙ c.in-Some.is))

pub returns-in-Some : goal.returns-in-Some
unfolding well_or
returns-in-Some c =
    let short : length c.args.words.now ≤ table_limit = omega arith in
    let e = c.refused-in-Some.ensures in
    let late =
    past-limits c.args.edition _ _ _ short c.check_words-bad.ensures c.if-bad-words.false
    c.if-src-gt-SOURCE_LIMIT.false in
    record {
      answer = rw (late, sym c.first_bad.ensures ∙ c.in-Some.is) e;
      words = unwritten _ _ _ e;
    }

pub overflow_add-i-in-Err-CarriageReturn : goal.overflow_add-i-in-Err-CarriageReturn
overflow_add-i-in-Err-CarriageReturn c =
    let at_fault = sym c.check_source.ensures ∙ c.in-Err-CarriageReturn.is ∙ ap Err c.in-Err-CarriageReturn.field-0-is in
    omega (arith, return_place c.args.src.now _ at_fault)

pub overflow_add-i-in-Err-Barred : goal.overflow_add-i-in-Err-Barred
overflow_add-i-in-Err-Barred c =
    let at_fault = sym c.check_source.ensures ∙ c.in-Err-Barred.is ∙ ap Err c.in-Err-Barred.field-0-is in
    omega (arith, barred_place c.args.src.now _ at_fault)

pub returns-in-Err-CarriageReturn : goal.returns-in-Err-CarriageReturn
unfolding well_or clean_or
returns-in-Err-CarriageReturn c =
    let short : length c.args.words.now ≤ table_limit = omega arith in
    let e = rw c.in-Err-CarriageReturn.field-0-is at c.refused-in-Err-CarriageReturn.ensures in
    let well = sym c.first_bad.ensures ∙ c.in_default.is in
    let at_fault = sym c.check_source.ensures ∙ c.in-Err-CarriageReturn.is ∙ ap Err c.in-Err-CarriageReturn.field-0-is in
    let late =
    past-limits c.args.edition _ _ _ short c.check_words-bad.ensures c.if-bad-words.false
    c.if-src-gt-SOURCE_LIMIT.false in
    record { answer = rw (late, well, at_fault) e; words = unwritten _ _ _ e }

pub returns-in-Err-Barred : goal.returns-in-Err-Barred
unfolding well_or clean_or
returns-in-Err-Barred c =
    let short : length c.args.words.now ≤ table_limit = omega arith in
    let e = rw c.in-Err-Barred.field-0-is at c.refused-in-Err-Barred.ensures in
    let well = sym c.first_bad.ensures ∙ c.in_default.is in
    let at_fault = sym c.check_source.ensures ∙ c.in-Err-Barred.is ∙ ap Err c.in-Err-Barred.field-0-is in
    let late =
    past-limits c.args.edition _ _ _ short c.check_words-bad.ensures c.if-bad-words.false
    c.if-src-gt-SOURCE_LIMIT.false in
    record { answer = rw (late, well, at_fault) e; words = unwritten _ _ _ e }

pub returns-in-Ok : goal.returns-in-Ok
unfolding well_or clean_or
returns-in-Ok c =
    let short : length c.args.words.now ≤ table_limit = omega arith in
    let read = c.run_by_size.ensures in
    let well = sym c.first_bad.ensures ∙ c.in_default.is in
    let late =
    past-limits c.args.edition _ _ _ short c.check_words-bad.ensures c.if-bad-words.false
    c.if-src-gt-SOURCE_LIMIT.false in
    record {
      answer = rw (late, well, sym c.check_source.ensures ∙ c.in-Ok.is) read.0;
      words = written _ _ _ _ read.0 read.1;
    }
