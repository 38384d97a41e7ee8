use mathlib.Core.Path.{sym, ◌∙◌}
use Prim.Native.Nat.{◌-◌}
use lib.ListN.{length, drop, length-drop}
use native.Mathlib.Omega.{arith}
use borrow.Author.Rules.{rules}
use borrow.Author.Tests.{tests}
use Rattle.std.proofs.lemmas.List.{take_all}
use Rattle.std.proofs.lemmas.Iterator.{YieldsList-from_slice}
use Rattle.std.proofs.lemmas.Iterator.Search.{all_from_yields_List}
use Rattle.quanta_token.specs.Bytes.{word_byte}
use Rattle.quanta_words.proofs.WordLaws.{word_empty, word_starts, word_none}
use Rattle.quanta_words.proofs.words.is_word.Goals as goal

pub returns-in-empty : goal.returns-in-empty
returns-in-empty c = sym (word_empty _ c.in-empty.len_below)

pub returns-then-is_word_start : goal.returns-then-is_word_start
returns-then-is_word_start c =
    let w = c.args.word.now in
    let rest = c.iter.ensures.rest ∙ take_all (length w - 1) (drop 1 w) (omega (arith, length-drop 1 w)) in
    all_from_yields_List word_byte _ _ _ c.all.ensures.ran (YieldsList-from_slice (drop 1 w) rest)
    (λ x b q k. search (rules, tests))
    ∙ sym (word_starts w (sym c.is_word_start.ensures ∙ c.if-is_word_start.true))

pub returns-else-is_word_start : goal.returns-else-is_word_start
returns-else-is_word_start c =
    c.if-is_word_start.false ∙ sym (word_none _ (sym c.is_word_start.ensures ∙ c.if-is_word_start.false))
