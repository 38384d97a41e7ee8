use mathlib.Core.Path.{◌∙◌}
use Rattle.quanta_words.proofs.WordLaws.{record_short, record_whole}
use Rattle.quanta_words.proofs.words.record_at.Goals as goal

pub returns-in_err-word : goal.returns-in_err-word
returns-in_err-word c = rw c.from_residual.ensures (record_short _ _ c.in_err-word.ensures)

pub returns-then-table-i : goal.returns-then-table-i
returns-then-table-i c =
    let here = c.in_ok-word.ensures in
    (record_whole _ _ _ here ∙ rw (← c.is_word.ensures) c.if-table-i.true, here)

pub returns : goal.returns
returns c = record_whole _ _ _ c.in_ok-word.ensures ∙ rw (← c.is_word.ensures) c.if-table-i.false
