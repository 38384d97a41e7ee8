use mathlib.Core.Path.{sym, ◌∙◌}
use Rattle.quanta_lexer.specs.Days.{month_days}
use Rattle.quanta_lexer.proofs.day.month_days.Goals as goal

pub returns-then-is_leap : goal.returns-then-is_leap
unfolding month_days
returns-then-is_leap c = rw (c.in-2.is, sym c.is_leap.ensures ∙ c.if-is_leap.true)

pub returns-else-is_leap : goal.returns-else-is_leap
unfolding month_days
returns-else-is_leap c = rw (c.in-2.is, sym c.is_leap.ensures ∙ c.if-is_leap.false)
