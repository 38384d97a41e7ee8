use mathlib.Core.Path.{ap, ◌∙◌}
use Rattle.quanta_words.specs.Index.{ordering}
use Rattle.quanta_words.proofs.IndexLaws.{order_in, order_out}
use Rattle.quanta_words.proofs.index.order_at.Goals as goal

pub returns-in-Some : goal.returns-in-Some
returns-in-Some c = c.order.ensures ∙ ap ordering (order_in _ _ _ _ c.in-Some.ensures)

pub returns-in-None : goal.returns-in-None
unfolding ordering
returns-in-None c = ap ordering (order_out _ _ _ c.in-None.ensures)
