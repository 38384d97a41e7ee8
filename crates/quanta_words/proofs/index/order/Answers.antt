use mathlib.Core.Path.{refl, sym, ap, ◌∙◌}
use native.Mathlib.Omega.{arith}
use Rattle.quanta_words.specs.Index.{ordering}
use Rattle.quanta_words.proofs.IndexLaws.{order_less, order_above, order_more, order_short, order_first, order_same}
use Rattle.quanta_words.proofs.index.order.Goals as goal

pub loop-i-init : goal.loop-i-init
loop-i-init c = (omega arith, refl)

pub returns-then-b-i : goal.returns-then-b-i
unfolding ordering
returns-then-b-i c = sym (ap ordering (c.loop-i.invariant.1 ∙ order_short _ _ _ c.loop-i-test.true c.if-b-i.true))

pub returns-then-a-i : goal.returns-then-a-i
unfolding ordering
returns-then-a-i c =
    let less = order_less _ _ _ c.loop-i-test.true c.if-b-i.false c.if-a-i.true in
    sym (ap ordering (c.loop-i.invariant.1 ∙ less))

pub returns-then-b-i-2 : goal.returns-then-b-i-2
unfolding ordering
returns-then-b-i-2 c =
    let above = order_above _ _ _ c.loop-i-test.true c.if-b-i.false c.if-a-i.false c.if-b-i-2.true in
    sym (ap ordering (c.loop-i.invariant.1 ∙ above))

pub loop-i-preserved : goal.loop-i-preserved
loop-i-preserved c =
    let step = order_more _ _ _ c.loop-i-test.true c.if-b-i.false c.if-a-i.false c.if-b-i-2.false in
    (omega arith, c.loop-i.invariant.1 ∙ step)

pub returns-then-a-b : goal.returns-then-a-b
unfolding ordering
returns-then-a-b c = sym (ap ordering (c.loop-i.invariant.1 ∙ order_first _ _ _ c.loop-i-test.false (omega arith)))

pub returns-else-a-b : goal.returns-else-a-b
unfolding ordering
returns-else-a-b c = sym (ap ordering (c.loop-i.invariant.1 ∙ order_same _ _ _ c.loop-i-test.false (omega arith)))
