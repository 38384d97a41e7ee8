use Prim.Native.Nat.{suc}
use mathlib.Core.Path.{refl, sym, ap, ◌∙◌}
use lib.ListN.{length}
use native.Mathlib.Omega.{arith}
use Rattle.quanta_words.specs.Index.{order_at, ordering, probe_of}
use Rattle.quanta_words.proofs.IndexLaws.{ordering_less, ordering_equal, ordering_greater}
use Rattle.quanta_words.proofs.IndexLaws.{met, probe_past, probe_hit, probe_left, probe_right}
use Rattle.quanta_words.proofs.index.probe.Goals as goal

pub loop-lo-init : goal.loop-lo-init
unfolding probe_of
loop-lo-init c = (omega arith, omega arith, (suc (length c.args.index.now), omega arith, refl))

pub returns-in-Equal : goal.returns-in-Equal
returns-in-Equal c =
    let a = c.args in
    let inv = c.loop-lo.invariant.2 in
    let e = c.order_at.ensures ∙ ap (λ x. ordering (order_at a.table.now x a.word.now)) c.from.ensures in
    sym (inv.2 ∙ probe_hit _ _ _ _ _ c.loop-lo-test.true inv.0 inv.1 (ordering_equal _ (sym e ∙ c.in-Equal.is)))

pub loop-lo-preserved-in-Less : goal.loop-lo-preserved-in-Less
loop-lo-preserved-in-Less c =
    let a = c.args in
    let inv = c.loop-lo.invariant.2 in
    let e = c.order_at.ensures ∙ ap (λ x. ordering (order_at a.table.now x a.word.now)) c.from.ensures in
    let next = probe_left _ _ _ _ _ c.loop-lo-test.true inv.0 inv.1 (ordering_less _ (sym e ∙ c.in-Less.is)) in
    (omega arith, omega (arith, c.loop-lo.invariant.1), (next.0, next.1, inv.2 ∙ next.2))

pub loop-lo-preserved : goal.loop-lo-preserved
loop-lo-preserved c =
    let a = c.args in
    let inv = c.loop-lo.invariant.2 in
    let e = c.order_at.ensures ∙ ap (λ x. ordering (order_at a.table.now x a.word.now)) c.from.ensures in
    let l = c.loop-lo in
    let k = ordering_greater (met a.table.now a.index.now a.word.now l.lo l.hi) (sym e ∙ c.in-Greater.is) in
    let right = probe_right a.table.now a.index.now a.word.now l.lo l.hi c.loop-lo-test.true inv.0 inv.1 in
    let next = right (λ x. omega (arith, k, x)) (λ x. omega (arith, k, x)) in
    (omega arith, c.loop-lo.invariant.1, (next.0, next.1, inv.2 ∙ next.2))

pub returns : goal.returns
returns c =
    let inv = c.loop-lo.invariant.2 in
    sym (inv.2 ∙ probe_past _ _ _ inv.0 _ _ c.loop-lo-test.false)
