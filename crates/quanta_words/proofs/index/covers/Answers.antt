use Prim.Native.Nat.{suc}
use mathlib.Core.Path.{sym, ap, ◌∙◌}
use mathlib.Core.Bool.{false≢true}
use lib.ListN.{length}
use native.Mathlib.Omega.{arith}
use Rattle.quanta_words.specs.Index.{probe_of}
use Rattle.quanta_words.proofs.WordLaws.{held_all, held_stop}
use Rattle.quanta_words.proofs.IndexLaws.{past_more}
use Rattle.quanta_words.proofs.index.covers.Goals as goal

pub loop-word-init : goal.loop-word-init
loop-word-init c = (omega arith, (suc (length c.args.table.now), omega arith, λ w z. held_all _ _))

pub returns-then-not-probe : goal.returns-then-not-probe
returns-then-not-probe c h = absurd (false≢true h)

pub loop-word-preserved : goal.loop-word-preserved
loop-word-preserved c =
    let t = c.args.table.now in
    let f = c.args.index.now in
    let inv = c.loop-word.invariant in
    let here = c.in-Some.ensures in
    let there = ap (probe_of t f) (sym here.is) ∙ sym c.probe.ensures ∙ c.if-not-probe.false in
    let next = past_more inv.1.0 t f c.loop-word.i inv.1.1 inv.0 here.inside there inv.1.2 in
    rw here.next (here.inside, (next.0, next.1, next.2))

pub returns : goal.returns
returns c h w z = let inv = c.loop-word.invariant.1 in inv.2 w z ∙ held_stop inv.0 _ _ w c.in_default.ensures
