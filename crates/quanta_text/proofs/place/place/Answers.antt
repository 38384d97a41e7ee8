use Prim.Native.Nat.{◌<◌}
use native.Mathlib.Omega.{arith}
use lib.ListN.{length}
use lib.Seq.{length-take-le, get_or-take}
use Rattle.quanta_text.proofs.PlaceLaws.{counted_none, counts_feed, counts_byte, counted, above}
use Rattle.quanta_text.proofs.place.place.Goals as goal
use Rattle.quanta_text.proofs.place.place.Goals.{then-c-eq10, else-c-eq10}

pub returns-then-src-offset : goal.returns-then-src-offset
returns-then-src-offset c = above _ _ c.if-src-offset.true

pub loop-c-init : goal.loop-c-init
loop-c-init c = counted_none _

pub loop-c-preserved : goal.loop-c-preserved
loop-c-preserved c =
    let s = c.args.src.now in
    let o = c.args.offset in
    let before : c.loop-c.c-index < o = omega (arith, c.loop-c-test.true, length-take-le o s c.if-src-offset.false) in
    let here = get_or-take o s c.loop-c.c-index 0 before in
    let inside : c.loop-c.c-index < length s = omega arith in
    elim c.if-c-eq10.branch [
      | then-c-eq10 w ↦ counts_feed c.loop-c.invariant inside here w.if-c-eq10.true w.feeds-is w.since-is
      | else-c-eq10 w ↦ counts_byte c.loop-c.invariant inside here w.if-c-eq10.false w.feeds-is w.since-is
    ]

pub returns : goal.returns
returns c =
    let long = length-take-le c.args.offset c.args.src.now c.if-src-offset.false in
    counted _ _ _ _ _ c.if-src-offset.false (omega (arith, long)) c.loop-c.invariant
