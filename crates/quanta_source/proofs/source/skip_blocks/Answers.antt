use native.Mathlib.Omega.{arith}
use Prim.Native.Nat.{◌+◌}
use Rattle.quanta_source.proofs.Laws.{fine_join}
use Rattle.quanta_source.proofs.source.skip_blocks.Goals as goal

pub loop-at-preserved : goal.loop-at-preserved
loop-at-preserved c =
    let loop = c.loop-at in
    let next = c.passes.ensures c.if-not-passes.false in
    record {
      within = omega arith;
      fine = fine_join c.args.src.now 0 loop.at (loop.at + 32) loop.invariant.fine next;
    }
