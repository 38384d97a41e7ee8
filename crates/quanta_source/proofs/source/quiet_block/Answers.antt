use Prim.Native.Nat.{◌+◌}
use native.Mathlib.Omega.{arith}
use Rattle.quanta_source.proofs.Laws.{quiet_fine, fine_next, fine_none}
use Rattle.quanta_source.proofs.source.quiet_block.Goals as goal

pub loop-k-init : goal.loop-k-init
loop-k-init c h = fine_none _ _ _ (omega arith)

pub loop-k-preserved : goal.loop-k-preserved
loop-k-preserved c =
    let src = c.args.src.now in
    fine_next src _ _ _ _ c.loop-k.invariant
    (λ h. quiet_fine src (c.args.at + c.loop-k.k) (rw (c.is_bare.ensures, c.is_lead.ensures) at h))
