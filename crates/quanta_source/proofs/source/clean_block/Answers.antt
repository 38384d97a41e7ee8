use Prim.Native.Nat.{◌+◌}
use native.Mathlib.Omega.{arith}
use Rattle.quanta_source.proofs.Laws.{tests_fine, fine_next, fine_none}
use Rattle.quanta_source.proofs.source.clean_block.Goals as goal

pub loop-k-init : goal.loop-k-init
loop-k-init c h = fine_none _ _ _ (omega arith)

pub loop-k-preserved : goal.loop-k-preserved
loop-k-preserved c =
    let src = c.args.src.now in
    fine_next src _ _ _ _ c.loop-k.invariant
    (λ h. tests_fine src (c.args.at + c.loop-k.k) (rw (c.is_bare.ensures, c.is_barred.ensures, c.is_mark.ensures) at h))
