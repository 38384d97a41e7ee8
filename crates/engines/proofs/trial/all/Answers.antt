-- Nothing came yet.
-- Assumes nothing.
use Rattle.std.proofs.Common.{arith}
use Rattle.engines.proofs.Counts.{none}
use Rattle.engines.proofs.trial.all.Goals as goal

pub loop-round-init : goal.loop-round-init
loop-round-init c = (λ k. omega (arith, none 32 k), omega arith)
