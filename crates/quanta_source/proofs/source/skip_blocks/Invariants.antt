use lib.ListN.{length}
use Prim.Native.Nat.{◌≤◌, ◌-◌}
use Rattle.quanta_source.specs.Tests.{FineIn}
use Rattle.quanta_source.proofs.source.skip_blocks.Given as goal

abbrev pub invariant-loop-at : goal.invariant-loop-at
invariant-loop-at l = record { within : l.at ≤ length l.src; fine : FineIn l.src 0 l.at }

abbrev pub decreases-loop-at : goal.decreases-loop-at
decreases-loop-at l = length l.src - l.at
