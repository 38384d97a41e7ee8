-- There are no more lines than bytes so far, and no more that differ than lines.
use Rattle.std.proofs.Common.{length, ◌-◌, ◌+◌, ◌≤◌}
use Rattle.readings.proofs.replay.all.Given as goal

abbrev pub invariant-loop-at : goal.invariant-loop-at
invariant-loop-at g l = (l.at ≤ length l.list + 1) × (l.lines ≤ l.at) × (l.differing ≤ l.lines)

abbrev pub decreases-loop-at : goal.decreases-loop-at
decreases-loop-at g l = length l.list - l.at
