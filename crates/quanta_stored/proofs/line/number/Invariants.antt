-- The digits so far make the value.
-- Assumes nothing.
use Rattle.std.proofs.Common.{◌≡◌, Some, fold, take}
use Rattle.quanta_stored.specs.Lines.{grown}
use Rattle.quanta_stored.proofs.line.number.Given as goal

abbrev pub invariant-loop-b : goal.invariant-loop-b
invariant-loop-b l = fold grown (Some 0) (take l.b-index l.part) ≡ Some l.value
