-- So far the buffer is filled.
-- Assumes nothing.
use Rattle.quanta_stored.specs.Lines.{Filled}
use Rattle.quanta_stored.proofs.line.fill.Given as goal

abbrev pub invariant-loop-k : goal.invariant-loop-k
invariant-loop-k l = Filled l.part l.k l.out
