-- The tokens before i have kinds below Eof.
-- Assumes nothing.
use Rattle.engines.proofs.Closing.{Before}
use Rattle.engines.proofs.closed.is_closed.Given as goal

abbrev pub invariant-loop-i : goal.invariant-loop-i
invariant-loop-i l = Before l.tokens l.i
