-- A number is at most one more than it was.
-- Assumes nothing.
use Rattle.std.proofs.Common.{arith}
use Rattle.engines.proofs.Counts.{one_more}
use Rattle.engines.proofs.report.count.Goals as goal

pub overflow_add-came : goal.overflow_add-came
overflow_add-came c = record { fits = omega (arith, c.requires c.args.number) }

pub returns-then-i-lt32 : goal.returns-then-i-lt32
returns-then-i-lt32 c = one_more c.args.came.now c.args.number
