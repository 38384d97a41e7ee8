-- `quanta_engine::expr::push` meets its contract: 20, or an opening.
-- Assumes nothing.
use Rattle.quanta_cursor.proofs.Meeting.{spent_of}
use Rattle.quanta_engine.proofs.Placed.{opens_fails}
use Rattle.quanta_engine.proofs.expr.push.Goals as goal

pub returns-in_err-allowance : goal.returns-in_err-allowance
returns-in_err-allowance c =
    opens_fails c.from_residual.ensures.1 (spent_of c.in_err-allowance.was c.enter.ensures)
