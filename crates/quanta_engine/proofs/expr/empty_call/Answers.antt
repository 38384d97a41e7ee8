-- `quanta_engine::expr::empty_call` meets its contract: its `)`, or another token.
-- Assumes nothing.
use Rattle.quanta_engine.proofs.Placed.{empties_fails}
use Rattle.quanta_engine.proofs.expr.empty_call.Goals as goal

pub returns-in_err-node : goal.returns-in_err-node
returns-in_err-node c = empties_fails c.from_residual.ensures.1 c.in_err-node.was c.close.ensures
