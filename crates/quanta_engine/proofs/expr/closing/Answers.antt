-- `quanta_engine::expr::closing` meets its contract.
-- Assumes nothing.
use Rattle.quanta_engine.proofs.Placed.{turn_fails}
use Rattle.quanta_engine.proofs.Shut.{close_turn}
use Rattle.quanta_engine.proofs.expr.closing.Goals as goal

pub returns-in_err-node : goal.returns-in_err-node
returns-in_err-node c =
    turn_fails c.from_residual.ensures.1 (close_turn c.requires c.in_err-node.was c.close.ensures)

pub returns : goal.returns
returns c = close_turn c.requires c.in_ok-node.was c.close.ensures
