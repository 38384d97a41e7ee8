-- `quanta_engine::expr::shut` meets its contract: each way through it cites one law.
-- Assumes nothing.
use Rattle.quanta_engine.proofs.Placed.{turn_fails}
use Rattle.quanta_engine.proofs.Shut.{whole_turn, parens_turn}
use Rattle.quanta_engine.proofs.expr.shut.Goals as goal

pub returns-in-0 : goal.returns-in-0
returns-in-0 c = whole_turn c.requires c.in-0.is

pub returns-in_err-node-in-1 : goal.returns-in_err-node-in-1
returns-in_err-node-in-1 c =
    turn_fails c.from_residual.ensures.1 (parens_turn c.requires c.in-1.is c.in_err-node-in-1.was c.parens.ensures)

pub returns-in_ok-node-in-1 : goal.returns-in_ok-node-in-1
returns-in_ok-node-in-1 c = parens_turn c.requires c.in-1.is c.in_ok-node-in-1.was c.parens.ensures
