-- `quanta_engine::expr::dot` meets its contract: 20, no name, or a name.
-- Assumes nothing.
use Rattle.quanta_token.specs.TokenKind.{code, Dot}
use Rattle.quanta_cursor.proofs.Meeting.{left_of, spent_of}
use Rattle.quanta_engine.proofs.Placed.{turn_fails}
use Rattle.quanta_engine.proofs.Suffixed.{spent_turn, dot_turn}
use Rattle.quanta_engine.proofs.expr.dot.Goals as goal

pub returns-in_err-depth : goal.returns-in_err-depth
returns-in_err-depth c = λ top.
    turn_fails c.from_residual.ensures.1
    (spent_turn c.requires.1 (code Dot) c.requires.2 tt (spent_of c.in_err-depth.was c.enter.ensures))

pub returns-in_err-node : goal.returns-in_err-node
returns-in_err-node c = λ top.
    turn_fails c.from_residual-in_err-node.ensures.1
    (dot_turn c.requires.1 (left_of c.in_ok-depth.was c.enter.ensures) c.requires.2 c.in_err-node.was
    c.access.ensures)

pub returns : goal.returns
returns c = λ top.
    dot_turn c.requires.1 (left_of c.in_ok-depth.was c.enter.ensures) c.requires.2 c.in_ok-node.was c.access.ensures
