-- `quanta_engine::expr::wrap` meets its contract: a keyword, and its `(` or another token.
-- Assumes nothing.
use Rattle.quanta_cursor.proofs.Meeting.{next_of, lacks_of}
use Rattle.quanta_engine.proofs.Placed.{turn_fails}
use Rattle.quanta_engine.proofs.Begun.{unwrapped_turn, wrap_turn}
use Rattle.quanta_engine.proofs.expr.wrap.Goals as goal

pub returns-in_err-inside : goal.returns-in_err-inside
returns-in_err-inside c = λ words.
    turn_fails c.from_residual.ensures.1
    (unwrapped_turn c.requires.1 c.requires.2 c.bump.ensures (lacks_of c.in_err-inside.was c.expect.ensures))

pub returns : goal.returns
returns c = λ words.
    wrap_turn c.requires.1 c.requires.2 c.bump.ensures (next_of c.in_ok-inside.was c.expect.ensures)
    c.enclose.ensures
