-- `quanta_engine::expr::call` meets its contract: 20, no arguments, or the first.
-- Assumes nothing.
use mathlib.Core.Path.{sym, ◌∙◌}
use Rattle.quanta_token.specs.TokenKind.{code, LParen}
use Rattle.quanta_cursor.proofs.Meeting.{left_of, spent_of}
use Rattle.quanta_engine.proofs.Placed.{turn_fails}
use Rattle.quanta_engine.proofs.Suffixed.{spent_turn, empty_turn, call_turn}
use Rattle.quanta_engine.proofs.expr.call.Goals as goal

pub returns-then-peek-eq-RPAREN : goal.returns-then-peek-eq-RPAREN
returns-then-peek-eq-RPAREN c = λ top.
    empty_turn c.requires.1 (left_of c.in_ok-allowance.was c.enter.ensures) c.requires.2 c.bump-next.ensures
    (sym c.peek.ensures ∙ c.if-peek-eq-RPAREN.true) c.empty_call.ensures

pub returns-in_err-allowance : goal.returns-in_err-allowance
returns-in_err-allowance c = λ top.
    turn_fails c.from_residual.ensures.1
    (spent_turn c.requires.1 (code LParen) c.requires.2 tt (spent_of c.in_err-allowance.was c.enter.ensures))

pub returns : goal.returns
returns c = λ top.
    call_turn c.requires.1 (left_of c.in_ok-allowance.was c.enter.ensures) c.requires.2 c.bump-next.ensures
    (λ z. c.if-peek-eq-RPAREN.false (c.peek.ensures ∙ z)) c.push.ensures
