-- `quanta_engine::expr::expr` meets its contract: 20, or what `run` reads with 1 less.
-- Assumes nothing.
use Rattle.quanta_cursor.proofs.Meeting.{fails, left_of, spent_of}
use Rattle.quanta_expr.proofs.Phrases.{expr_deep, expr_in}
use Rattle.quanta_engine.proofs.expr.expr.Goals as goal

pub returns-in_err-less : goal.returns-in_err-less
returns-in_err-less c = λ src.
    let z = spent_of c.in_err-less.was c.enter.ensures in
    fails c.from_residual.ensures.1 (expr_deep src c.args.tokens.now c.args.at.0 c.args.allowance c.requires.0.inside z)

pub returns : goal.returns
returns c = λ src.
    let z = left_of c.in_ok-less.was c.enter.ensures in
    expr_in src c.args.tokens.now c.args.at.0 c.args.allowance c.requires.0.inside z (c.run.ensures src)
