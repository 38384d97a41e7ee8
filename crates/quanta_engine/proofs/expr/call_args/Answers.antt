-- `quanta_engine::expr::call_args` meets its contract: no argument, a first that is refused, or all behind it.
-- Assumes nothing.
use mathlib.Core.Path.{refl, sym, ◌∙◌}
use native.Mathlib.Omega.{arith}
use Rattle.quanta_grammar.specs.Productions.{expr}
use Rattle.quanta_grammar.specs.Refine.{blank}
use Rattle.quanta_cursor.proofs.Places.{took_ready}
use Rattle.quanta_cursor.proofs.Meeting.{took_all, fails_all, took_of, failed_of}
use Rattle.quanta_cursor.proofs.Lists.{took_more}
use Rattle.quanta_expr.proofs.Arguments.{args_none, args_first, args_first_bad}
use Rattle.quanta_engine.proofs.expr.call_args.Goals as goal

pub more_args-requires : goal.more_args-requires
more_args-requires c =
    let y = took_of c.in_ok-first.was (c.expr.ensures blank) in
    let z = took_more y in
    (took_ready blank expr c.args.allowance c.requires.0 y, c.requires.1, omega arith)

pub returns-then-peek-eq-RPAREN : goal.returns-then-peek-eq-RPAREN
returns-then-peek-eq-RPAREN c = λ src.
    took_all (args_none src c.args.tokens.now c.args.at.0 c.args.allowance c.requires.0.inside
    (sym c.peek.ensures ∙ c.if-peek-eq-RPAREN.true) refl refl)

pub returns-in_err-first : goal.returns-in_err-first
returns-in_err-first c = λ src.
    fails_all c.from_residual.ensures.1
    (args_first_bad src c.args.tokens.now c.args.at.0 c.args.allowance c.requires.0.inside
    (λ z. c.if-peek-eq-RPAREN.false (c.peek.ensures ∙ z)) (failed_of c.in_err-first.was (c.expr.ensures src)))

pub returns : goal.returns
returns c = λ src.
    c.more_args.ensures src _ _ _
    (args_first src c.args.tokens.now c.args.at.0 c.args.allowance c.requires.0.inside
    (λ z. c.if-peek-eq-RPAREN.false (c.peek.ensures ∙ z)) (took_of c.in_ok-first.was (c.expr.ensures src)))
