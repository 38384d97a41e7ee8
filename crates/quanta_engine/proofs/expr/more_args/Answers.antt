use mathlib.Core.Path.{refl, sym, ◌∙◌}
use native.Mathlib.Omega.{arith}
use Rattle.quanta_token.specs.TokenKind.{code, Comma}
use Rattle.quanta_grammar.specs.Productions.{expr}
use Rattle.quanta_grammar.specs.Refine.{blank}
use Rattle.quanta_cursor.proofs.Places.{ready_behind, took_onward, took_ready}
use Rattle.quanta_cursor.proofs.Meeting.{took_all, fails_all, took_of, failed_of}
use Rattle.quanta_cursor.proofs.Lists.{rolling_on, rolled, arguments}
use Rattle.quanta_cursor.proofs.Lists.{comma_on, comma_bad, comma_stop, took_more}
use Rattle.quanta_engine.proofs.expr.more_args.Goals as goal

-- THE ANSWERS: no `,`; an argument that is refused
pub returns-then-peek-ne-COMMA : goal.returns-then-peek-ne-COMMA
returns-then-peek-ne-COMMA c = λ src o t n w.
    let i = c.loop-at.invariant in
    let g = i.carries src o t n _ w in
    let stop = comma_stop g arguments i.ready.inside (λ z. c.if-peek-ne-COMMA.true (c.peek.ensures ∙ z)) in
    took_all (rolled g stop i.ready.inside)

pub returns-in_err-arg : goal.returns-in_err-arg
returns-in_err-arg c = λ src o t n w.
    let comma = sym c.peek.ensures ∙ c.if-peek-ne-COMMA.false in
    let i = c.loop-at.invariant in
    fails_all c.from_residual.ensures.1
    (comma_bad (i.carries src o t n _ w) arguments i.ready.inside comma c.bump.ensures
    (failed_of c.in_err-arg.was (c.expr.ensures src)))

-- ONE ARGUMENT MORE
pub loop-at-smaller : goal.loop-at-smaller
loop-at-smaller c =
    let comma = sym c.peek.ensures ∙ c.if-peek-ne-COMMA.false in
    let further = ready_behind (code Comma) (λ u. u) c.loop-at.invariant.ready comma c.bump.ensures in
    let z = took_of c.in_ok-arg.was (c.expr.ensures blank) in
    let y = took_onward blank expr c.args.allowance further.inside z in
    omega (arith, y.0, c.bump.ensures, c.loop-at.invariant.ready.inside)

pub loop-at-preserved : goal.loop-at-preserved
loop-at-preserved c =
    let comma = sym c.peek.ensures ∙ c.if-peek-ne-COMMA.false in
    let further = ready_behind (code Comma) (λ u. u) c.loop-at.invariant.ready comma c.bump.ensures in
    let i = c.loop-at.invariant in
    let y = took_of c.in_ok-arg.was (c.expr.ensures blank) in
    rolling_on i
    (λ src o t n z g. comma_on g arguments i.ready.inside comma c.bump.ensures
    (took_of c.in_ok-arg.was (c.expr.ensures src)) refl)
    (took_ready blank expr c.args.allowance further y) refl (took_more y) c.expr.auto.tree
