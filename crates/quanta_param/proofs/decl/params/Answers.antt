use mathlib.Core.Path.{refl, sym, ◌∙◌}
use native.Mathlib.Omega.{arith}
use Rattle.grammar.specs.Records.{fresh}
use Rattle.quanta_grammar.specs.Refine.{text}
use Rattle.quanta_cursor.proofs.Lists.{parameters}
use Rattle.quanta_type.proofs.Arguments.{begun, no_element, half_element, element}
use Rattle.quanta_type.proofs.Arguments.{list_over, next_awaits, next_further}
use Rattle.quanta_cursor.proofs.Exits.{handed, held}
use Rattle.quanta_param.proofs.Params.{params_none, params_some}
use Rattle.quanta_param.proofs.decl.params.Goals as goal

pub returns-then-peek-eq-RPAREN : goal.returns-then-peek-eq-RPAREN
returns-then-peek-eq-RPAREN c =
    params_none (text c.args.edition c.args.src.now) c.args.tokens.now c.args.allowance c.requires
    (sym c.peek.ensures ∙ c.if-peek-eq-RPAREN.true) refl refl refl

pub loop-param-init : goal.loop-param-init
loop-param-init c =
    begun parameters c.args.allowance c.args.tree.now c.requires

pub returns-in_err-param : goal.returns-in_err-param
returns-in_err-param c =
    params_some (text c.args.edition c.args.src.now) c.args.tokens.now c.args.allowance c.requires
    (λ z. c.if-peek-eq-RPAREN.false (c.peek.ensures ∙ z))
    (no_element c.loop-param.invariant c.param.ensures c.in_err-param.was (handed c.from_residual.ensures.1) fresh)

pub returns-in-Half : goal.returns-in-Half
returns-in-Half c =
    params_some (text c.args.edition c.args.src.now) c.args.tokens.now c.args.allowance c.requires
    (λ z. c.if-peek-eq-RPAREN.false (c.peek.ensures ∙ z))
    (half_element c.loop-param.invariant c.param.ensures (held c.in_ok-param.was c.in-Half.is) fresh)

pub returns-then-peek-ne-COMMA : goal.returns-then-peek-ne-COMMA
returns-then-peek-ne-COMMA c =
    params_some (text c.args.edition c.args.src.now) c.args.tokens.now c.args.allowance c.requires
    (λ z. c.if-peek-eq-RPAREN.false (c.peek.ensures ∙ z))
    (list_over (element c.loop-param.invariant c.param.ensures (held c.in_ok-param.was c.in-Whole.is)
    c.param.auto.tree) parameters c.peek-in-Whole.ensures c.if-peek-ne-COMMA.true fresh)

pub loop-param-smaller : goal.loop-param-smaller
loop-param-smaller c =
    let e = element c.loop-param.invariant c.param.ensures (held c.in_ok-param.was c.in-Whole.is) c.param.auto.tree in
    let z = next_further e parameters c.peek-in-Whole.ensures c.if-peek-ne-COMMA.false c.bump-at.ensures in
    omega (arith, e.awaited.ready.inside)

pub loop-param-preserved : goal.loop-param-preserved
loop-param-preserved c =
    next_awaits (element c.loop-param.invariant c.param.ensures (held c.in_ok-param.was c.in-Whole.is)
    c.param.auto.tree) parameters c.peek-in-Whole.ensures c.if-peek-ne-COMMA.false c.bump-at.ensures
