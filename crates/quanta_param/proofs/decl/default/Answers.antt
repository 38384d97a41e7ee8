-- `quanta_param::decl::default` meets its contract.
-- Assumes nothing.
use mathlib.Core.Path.{refl, sym, ◌∙◌}
use Rattle.quanta_cursor.proofs.Meeting.{took_of, failed_of}
use Rattle.quanta_param.proofs.Options.{missing, took_opt, fails_opt}
use Rattle.quanta_param.proofs.Fields.{default_missing, default_bad, default_took}
use Rattle.quanta_param.proofs.decl.default.Goals as goal

pub returns-then-peek-ne-EQ : goal.returns-then-peek-ne-EQ
returns-then-peek-ne-EQ c =
    λ src x. missing (default_missing src c.args.tokens.now c.args.allowance c.requires x (λ z. c.if-peek-ne-EQ.true
    (c.peek.ensures ∙ z))) refl

pub returns-in_err-value : goal.returns-in_err-value
returns-in_err-value c =
    λ src x. fails_opt c.from_residual.ensures.1 (default_bad src c.args.tokens.now c.args.allowance c.requires x (sym
    c.peek.ensures ∙ c.if-peek-ne-EQ.false) c.bump.ensures (failed_of c.in_err-value.was (c.expr.ensures src)))

pub returns : goal.returns
returns c =
    λ src x. took_opt (default_took src c.args.tokens.now c.args.allowance c.requires x (sym c.peek.ensures ∙
    c.if-peek-ne-EQ.false) c.bump.ensures (took_of c.in_ok-value.was (c.expr.ensures src)))
