-- `quanta_param::decl::signed_by` meets its contract.
-- Assumes nothing.
use mathlib.Core.Path.{refl, sym, ◌∙◌}
use Rattle.quanta_param.proofs.Options.{missing, took_opt, fails_opt}
use Rattle.quanta_param.proofs.Params.{signer_missing, signer_byless, signer_nameless, signer_took}
use Rattle.quanta_param.proofs.decl.signed_by.Goals as goal

pub returns-then-peek-ne-SIGNED : goal.returns-then-peek-ne-SIGNED
returns-then-peek-ne-SIGNED c =
    λ src a x. missing (signer_missing src c.args.tokens.now a c.requires x (λ z. c.if-peek-ne-SIGNED.true
    (c.peek.ensures ∙ z))) refl

pub returns-in_err-next : goal.returns-in_err-next
returns-in_err-next c =
    λ src a x. fails_opt c.from_residual.ensures.1 (signer_byless src c.args.tokens.now a c.requires x (sym
    c.peek.ensures ∙ c.if-peek-ne-SIGNED.false) c.bump.ensures c.expect.ensures c.in_err-next.was)

pub returns-in_err-signer : goal.returns-in_err-signer
returns-in_err-signer c =
    λ src a x. fails_opt c.from_residual-in_err-signer.ensures.1 (signer_nameless src c.args.tokens.now a c.requires x
    (sym c.peek.ensures ∙ c.if-peek-ne-SIGNED.false) c.bump.ensures c.expect.ensures c.in_ok-next.was
    c.expect_ident.ensures c.in_err-signer.was)

pub returns : goal.returns
returns c =
    λ src a x. took_opt (signer_took src c.args.tokens.now a c.requires x (sym c.peek.ensures ∙
    c.if-peek-ne-SIGNED.false) c.bump.ensures c.expect.ensures c.in_ok-next.was c.expect_ident.ensures
    c.in_ok-signer.was)
