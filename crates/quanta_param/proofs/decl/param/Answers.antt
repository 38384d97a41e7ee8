-- `quanta_param::decl::param` meets its contract.
-- Assumes nothing.
use Rattle.quanta_grammar.specs.Refine.{text}
use mathlib.Core.Path.{refl}
use Rattle.quanta_cursor.proofs.Places.{ready_small, ready_few}
use Rattle.quanta_type.proofs.Types.{type_took, type_half, type_fails}
use Rattle.quanta_cursor.proofs.Exits.{held}
use Rattle.quanta_param.proofs.Params.{param_nameless, named_ready, param_colonless, param_typeless, half_typed_ready, param_half, typed_ready, param_missigned, param_plain, signed_ready, param_signed}
use Rattle.quanta_param.proofs.decl.param.Goals as goal

pub end_param-requires : goal.end_param-requires
end_param-requires c = (
  ready_few (half_typed_ready (text c.args.edition c.args.src.now) c.args.tokens.now c.args.allowance c.requires
      c.expect_ident.ensures c.in_ok-name.was c.expect.ensures c.in_ok-next.was c.eat-sealed.ensures c.ty.ensures
      (held c.in_ok-ty.was c.in-Half.is)),
  ready_small (named_ready (text c.args.edition c.args.src.now)
      c.args.tokens.now c.args.allowance c.requires c.expect_ident.ensures c.in_ok-name.was),
)

pub signed_by-requires : goal.signed_by-requires
signed_by-requires c =
    typed_ready (text c.args.edition c.args.src.now) c.args.tokens.now c.args.allowance c.requires
    c.expect_ident.ensures c.in_ok-name.was c.expect.ensures c.in_ok-next.was c.eat-sealed.ensures c.ty.ensures
    (held c.in_ok-ty.was c.in-Whole.is)

pub end_param-requires-in-None : goal.end_param-requires-in-None
end_param-requires-in-None c = (
  ready_few (typed_ready (text c.args.edition c.args.src.now) c.args.tokens.now c.args.allowance c.requires
      c.expect_ident.ensures c.in_ok-name.was c.expect.ensures c.in_ok-next.was c.eat-sealed.ensures c.ty.ensures
      (held c.in_ok-ty.was c.in-Whole.is)),
  ready_small (named_ready (text c.args.edition c.args.src.now)
      c.args.tokens.now c.args.allowance c.requires c.expect_ident.ensures c.in_ok-name.was),
)

pub end_param-requires-in-Some : goal.end_param-requires-in-Some
end_param-requires-in-Some c = (
  ready_few (signed_ready (text c.args.edition c.args.src.now) c.args.tokens.now c.args.allowance c.requires
      c.expect_ident.ensures c.in_ok-name.was c.expect.ensures c.in_ok-next.was c.eat-sealed.ensures c.ty.ensures
      (held c.in_ok-ty.was c.in-Whole.is) (c.signed_by.ensures (text c.args.edition c.args.src.now) c.args.allowance)
      (held c.in_ok-signed_by.was c.in-Some.is)),
  ready_small (named_ready (text c.args.edition c.args.src.now)
      c.args.tokens.now c.args.allowance c.requires c.expect_ident.ensures c.in_ok-name.was),
)

pub returns-in_err-name : goal.returns-in_err-name
returns-in_err-name c =
    type_fails c.from_residual.ensures.1 (param_nameless (text c.args.edition c.args.src.now) c.args.tokens.now
    c.args.allowance c.requires c.expect_ident.ensures c.in_err-name.was)

pub returns-in_err-next : goal.returns-in_err-next
returns-in_err-next c =
    type_fails c.from_residual-in_err-next.ensures.1 (param_colonless (text c.args.edition c.args.src.now)
    c.args.tokens.now c.args.allowance c.requires c.expect_ident.ensures c.in_ok-name.was c.expect.ensures
    c.in_err-next.was)

pub returns-in_err-ty : goal.returns-in_err-ty
returns-in_err-ty c =
    type_fails c.from_residual-in_err-ty.ensures.1 (param_typeless (text c.args.edition c.args.src.now)
    c.args.tokens.now c.args.allowance c.requires c.expect_ident.ensures c.in_ok-name.was c.expect.ensures
    c.in_ok-next.was c.eat-sealed.ensures c.ty.ensures c.in_err-ty.was)

pub returns-in-Half : goal.returns-in-Half
returns-in-Half c =
    type_half (param_half (text c.args.edition c.args.src.now) c.args.tokens.now c.args.allowance c.requires
    c.expect_ident.ensures c.in_ok-name.was c.expect.ensures c.in_ok-next.was c.eat-sealed.ensures c.ty.ensures
    (held c.in_ok-ty.was c.in-Half.is) c.end_param.ensures)

pub returns-in_err-signed_by : goal.returns-in_err-signed_by
returns-in_err-signed_by c =
    type_fails c.from_residual-in_err-signed_by.ensures.1 (param_missigned (text c.args.edition c.args.src.now)
    c.args.tokens.now c.args.allowance c.requires c.expect_ident.ensures c.in_ok-name.was c.expect.ensures
    c.in_ok-next.was c.eat-sealed.ensures c.ty.ensures (held c.in_ok-ty.was c.in-Whole.is) (c.signed_by.ensures
    (text c.args.edition c.args.src.now) c.args.allowance) c.in_err-signed_by.was)

pub returns-in-None : goal.returns-in-None
returns-in-None c =
    type_took (param_plain (text c.args.edition c.args.src.now) c.args.tokens.now c.args.allowance c.requires
    c.expect_ident.ensures c.in_ok-name.was c.expect.ensures c.in_ok-next.was c.eat-sealed.ensures c.ty.ensures
    (held c.in_ok-ty.was c.in-Whole.is) (c.signed_by.ensures (text c.args.edition c.args.src.now) c.args.allowance)
    (held c.in_ok-signed_by.was c.in-None.is) c.end_param-in-None.ensures)

pub returns-in-Some : goal.returns-in-Some
returns-in-Some c =
    type_took (param_signed (text c.args.edition c.args.src.now) c.args.tokens.now c.args.allowance c.requires
    c.expect_ident.ensures c.in_ok-name.was c.expect.ensures c.in_ok-next.was c.eat-sealed.ensures c.ty.ensures
    (held c.in_ok-ty.was c.in-Whole.is) (c.signed_by.ensures (text c.args.edition c.args.src.now) c.args.allowance)
    (held c.in_ok-signed_by.was c.in-Some.is) refl c.end_param-in-Some.ensures)
