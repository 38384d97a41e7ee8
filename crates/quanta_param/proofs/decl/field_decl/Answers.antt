-- `quanta_param::decl::field_decl` meets its contract.
-- Assumes nothing.
use Rattle.quanta_grammar.specs.Refine.{text}
use mathlib.Core.Path.{refl}
use Rattle.quanta_cursor.proofs.Meeting.{failed, fails}
use Rattle.quanta_cursor.proofs.Exits.{held}
use Rattle.quanta_param.proofs.Fields.{field_nameless, named_ready, field_colonless, field_typeless, field_halved, typed_ready, field_defaultless, field_plain, default_ready, field_valued}
use Rattle.quanta_param.proofs.decl.field_decl.Goals as goal

pub default-requires : goal.default-requires
default-requires c =
    typed_ready (text c.args.edition c.args.src.now) c.args.tokens.now c.args.allowance c.requires c.eat-meta.ensures
    c.args.tree.now c.expect_ident.ensures c.in_ok-name.was c.expect.ensures c.in_ok-next.was c.ty.ensures (held
    c.in_ok-ty.was c.in-Whole.is)

pub close_field-requires : goal.close_field-requires
close_field-requires c = (
  typed_ready (text c.args.edition c.args.src.now) c.args.tokens.now c.args.allowance c.requires c.eat-meta.ensures
      c.args.tree.now c.expect_ident.ensures c.in_ok-name.was c.expect.ensures c.in_ok-next.was c.ty.ensures (held
      c.in_ok-ty.was c.in-Whole.is),
  c.requires.inside,
  (named_ready (text c.args.edition c.args.src.now)
      c.args.tokens.now c.args.allowance c.requires c.eat-meta.ensures c.args.tree.now c.expect_ident.ensures
      c.in_ok-name.was).inside,
)

pub close_field-requires-in-Some : goal.close_field-requires-in-Some
close_field-requires-in-Some c = (
  default_ready (text c.args.edition c.args.src.now) c.args.tokens.now c.args.allowance c.requires
      c.eat-meta.ensures c.args.tree.now c.expect_ident.ensures c.in_ok-name.was c.expect.ensures c.in_ok-next.was
      c.ty.ensures (held c.in_ok-ty.was c.in-Whole.is) (c.default.ensures (text c.args.edition c.args.src.now)) (held
      c.in_ok-default.was c.in-Some.is),
  c.requires.inside,
  (named_ready (text c.args.edition c.args.src.now)
      c.args.tokens.now c.args.allowance c.requires c.eat-meta.ensures c.args.tree.now c.expect_ident.ensures
      c.in_ok-name.was).inside,
)

pub returns-in_err-name : goal.returns-in_err-name
returns-in_err-name c =
    fails c.from_residual.ensures.1 (field_nameless (text c.args.edition c.args.src.now) c.args.tokens.now
    c.args.allowance c.requires c.eat-meta.ensures c.args.tree.now c.expect_ident.ensures c.in_err-name.was)

pub returns-in_err-next : goal.returns-in_err-next
returns-in_err-next c =
    fails c.from_residual-in_err-next.ensures.1 (field_colonless (text c.args.edition c.args.src.now)
    c.args.tokens.now c.args.allowance c.requires c.eat-meta.ensures c.args.tree.now c.expect_ident.ensures
    c.in_ok-name.was c.expect.ensures c.in_err-next.was)

pub returns-in_err-ty : goal.returns-in_err-ty
returns-in_err-ty c =
    fails c.from_residual-in_err-ty.ensures.1 (field_typeless (text c.args.edition c.args.src.now) c.args.tokens.now
    c.args.allowance c.requires c.eat-meta.ensures c.args.tree.now c.expect_ident.ensures c.in_ok-name.was
    c.expect.ensures c.in_ok-next.was c.ty.ensures c.in_err-ty.was)

pub returns-in-Half : goal.returns-in-Half
returns-in-Half c =
    failed (field_halved (text c.args.edition c.args.src.now) c.args.tokens.now c.args.allowance c.requires
    c.eat-meta.ensures c.args.tree.now c.expect_ident.ensures c.in_ok-name.was c.expect.ensures c.in_ok-next.was
    c.ty.ensures (held c.in_ok-ty.was c.in-Half.is) c.err_half.ensures)

pub returns-in_err-default : goal.returns-in_err-default
returns-in_err-default c =
    fails c.from_residual-in_err-default.ensures.1 (field_defaultless (text c.args.edition c.args.src.now)
    c.args.tokens.now c.args.allowance c.requires c.eat-meta.ensures c.args.tree.now c.expect_ident.ensures
    c.in_ok-name.was c.expect.ensures c.in_ok-next.was c.ty.ensures (held c.in_ok-ty.was c.in-Whole.is)
    (c.default.ensures (text c.args.edition c.args.src.now)) c.in_err-default.was)

pub returns-in-None : goal.returns-in-None
returns-in-None c =
    field_plain (text c.args.edition c.args.src.now) c.args.tokens.now c.args.allowance c.requires c.eat-meta.ensures
    c.args.tree.now c.expect_ident.ensures c.in_ok-name.was c.expect.ensures c.in_ok-next.was c.ty.ensures (held
    c.in_ok-ty.was c.in-Whole.is) (c.default.ensures (text c.args.edition c.args.src.now)) (held c.in_ok-default.was
    c.in-None.is) c.close_field.ensures

pub returns-in-Some : goal.returns-in-Some
returns-in-Some c =
    field_valued (text c.args.edition c.args.src.now) c.args.tokens.now c.args.allowance c.requires c.eat-meta.ensures
    c.args.tree.now c.expect_ident.ensures c.in_ok-name.was c.expect.ensures c.in_ok-next.was c.ty.ensures (held
    c.in_ok-ty.was c.in-Whole.is) (c.default.ensures (text c.args.edition c.args.src.now)) (held c.in_ok-default.was
    c.in-Some.is) refl c.close_field-in-Some.ensures
