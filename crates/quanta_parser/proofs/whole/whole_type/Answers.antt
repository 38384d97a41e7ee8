-- `quanta_parser::whole::whole_type` meets its contract.
-- Assumes nothing.
use mathlib.Core.Path.{refl}
use Rattle.quanta_grammar.specs.Refine.{text}
use Rattle.quanta_cursor.proofs.Exits.{held}
use Rattle.quanta_cursor.proofs.Meeting.{took, failed}
use Rattle.quanta_type.proofs.Types.{typed_of, half_of, untyped_of}
use Rattle.quanta_parser.proofs.Wholes.{type_call_lem, fails_whole, whole_bad, whole_ends, type_halved}
use Rattle.quanta_parser.proofs.whole.whole_type.Goals as goal

pub ty-requires : goal.ty-requires
ty-requires c = c.requires

pub returns-in_err-ty : goal.returns-in_err-ty
returns-in_err-ty c =
    fails_whole c.from_residual.ensures.1
    (whole_bad type_call_lem (text c.args.edition c.args.src.now) {t = c.args.tree.now} c.requires {t' =
    c.args.tree.now}
    (failed (untyped_of c.in_err-ty.was c.ty.ensures)) refl)

-- the first closer of a `>>` closed it
pub err_half-requires : goal.err_half-requires
err_half-requires c = (half_of (held c.in_ok-ty.was c.in-Half.is) c.ty.ensures).inside

pub returns-in-Half : goal.returns-in-Half
returns-in-Half c =
    type_halved (text c.args.edition c.args.src.now) c.requires (half_of (held c.in_ok-ty.was c.in-Half.is)
    c.ty.ensures)
    c.err_half.ensures

pub to_the_end-requires : goal.to_the_end-requires
to_the_end-requires c = (typed_of (held c.in_ok-ty.was c.in-Whole.is) c.ty.ensures).inside

pub returns-in-Whole : goal.returns-in-Whole
returns-in-Whole c =
    whole_ends type_call_lem (text c.args.edition c.args.src.now) c.requires
    (took (typed_of (held c.in_ok-ty.was c.in-Whole.is) c.ty.ensures)) refl c.to_the_end.ensures
