-- `quanta_param::decl::param_list` meets its contract.
-- Assumes nothing.
use Rattle.quanta_grammar.specs.Refine.{text}
use mathlib.Core.Path.{refl}
use Rattle.quanta_cursor.proofs.Meeting.{took_all, failed_all, fails_all}
use Rattle.quanta_cursor.proofs.Exits.{held}
use Rattle.quanta_param.proofs.Params.{list_unopened, list_refused, list_halved, list_unclosed, list_closed}
use Rattle.quanta_param.proofs.decl.param_list.Goals as goal

pub returns-in_err-inside : goal.returns-in_err-inside
returns-in_err-inside c =
    fails_all c.from_residual.ensures.1 (list_unopened (text c.args.edition c.args.src.now) c.args.tokens.now
    c.args.allowance c.requires c.args.tree.now c.expect.ensures c.in_err-inside.was)

pub returns-in_err-params : goal.returns-in_err-params
returns-in_err-params c =
    fails_all c.from_residual-in_err-params.ensures.1 (list_refused (text c.args.edition c.args.src.now)
    c.args.tokens.now c.args.allowance c.requires c.args.tree.now c.expect.ensures c.in_ok-inside.was
    c.params.ensures c.in_err-params.was)

pub returns-in-Half : goal.returns-in-Half
returns-in-Half c =
    failed_all (list_halved (text c.args.edition c.args.src.now) c.args.tokens.now c.args.allowance c.requires
    c.args.tree.now c.expect.ensures c.in_ok-inside.was c.params.ensures (held c.in_ok-params.was c.in-Half.is)
    c.err_half.ensures)

pub returns-in_err-next : goal.returns-in_err-next
returns-in_err-next c =
    fails_all c.from_residual-in_err-next.ensures.1 (list_unclosed (text c.args.edition c.args.src.now)
    c.args.tokens.now c.args.allowance c.requires c.args.tree.now c.expect.ensures c.in_ok-inside.was
    c.params.ensures (held c.in_ok-params.was c.in-Whole.is) c.expect-2.ensures c.in_err-next.was)

pub returns : goal.returns
returns c =
    took_all (list_closed (text c.args.edition c.args.src.now) c.args.tokens.now c.args.allowance c.requires
    c.args.tree.now c.expect.ensures c.in_ok-inside.was c.params.ensures (held c.in_ok-params.was c.in-Whole.is)
    c.expect-2.ensures c.in_ok-next.was refl refl refl)
