-- `quanta_item::decl::event_decl` meets its contract.
-- Assumes nothing.
use Rattle.quanta_grammar.specs.Refine.{text}
use mathlib.Core.Path.{refl}
use native.Mathlib.Omega.{arith}
use Rattle.quanta_grammar.specs.NodeKind.{node_code, event_node}
use Rattle.quanta_grammar.specs.Productions.{param_list}
use Rattle.quanta_cursor.proofs.Places.{ready_small}
use Rattle.quanta_cursor.proofs.Meeting.{all_of, fails}
use Rattle.quanta_cursor.proofs.Under.{closes_as}
use Rattle.quanta_item.proofs.Items.{event_key, unnamed, named, name_few, unlisted, listed_in, listed_count, two_small, semi_shut}
use Rattle.quanta_item.proofs.decl.event_decl.Goals as goal

pub overflow_add-rec : goal.overflow_add-rec
overflow_add-rec c =
    omega (
      arith,
      two_small (name_few (event_key (text c.args.edition c.args.src.now) c.args.tokens.now
          c.args.allowance c.requires.0 c.bump.ensures c.args.tree.now c.requires.1) c.expect_ident.ensures
          c.in_ok-name.was) (all_of c.in_ok-params.was c.param_list.ensures) (listed_in param_list tt (named (event_key
          (text c.args.edition c.args.src.now) c.args.tokens.now c.args.allowance c.requires.0 c.bump.ensures
          c.args.tree.now c.requires.1) c.expect_ident.ensures c.in_ok-name.was) c.param_list.ensures
          c.in_ok-params.was).ready,
    )

pub close_semi-requires : goal.close_semi-requires
close_semi-requires c = (
  (listed_in param_list tt (named (event_key (text c.args.edition c.args.src.now) c.args.tokens.now
      c.args.allowance c.requires.0 c.bump.ensures c.args.tree.now c.requires.1) c.expect_ident.ensures
      c.in_ok-name.was) c.param_list.ensures c.in_ok-params.was).ready,
  ready_small c.requires.0,
)

pub returns-in_err-name : goal.returns-in_err-name
returns-in_err-name c =
    fails c.from_residual.ensures.1 (unnamed (event_key (text c.args.edition c.args.src.now) c.args.tokens.now
    c.args.allowance c.requires.0 c.bump.ensures c.args.tree.now c.requires.1) c.expect_ident.ensures
    c.in_err-name.was)

pub returns-in_err-params : goal.returns-in_err-params
returns-in_err-params c =
    fails c.from_residual-in_err-params.ensures.1 (unlisted param_list tt (named (event_key (text c.args.edition
    c.args.src.now) c.args.tokens.now c.args.allowance c.requires.0 c.bump.ensures c.args.tree.now c.requires.1)
    c.expect_ident.ensures c.in_ok-name.was) c.param_list.ensures c.in_err-params.was)

pub returns : goal.returns
returns c =
    semi_shut (node_code event_node) refl (listed_in param_list tt (named (event_key (text c.args.edition
    c.args.src.now) c.args.tokens.now c.args.allowance c.requires.0 c.bump.ensures c.args.tree.now c.requires.1)
    c.expect_ident.ensures c.in_ok-name.was) c.param_list.ensures c.in_ok-params.was) (listed_count param_list tt
    (named (event_key (text c.args.edition c.args.src.now) c.args.tokens.now c.args.allowance c.requires.0
    c.bump.ensures c.args.tree.now c.requires.1) c.expect_ident.ensures c.in_ok-name.was) c.param_list.ensures
    c.in_ok-params.was) (closes_as c.peek_span.ensures c.close_semi.ensures)
