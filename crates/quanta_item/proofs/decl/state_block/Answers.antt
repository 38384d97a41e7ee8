-- `quanta_item::decl::state_block` meets its contract.
-- Assumes nothing.
use Rattle.quanta_grammar.specs.Refine.{text}
use mathlib.Core.Path.{refl}
use Rattle.quanta_grammar.specs.NodeKind.{node_code, state_node}
use Rattle.quanta_grammar.specs.Productions.{fields}
use Rattle.quanta_cursor.proofs.Places.{ready_small}
use Rattle.quanta_cursor.proofs.Meeting.{fails}
use Rattle.quanta_cursor.proofs.Under.{closes_as}
use Rattle.quanta_item.proofs.Items.{state_key, unopened, opened, unlisted, listed_in, listed_count, by_itself, brace_shut}
use Rattle.quanta_item.proofs.decl.state_block.Goals as goal

pub close-requires : goal.close-requires
close-requires c = (
  (listed_in fields tt (opened (state_key (text c.args.edition c.args.src.now) c.args.tokens.now c.args.allowance
      c.requires.0 c.bump.ensures c.args.tree.now c.requires.1) c.expect.ensures c.in_ok-inside.was) c.fields.ensures
      c.in_ok-fields.was).ready,
  ready_small c.requires.0,
)

pub returns-in_err-inside : goal.returns-in_err-inside
returns-in_err-inside c =
    fails c.from_residual.ensures.1 (unopened (state_key (text c.args.edition c.args.src.now) c.args.tokens.now
    c.args.allowance c.requires.0 c.bump.ensures c.args.tree.now c.requires.1) c.expect.ensures c.in_err-inside.was)

pub returns-in_err-fields : goal.returns-in_err-fields
returns-in_err-fields c =
    fails c.from_residual-in_err-fields.ensures.1 (unlisted fields tt (opened (state_key (text c.args.edition
    c.args.src.now) c.args.tokens.now c.args.allowance c.requires.0 c.bump.ensures c.args.tree.now c.requires.1)
    c.expect.ensures c.in_ok-inside.was) c.fields.ensures c.in_err-fields.was)

pub returns : goal.returns
returns c =
    brace_shut (node_code state_node) refl (listed_in fields tt (opened (state_key (text c.args.edition
    c.args.src.now) c.args.tokens.now c.args.allowance c.requires.0 c.bump.ensures c.args.tree.now c.requires.1)
    c.expect.ensures c.in_ok-inside.was) c.fields.ensures c.in_ok-fields.was) (by_itself (listed_count fields tt
    (opened (state_key (text c.args.edition c.args.src.now) c.args.tokens.now c.args.allowance c.requires.0
    c.bump.ensures c.args.tree.now c.requires.1) c.expect.ensures c.in_ok-inside.was) c.fields.ensures
    c.in_ok-fields.was)) (closes_as c.peek_span.ensures c.close.ensures)
