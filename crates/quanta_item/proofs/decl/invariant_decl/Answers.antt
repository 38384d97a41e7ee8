-- `quanta_item::decl::invariant_decl` meets its contract.
-- Assumes nothing.
use mathlib.Core.Path.{refl}
use Rattle.quanta_grammar.specs.NodeKind.{node_code, invariant_node}
use Rattle.quanta_cursor.proofs.Places.{ready_small}
use Rattle.quanta_cursor.proofs.Meeting.{fails}
use Rattle.quanta_cursor.proofs.Under.{closes_as}
use Rattle.quanta_item.proofs.Items.{invariant_key, unsaid, said, semi_shut}
use Rattle.quanta_grammar.specs.Refine.{blank}
use Rattle.quanta_item.proofs.decl.invariant_decl.Goals as goal

pub close_semi-requires : goal.close_semi-requires
close_semi-requires c = (
  (said (invariant_key blank c.args.tokens.now c.args.allowance c.requires.0 c.bump.ensures c.args.tree.now
      c.requires.1) (c.expr.ensures blank) c.in_ok-value.was).ready,
  ready_small c.requires.0,
)

pub returns-in_err-value : goal.returns-in_err-value
returns-in_err-value c =
    λ src. fails c.from_residual.ensures.1 (unsaid (invariant_key src c.args.tokens.now c.args.allowance c.requires.0
    c.bump.ensures c.args.tree.now c.requires.1) (c.expr.ensures src) c.in_err-value.was)

pub returns : goal.returns
returns c =
    λ src. semi_shut (node_code invariant_node) refl (said (invariant_key src c.args.tokens.now c.args.allowance
    c.requires.0 c.bump.ensures c.args.tree.now c.requires.1) (c.expr.ensures src) c.in_ok-value.was) refl
    (closes_as c.peek_span.ensures c.close_semi.ensures)
