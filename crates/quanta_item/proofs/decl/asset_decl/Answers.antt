-- `quanta_item::decl::asset_decl` meets its contract.
-- Assumes nothing.
use mathlib.Core.Path.{refl}
use Rattle.quanta_grammar.specs.NodeKind.{node_code, asset_node}
use Rattle.quanta_cursor.proofs.Meeting.{fails}
use Rattle.quanta_cursor.proofs.Under.{closes_as}
use Rattle.quanta_item.proofs.Items.{asset_key, unnamed, named, semi_shut}
use Rattle.quanta_item.proofs.decl.asset_decl.Goals as goal

pub returns-in_err-name : goal.returns-in_err-name
returns-in_err-name c =
    λ src a. fails c.from_residual.ensures.1 (unnamed (asset_key src c.args.tokens.now a c.requires.0 c.bump.ensures
    c.args.tree.now c.requires.1) c.expect_ident.ensures c.in_err-name.was)

pub returns : goal.returns
returns c =
    λ src a. semi_shut (node_code asset_node) refl (named (asset_key src c.args.tokens.now a c.requires.0
    c.bump.ensures c.args.tree.now c.requires.1) c.expect_ident.ensures c.in_ok-name.was) refl (closes_as
    c.peek_span.ensures c.close_semi.ensures)
