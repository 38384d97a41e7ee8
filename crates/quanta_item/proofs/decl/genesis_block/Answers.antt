-- `quanta_item::decl::genesis_block` meets its contract.
-- Assumes nothing.
use mathlib.Core.Path.{refl, sym}
use Rattle.grammar.specs.Records.{none}
use Rattle.quanta_grammar.specs.NodeKind.{node_code, genesis_node}
use Rattle.quanta_cursor.proofs.Meeting.{took, fails}
use Rattle.quanta_item.proofs.Blocks.{block_of, block_failed_of, block_ready, block_count, bodiless, bodied}
use Rattle.quanta_item.proofs.Items.{genesis_key, by_itself}
use Rattle.quanta_grammar.specs.Refine.{blank}
use Rattle.quanta_item.proofs.decl.genesis_block.Goals as goal

pub put_decl-requires : goal.put_decl-requires
put_decl-requires c = (
  block_ready blank c.args.allowance (genesis_key blank c.args.tokens.now c.args.allowance c.requires.0
      c.bump.ensures c.args.tree.now c.requires.1).ready (block_of c.in_ok-body.was (c.block.ensures blank)),
  c.requires.0.inside,
)

pub returns-in_err-body : goal.returns-in_err-body
returns-in_err-body c =
    λ src. fails c.from_residual.ensures.1 (bodiless (node_code genesis_node) refl (genesis_key src c.args.tokens.now
    c.args.allowance c.requires.0 c.bump.ensures c.args.tree.now c.requires.1) (block_failed_of c.in_err-body.was
    (c.block.ensures src)))

pub returns : goal.returns
returns c =
    λ src. took (bodied (node_code genesis_node) refl (genesis_key src c.args.tokens.now c.args.allowance c.requires.0
    c.bump.ensures c.args.tree.now c.requires.1) (block_of c.in_ok-body.was (c.block.ensures src)) (sym (by_itself
    (block_count none (block_of c.in_ok-body.was (c.block.ensures src))))) c.put_decl.ensures.0
    c.put_decl.ensures.1)
