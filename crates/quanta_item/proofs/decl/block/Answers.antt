-- `quanta_item::decl::block` meets its contract.
-- Assumes nothing.
use mathlib.Core.Path.{refl}
use Rattle.quanta_item.proofs.Blocks.{took_block, block_unopened, block_bad, filled_ready, block_unclosed, block_took, joined_as, fails_block}
use Rattle.quanta_grammar.specs.Refine.{blank}
use Rattle.quanta_item.proofs.decl.block.Goals as goal

pub expect-requires-2 : goal.expect-requires-2
expect-requires-2 c =
    let z = filled_ready blank c.args.tokens.now c.args.allowance c.requires c.args.tree.now c.expect.ensures
    c.in_ok-inside.was (c.stmts.ensures blank) c.in_ok-body.was in
    (z.inside, z.closed.few)

pub returns-in_err-inside : goal.returns-in_err-inside
returns-in_err-inside c =
    λ src. fails_block c.from_residual.ensures.1 (block_unopened src c.args.tokens.now c.args.allowance c.requires
    c.args.tree.now c.expect.ensures c.in_err-inside.was)

pub returns-in_err-body : goal.returns-in_err-body
returns-in_err-body c =
    λ src. fails_block c.from_residual-in_err-body.ensures.1 (block_bad src c.args.tokens.now c.args.allowance
    c.requires c.args.tree.now c.expect.ensures c.in_ok-inside.was (c.stmts.ensures src) c.in_err-body.was)

pub returns-in_err-next : goal.returns-in_err-next
returns-in_err-next c =
    λ src. fails_block c.from_residual-in_err-next.ensures.1 (block_unclosed src c.args.tokens.now c.args.allowance
    c.requires c.args.tree.now c.expect.ensures c.in_ok-inside.was (c.stmts.ensures src) c.in_ok-body.was
    c.expect-2.ensures c.in_err-next.was)

pub returns : goal.returns
returns c =
    λ src. took_block (block_took src c.args.tokens.now c.args.allowance c.requires c.args.tree.now c.expect.ensures
    c.in_ok-inside.was (c.stmts.ensures src) c.in_ok-body.was c.expect-2.ensures c.in_ok-next.was refl refl refl
    (joined_as c.join.ensures c.peek_span.ensures c.peek_span-2.ensures))
