-- `quanta_item::decl::entry_decl` meets its contract.
-- Assumes nothing.
use Rattle.quanta_grammar.specs.Refine.{text}
use mathlib.Core.Path.{refl}
use native.Mathlib.Omega.{arith}
use Rattle.quanta_grammar.specs.NodeKind.{node_code, entry_node}
use Rattle.quanta_grammar.specs.Productions.{param_list, clauses}
use Rattle.quanta_cursor.proofs.Meeting.{took, all_of, fails}
use Rattle.quanta_item.proofs.Blocks.{block_of, block_failed_of, block_ready, bodiless, bodied}
use Rattle.quanta_item.proofs.Items.{entry_key, unnamed, named, name_few, unlisted, listed_in, all_four, four_small}
use Rattle.quanta_item.proofs.decl.entry_decl.Goals as goal

pub returns-in_err-name : goal.returns-in_err-name
returns-in_err-name c =
    fails c.from_residual.ensures.1 (unnamed (entry_key (text c.args.edition c.args.src.now) c.args.tokens.now
    c.args.allowance c.requires.0 c.bump.ensures c.args.tree.now c.requires.1) c.expect_ident.ensures
    c.in_err-name.was)

pub returns-in_err-params : goal.returns-in_err-params
returns-in_err-params c =
    fails c.from_residual-in_err-params.ensures.1 (unlisted param_list tt (named (entry_key (text c.args.edition
    c.args.src.now) c.args.tokens.now c.args.allowance c.requires.0 c.bump.ensures c.args.tree.now c.requires.1)
    c.expect_ident.ensures c.in_ok-name.was) c.param_list.ensures c.in_err-params.was)

pub clauses-requires : goal.clauses-requires
clauses-requires c =
    (listed_in param_list tt (named (entry_key (text c.args.edition c.args.src.now) c.args.tokens.now c.args.allowance
    c.requires.0 c.bump.ensures c.args.tree.now c.requires.1) c.expect_ident.ensures c.in_ok-name.was)
    c.param_list.ensures c.in_ok-params.was).ready

pub returns-in_err-clauses : goal.returns-in_err-clauses
returns-in_err-clauses c =
    fails c.from_residual-in_err-clauses.ensures.1 (unlisted clauses tt (listed_in param_list tt (named (entry_key
    (text c.args.edition c.args.src.now) c.args.tokens.now c.args.allowance c.requires.0 c.bump.ensures
    c.args.tree.now c.requires.1) c.expect_ident.ensures c.in_ok-name.was) c.param_list.ensures c.in_ok-params.was)
    (c.clauses.ensures c.args.edition) c.in_err-clauses.was)

pub block-requires : goal.block-requires
block-requires c =
    (listed_in clauses tt (listed_in param_list tt (named (entry_key (text c.args.edition c.args.src.now)
    c.args.tokens.now c.args.allowance c.requires.0 c.bump.ensures c.args.tree.now c.requires.1)
    c.expect_ident.ensures c.in_ok-name.was) c.param_list.ensures c.in_ok-params.was) (c.clauses.ensures
    c.args.edition) c.in_ok-clauses.was).ready

pub overflow_add-children : goal.overflow_add-children
overflow_add-children c =
    omega (
      arith,
      four_small (name_few (entry_key (text c.args.edition c.args.src.now) c.args.tokens.now
          c.args.allowance c.requires.0 c.bump.ensures c.args.tree.now c.requires.1) c.expect_ident.ensures
          c.in_ok-name.was) (all_of c.in_ok-params.was c.param_list.ensures) (all_of c.in_ok-clauses.was
          (c.clauses.ensures c.args.edition)) (block_of c.in_ok-body.was (c.block.ensures (text c.args.edition
          c.args.src.now))) (block_ready (text c.args.edition c.args.src.now) c.args.allowance (listed_in clauses tt
          (listed_in param_list tt (named (entry_key (text c.args.edition c.args.src.now) c.args.tokens.now
          c.args.allowance c.requires.0 c.bump.ensures c.args.tree.now c.requires.1) c.expect_ident.ensures
          c.in_ok-name.was) c.param_list.ensures c.in_ok-params.was) (c.clauses.ensures c.args.edition)
          c.in_ok-clauses.was).ready (block_of c.in_ok-body.was (c.block.ensures (text c.args.edition c.args.src.now)))),
    )

pub overflow_add-children-2 : goal.overflow_add-children-2
overflow_add-children-2 c =
    omega (
      arith,
      four_small (name_few (entry_key (text c.args.edition c.args.src.now) c.args.tokens.now
          c.args.allowance c.requires.0 c.bump.ensures c.args.tree.now c.requires.1) c.expect_ident.ensures
          c.in_ok-name.was) (all_of c.in_ok-params.was c.param_list.ensures) (all_of c.in_ok-clauses.was
          (c.clauses.ensures c.args.edition)) (block_of c.in_ok-body.was (c.block.ensures (text c.args.edition
          c.args.src.now))) (block_ready (text c.args.edition c.args.src.now) c.args.allowance (listed_in clauses tt
          (listed_in param_list tt (named (entry_key (text c.args.edition c.args.src.now) c.args.tokens.now
          c.args.allowance c.requires.0 c.bump.ensures c.args.tree.now c.requires.1) c.expect_ident.ensures
          c.in_ok-name.was) c.param_list.ensures c.in_ok-params.was) (c.clauses.ensures c.args.edition)
          c.in_ok-clauses.was).ready (block_of c.in_ok-body.was (c.block.ensures (text c.args.edition c.args.src.now)))),
    )

pub overflow_add-children-3 : goal.overflow_add-children-3
overflow_add-children-3 c =
    omega (
      arith,
      four_small (name_few (entry_key (text c.args.edition c.args.src.now) c.args.tokens.now
          c.args.allowance c.requires.0 c.bump.ensures c.args.tree.now c.requires.1) c.expect_ident.ensures
          c.in_ok-name.was) (all_of c.in_ok-params.was c.param_list.ensures) (all_of c.in_ok-clauses.was
          (c.clauses.ensures c.args.edition)) (block_of c.in_ok-body.was (c.block.ensures (text c.args.edition
          c.args.src.now))) (block_ready (text c.args.edition c.args.src.now) c.args.allowance (listed_in clauses tt
          (listed_in param_list tt (named (entry_key (text c.args.edition c.args.src.now) c.args.tokens.now
          c.args.allowance c.requires.0 c.bump.ensures c.args.tree.now c.requires.1) c.expect_ident.ensures
          c.in_ok-name.was) c.param_list.ensures c.in_ok-params.was) (c.clauses.ensures c.args.edition)
          c.in_ok-clauses.was).ready (block_of c.in_ok-body.was (c.block.ensures (text c.args.edition c.args.src.now)))),
    )

pub put_decl-requires : goal.put_decl-requires
put_decl-requires c = (
  (block_ready (text c.args.edition c.args.src.now) c.args.allowance (listed_in clauses tt (listed_in param_list tt
      (named (entry_key (text c.args.edition c.args.src.now) c.args.tokens.now c.args.allowance c.requires.0
      c.bump.ensures c.args.tree.now c.requires.1) c.expect_ident.ensures c.in_ok-name.was) c.param_list.ensures
      c.in_ok-params.was) (c.clauses.ensures c.args.edition) c.in_ok-clauses.was).ready (block_of c.in_ok-body.was
      (c.block.ensures (text c.args.edition c.args.src.now)))),
  c.requires.0.inside,
)

pub returns-in_err-body : goal.returns-in_err-body
returns-in_err-body c =
    fails c.from_residual-in_err-body.ensures.1 (bodiless (node_code entry_node) refl (listed_in clauses tt (listed_in
    param_list tt (named (entry_key (text c.args.edition c.args.src.now) c.args.tokens.now c.args.allowance
    c.requires.0 c.bump.ensures c.args.tree.now c.requires.1) c.expect_ident.ensures c.in_ok-name.was)
    c.param_list.ensures c.in_ok-params.was) (c.clauses.ensures c.args.edition) c.in_ok-clauses.was)
    (block_failed_of c.in_err-body.was (c.block.ensures (text c.args.edition c.args.src.now))))

pub returns : goal.returns
returns c =
    took (bodied (node_code entry_node) refl (listed_in clauses tt (listed_in param_list tt (named (entry_key (text
    c.args.edition c.args.src.now) c.args.tokens.now c.args.allowance c.requires.0 c.bump.ensures c.args.tree.now
    c.requires.1) c.expect_ident.ensures c.in_ok-name.was) c.param_list.ensures c.in_ok-params.was)
    (c.clauses.ensures c.args.edition) c.in_ok-clauses.was) (block_of c.in_ok-body.was (c.block.ensures (text
    c.args.edition c.args.src.now))) (all_four (name_few (entry_key (text c.args.edition c.args.src.now)
    c.args.tokens.now c.args.allowance c.requires.0 c.bump.ensures c.args.tree.now c.requires.1)
    c.expect_ident.ensures c.in_ok-name.was) (all_of c.in_ok-params.was c.param_list.ensures) (all_of
    c.in_ok-clauses.was (c.clauses.ensures c.args.edition)) (block_of c.in_ok-body.was (c.block.ensures (text
    c.args.edition c.args.src.now))) (named (entry_key (text c.args.edition c.args.src.now) c.args.tokens.now
    c.args.allowance c.requires.0 c.bump.ensures c.args.tree.now c.requires.1) c.expect_ident.ensures
    c.in_ok-name.was)) c.put_decl.ensures.0 c.put_decl.ensures.1)
