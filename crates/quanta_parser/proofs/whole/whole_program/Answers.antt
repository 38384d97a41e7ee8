-- `quanta_parser::whole::whole_program` meets its contract.
-- Assumes nothing.
use mathlib.Core.Path.{ap}
use Rattle.quanta_cursor.specs.declared.parser.Node.{Node}
use Rattle.quanta_grammar.specs.Refine.{text}
use native.Mathlib.Omega.{arith}
use Rattle.quanta_cursor.proofs.Places.{ready_few}
use Rattle.quanta_parser.proofs.Wholes.{fails_whole, imports_bad, imported_ready, contracts_bad, program_ready, program_few, program_more, program_small, program_met}
use Rattle.quanta_parser.proofs.whole.whole_program.Goals as goal

pub peek_span-start-requires : goal.peek_span-start-requires
peek_span-start-requires c = c.requires.inside

pub imports-requires : goal.imports-requires
imports-requires c = c.requires

pub contracts-requires : goal.contracts-requires
contracts-requires c =
    imported_ready (text c.args.edition c.args.src.now) c.args.tokens.now c.requires c.args.tree.now
    (c.imports.ensures (text c.args.edition c.args.src.now) 64) c.in_ok-imports.was

pub expect_eof-requires : goal.expect_eof-requires
expect_eof-requires c =
    (program_ready (text c.args.edition c.args.src.now) c.args.tokens.now c.requires c.args.tree.now
    (c.imports.ensures (text c.args.edition c.args.src.now) 64) c.in_ok-imports.was c.contracts.ensures
    c.in_ok-contracts.was).inside

pub overflow_add-rec : goal.overflow_add-rec
overflow_add-rec c =
    omega (
      arith,
      program_few (text c.args.edition c.args.src.now) c.args.tokens.now c.requires c.args.tree.now
          (c.imports.ensures (text c.args.edition c.args.src.now) 64) c.in_ok-imports.was c.contracts.ensures
          c.in_ok-contracts.was,
    )

pub put_node-requires : goal.put_node-requires
put_node-requires c = (
  ready_few (program_ready (text c.args.edition c.args.src.now) c.args.tokens.now c.requires c.args.tree.now
      (c.imports.ensures (text c.args.edition c.args.src.now) 64) c.in_ok-imports.was c.contracts.ensures
      c.in_ok-contracts.was),
  program_small (text c.args.edition c.args.src.now) c.args.tokens.now c.requires
      c.args.tree.now (c.imports.ensures (text c.args.edition c.args.src.now) 64) c.in_ok-imports.was
      c.contracts.ensures c.in_ok-contracts.was c.expect_eof.ensures c.in_ok-end.was,
)

pub returns-in_err-imports : goal.returns-in_err-imports
returns-in_err-imports c =
    fails_whole c.from_residual.ensures.1 (imports_bad (text c.args.edition c.args.src.now) c.args.tokens.now
    c.requires c.args.tree.now (c.imports.ensures (text c.args.edition c.args.src.now) 64) c.in_err-imports.was)

pub returns-in_err-contracts : goal.returns-in_err-contracts
returns-in_err-contracts c =
    fails_whole c.from_residual-in_err-contracts.ensures.1 (contracts_bad (text c.args.edition c.args.src.now)
    c.args.tokens.now c.requires c.args.tree.now (c.imports.ensures (text c.args.edition c.args.src.now) 64)
    c.in_ok-imports.was c.contracts.ensures c.in_err-contracts.was)

pub returns-in_err-end : goal.returns-in_err-end
returns-in_err-end c =
    fails_whole c.from_residual-in_err-end.ensures.1 (program_more (text c.args.edition c.args.src.now)
    c.args.tokens.now c.requires c.args.tree.now (c.imports.ensures (text c.args.edition c.args.src.now) 64)
    c.in_ok-imports.was c.contracts.ensures c.in_ok-contracts.was c.expect_eof.ensures c.in_err-end.was)

pub returns : goal.returns
returns c =
    record {
      by = program_met (text c.args.edition c.args.src.now) c.args.tokens.now c.requires c.args.tree.now
          (c.imports.ensures (text c.args.edition c.args.src.now) 64) c.in_ok-imports.was c.contracts.ensures
          c.in_ok-contracts.was c.expect_eof.ensures c.in_ok-end.was c.peek_span-start.ensures c.join.ensures
          (ap (λ (m : Node). m.no.0) c.put_node.ensures.0) c.put_node.ensures.1;
    }
