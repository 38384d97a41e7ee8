-- `quanta_parser::program::contract` meets its contract.
-- Assumes nothing.
use Rattle.quanta_grammar.specs.Refine.{text}
use Rattle.quanta_cursor.proofs.Meeting.{fails}
use Rattle.quanta_parser.proofs.Parts.{contract_nameless, contract_unopened, contract_bad, full_ready, full_few, contract_met}
use Rattle.quanta_parser.proofs.program.contract.Goals as goal

pub close_contract-requires : goal.close_contract-requires
close_contract-requires c = (
  full_ready (text c.args.edition c.args.src.now) c.args.tokens.now c.args.allowance c.requires.0 c.requires.1
      c.bump.ensures c.args.tree.now c.expect_ident.ensures c.in_ok-name.was c.expect.ensures c.in_ok-inside.was
      c.items.ensures c.in_ok-items.was,
  c.requires.0.inside,
  full_few (text c.args.edition c.args.src.now)
      c.args.tokens.now c.args.allowance c.requires.0 c.requires.1 c.bump.ensures c.args.tree.now
      c.expect_ident.ensures c.in_ok-name.was c.expect.ensures c.in_ok-inside.was c.items.ensures c.in_ok-items.was,
)

pub returns-in_err-name : goal.returns-in_err-name
returns-in_err-name c =
    fails c.from_residual.ensures.1 (contract_nameless (text c.args.edition c.args.src.now) c.args.tokens.now
    c.args.allowance c.requires.0 c.requires.1 c.bump.ensures c.args.tree.now c.expect_ident.ensures
    c.in_err-name.was)

pub returns-in_err-inside : goal.returns-in_err-inside
returns-in_err-inside c =
    fails c.from_residual-in_err-inside.ensures.1 (contract_unopened (text c.args.edition c.args.src.now)
    c.args.tokens.now c.args.allowance c.requires.0 c.requires.1 c.bump.ensures c.args.tree.now
    c.expect_ident.ensures c.in_ok-name.was c.expect.ensures c.in_err-inside.was)

pub returns-in_err-items : goal.returns-in_err-items
returns-in_err-items c =
    fails c.from_residual-in_err-items.ensures.1 (contract_bad (text c.args.edition c.args.src.now) c.args.tokens.now
    c.args.allowance c.requires.0 c.requires.1 c.bump.ensures c.args.tree.now c.expect_ident.ensures
    c.in_ok-name.was c.expect.ensures c.in_ok-inside.was c.items.ensures c.in_err-items.was)

pub returns : goal.returns
returns c =
    contract_met (text c.args.edition c.args.src.now) c.args.tokens.now c.args.allowance c.requires.0 c.requires.1
    c.bump.ensures c.args.tree.now c.expect_ident.ensures c.in_ok-name.was c.expect.ensures c.in_ok-inside.was
    c.items.ensures c.in_ok-items.was c.close_contract.ensures
