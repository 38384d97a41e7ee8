-- `quanta_parser::program::import_decl` meets its contract.
-- Assumes nothing.
use native.Mathlib.Omega.{arith}
use Rattle.quanta_cursor.proofs.Meeting.{fails}
use Rattle.quanta_parser.proofs.Parts.{import_unopened, import_nameless, names_ready, names_few, import_unclosed, import_fromless, from_ready, import_pathless, path_ready, import_met}
use Rattle.quanta_grammar.specs.Refine.{blank}
use Rattle.quanta_parser.proofs.program.import_decl.Goals as goal

pub expect-requires-2 : goal.expect-requires-2
expect-requires-2 c =
    let z = names_ready blank c.args.tokens.now 0 c.requires.0 c.requires.1 c.bump.ensures c.args.tree.now
    c.expect.ensures c.in_ok-inside.was c.import_names.ensures c.in_ok-names.was in
    (z.inside, z.closed.few)

pub expect_str-requires : goal.expect_str-requires
expect_str-requires c =
    from_ready blank c.args.tokens.now 0 c.requires.0 c.requires.1 c.bump.ensures c.args.tree.now c.expect.ensures
    c.in_ok-inside.was c.import_names.ensures c.in_ok-names.was c.expect-2.ensures c.in_ok-from.was
    c.expect-3.ensures c.in_ok-behind.was

pub overflow_add-names : goal.overflow_add-names
overflow_add-names c =
    omega (
      arith,
      names_few blank c.args.tokens.now 0 c.requires.0 c.requires.1 c.bump.ensures c.args.tree.now
          c.expect.ensures c.in_ok-inside.was c.import_names.ensures c.in_ok-names.was,
    )

pub close_import-requires : goal.close_import-requires
close_import-requires c = (
  path_ready blank c.args.tokens.now 0 c.requires.0 c.requires.1 c.bump.ensures c.args.tree.now c.expect.ensures
      c.in_ok-inside.was c.import_names.ensures c.in_ok-names.was c.expect-2.ensures c.in_ok-from.was
      c.expect-3.ensures c.in_ok-behind.was c.expect_str.ensures c.in_ok-path.was,
  c.requires.0.inside,
)

pub returns-in_err-inside : goal.returns-in_err-inside
returns-in_err-inside c =
    λ src a. fails c.from_residual.ensures.1 (import_unopened src c.args.tokens.now a c.requires.0 c.requires.1
    c.bump.ensures c.args.tree.now c.expect.ensures c.in_err-inside.was)

pub returns-in_err-names : goal.returns-in_err-names
returns-in_err-names c =
    λ src a. fails c.from_residual-in_err-names.ensures.1 (import_nameless src c.args.tokens.now a c.requires.0
    c.requires.1 c.bump.ensures c.args.tree.now c.expect.ensures c.in_ok-inside.was c.import_names.ensures
    c.in_err-names.was)

pub returns-in_err-from : goal.returns-in_err-from
returns-in_err-from c =
    λ src a. fails c.from_residual-in_err-from.ensures.1 (import_unclosed src c.args.tokens.now a c.requires.0
    c.requires.1 c.bump.ensures c.args.tree.now c.expect.ensures c.in_ok-inside.was c.import_names.ensures
    c.in_ok-names.was c.expect-2.ensures c.in_err-from.was)

pub returns-in_err-behind : goal.returns-in_err-behind
returns-in_err-behind c =
    λ src a. fails c.from_residual-in_err-behind.ensures.1 (import_fromless src c.args.tokens.now a c.requires.0
    c.requires.1 c.bump.ensures c.args.tree.now c.expect.ensures c.in_ok-inside.was c.import_names.ensures
    c.in_ok-names.was c.expect-2.ensures c.in_ok-from.was c.expect-3.ensures c.in_err-behind.was)

pub returns-in_err-path : goal.returns-in_err-path
returns-in_err-path c =
    λ src a. fails c.from_residual-in_err-path.ensures.1 (import_pathless src c.args.tokens.now a c.requires.0
    c.requires.1 c.bump.ensures c.args.tree.now c.expect.ensures c.in_ok-inside.was c.import_names.ensures
    c.in_ok-names.was c.expect-2.ensures c.in_ok-from.was c.expect-3.ensures c.in_ok-behind.was c.expect_str.ensures
    c.in_err-path.was)

pub returns : goal.returns
returns c =
    λ src a. import_met src c.args.tokens.now a c.requires.0 c.requires.1 c.bump.ensures c.args.tree.now
    c.expect.ensures c.in_ok-inside.was c.import_names.ensures c.in_ok-names.was c.expect-2.ensures c.in_ok-from.was
    c.expect-3.ensures c.in_ok-behind.was c.expect_str.ensures c.in_ok-path.was c.close_import.ensures
