use mathlib.Core.Path.{refl, sym, ◌∙◌}
use native.Mathlib.Omega.{arith}
use Rattle.quanta_cursor.proofs.WordLists.{fails_on, imports_law, first_bad_lem, list_ends, comma_past, list_bad, list_on}
use Rattle.quanta_parser.proofs.program.import_names.Goals as goal

pub peek-requires : goal.peek-requires
peek-requires c = (c.loop-tree.invariant 0).ready.inside

pub returns : goal.returns
returns c =
    λ src t₀ a x. record {
      by = list_ends imports_law c.requires c.expect_import_name.ensures c.in_ok-first.was
          c.loop-tree.invariant (λ z. c.loop-tree-test.false (c.peek.ensures ∙ z)) refl refl refl src t₀ a x;
    }

pub expect_import_name-requires-in-loop-tree : goal.expect_import_name-requires-in-loop-tree
expect_import_name-requires-in-loop-tree c =
    comma_past imports_law c.requires c.expect_import_name.ensures c.in_ok-first.was c.loop-tree.invariant (sym
    c.peek.ensures ∙ c.loop-tree-test.true) c.bump.ensures

pub returns-in_err-name : goal.returns-in_err-name
returns-in_err-name c =
    λ src t₀ a x. fails_on c.from_residual-in_err-name.ensures.1 (list_bad imports_law c.requires
    c.expect_import_name.ensures c.in_ok-first.was c.loop-tree.invariant (sym c.peek.ensures ∙
    c.loop-tree-test.true) c.bump.ensures c.expect_import_name-in-loop-tree.ensures c.in_err-name.was src t₀ a x)

pub overflow_add-count : goal.overflow_add-count
overflow_add-count c =
    omega (
      arith,
      (c.loop-tree.invariant 0).few,
      (c.loop-tree.invariant 0).ready.inside,
      (c.loop-tree.invariant
          0).ready.fits,
      c.requires.closed.few,
    )

pub loop-tree-preserved : goal.loop-tree-preserved
loop-tree-preserved c =
    list_on imports_law c.requires c.expect_import_name.ensures c.in_ok-first.was c.loop-tree.invariant (sym
    c.peek.ensures ∙ c.loop-tree-test.true) c.bump.ensures c.expect_import_name-in-loop-tree.ensures
    c.in_ok-name.was refl c.expect_import_name-in-loop-tree.auto.tree

pub returns-in_err-first : goal.returns-in_err-first
returns-in_err-first c =
    λ src t₀ a x. fails_on c.from_residual.ensures.1 (first_bad_lem imports_law c.requires
    c.expect_import_name.ensures c.in_err-first.was src t₀ a x)
