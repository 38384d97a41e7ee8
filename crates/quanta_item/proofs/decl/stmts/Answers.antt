use mathlib.Core.Path.{refl}
use native.Mathlib.Omega.{arith}
use Rattle.quanta_cursor.proofs.Meeting.{took_all, took_of, failed_of, fails_all}
use Rattle.quanta_cursor.proofs.Lists.{stmts_run}
use Rattle.quanta_cursor.proofs.Braces.{at_brace, at_eof, more_bad, more_on, more_less}
use Rattle.quanta_grammar.specs.Refine.{blank}
use Rattle.quanta_item.proofs.decl.stmts.Goals as goal

pub peek-requires : goal.peek-requires
peek-requires c = (c.loop-tree.invariant blank).ready.inside

pub peek-requires-in-loop-tree : goal.peek-requires-in-loop-tree
peek-requires-in-loop-tree c = (c.loop-tree.invariant blank).ready.inside

pub statement-requires : goal.statement-requires
statement-requires c = (c.loop-tree.invariant blank).ready

pub returns-in_err-stmt : goal.returns-in_err-stmt
returns-in_err-stmt c =
    λ src. fails_all c.from_residual.ensures.1 (more_bad stmts_run c.args.allowance c.requires (c.loop-tree.invariant
    src) c.peek.ensures c.loop-tree-test.true c.peek-in-loop-tree.ensures c.if-peek-ne-EOF.true (failed_of
    c.in_err-stmt.was (c.statement.ensures src)))

pub overflow_add-count : goal.overflow_add-count
overflow_add-count c =
    omega (
      arith,
      (c.loop-tree.invariant blank).few,
      (c.loop-tree.invariant blank).ready.inside,
      (c.loop-tree.invariant blank).ready.fits,
      c.requires.closed.few,
    )

pub loop-tree-smaller : goal.loop-tree-smaller
loop-tree-smaller c =
    omega (
      arith,
      (c.loop-tree.invariant blank).ready.inside,
      more_less stmts_run c.args.allowance c.requires
          (c.loop-tree.invariant blank) c.peek.ensures c.loop-tree-test.true c.peek-in-loop-tree.ensures
          c.if-peek-ne-EOF.true (took_of c.in_ok-stmt.was (c.statement.ensures blank)),
    )

pub loop-tree-preserved : goal.loop-tree-preserved
loop-tree-preserved c =
    λ src. more_on stmts_run c.args.allowance c.requires (c.loop-tree.invariant src) c.peek.ensures
    c.loop-tree-test.true c.peek-in-loop-tree.ensures c.if-peek-ne-EOF.true (took_of c.in_ok-stmt.was
    (c.statement.ensures src)) refl c.statement.auto.tree

pub returns-else-peek-ne-EOF : goal.returns-else-peek-ne-EOF
returns-else-peek-ne-EOF c =
    λ src. took_all (at_eof stmts_run c.args.allowance c.requires (c.loop-tree.invariant src)
    c.peek-in-loop-tree.ensures c.if-peek-ne-EOF.false refl refl refl)

pub returns-after-loop-tree : goal.returns-after-loop-tree
returns-after-loop-tree c =
    λ src. took_all (at_brace stmts_run c.args.allowance c.requires (c.loop-tree.invariant src) c.peek.ensures
    c.loop-tree-test.false refl refl refl)
