use mathlib.Core.Path.{refl}
use native.Mathlib.Omega.{arith}
use Rattle.quanta_cursor.proofs.Meeting.{took_of, failed_of, took_all, fails_all}
use Rattle.quanta_cursor.proofs.Lists.{items_run}
use Rattle.quanta_cursor.proofs.Braces.{at_brace, at_eof, more_bad, more_on, more_less}
use Rattle.quanta_parser.proofs.program.items.Goals as goal

pub returns-in_err-item : goal.returns-in_err-item
returns-in_err-item c =
    fails_all c.from_residual.ensures.1 (more_bad items_run c.args.allowance c.requires c.loop-edition.invariant
    c.peek.ensures c.loop-edition-test.true c.peek-in-loop-edition.ensures c.if-peek-ne-EOF.true (failed_of
    c.in_err-item.was c.contract_item.ensures))

pub loop-edition-smaller : goal.loop-edition-smaller
loop-edition-smaller c =
    omega (
      arith,
      c.loop-edition.invariant.ready.inside,
      more_less items_run c.args.allowance c.requires
          c.loop-edition.invariant c.peek.ensures c.loop-edition-test.true c.peek-in-loop-edition.ensures
          c.if-peek-ne-EOF.true (took_of c.in_ok-item.was c.contract_item.ensures),
    )

pub loop-edition-preserved : goal.loop-edition-preserved
loop-edition-preserved c =
    more_on items_run c.args.allowance c.requires c.loop-edition.invariant c.peek.ensures c.loop-edition-test.true
    c.peek-in-loop-edition.ensures c.if-peek-ne-EOF.true (took_of c.in_ok-item.was c.contract_item.ensures) refl
    c.contract_item.auto.tree

pub returns-else-peek-ne-EOF : goal.returns-else-peek-ne-EOF
returns-else-peek-ne-EOF c =
    took_all (at_eof items_run c.args.allowance c.requires c.loop-edition.invariant c.peek-in-loop-edition.ensures
    c.if-peek-ne-EOF.false refl refl refl)

pub returns-after-loop-edition : goal.returns-after-loop-edition
returns-after-loop-edition c =
    took_all (at_brace items_run c.args.allowance c.requires c.loop-edition.invariant c.peek.ensures
    c.loop-edition-test.false refl refl refl)
