use mathlib.Core.Path.{refl}
use native.Mathlib.Omega.{arith}
use Rattle.quanta_cursor.proofs.Meeting.{took_all, took_of, failed_of, fails_all}
use Rattle.quanta_cursor.proofs.Lists.{fields_run}
use Rattle.quanta_cursor.proofs.Braces.{at_brace, at_eof, more_bad, more_on, more_less}
use Rattle.quanta_item.proofs.decl.fields.Goals as goal

pub returns-in_err-field : goal.returns-in_err-field
returns-in_err-field c =
    fails_all c.from_residual.ensures.1 (more_bad fields_run c.args.allowance c.requires c.loop-edition.invariant
    c.peek.ensures c.loop-edition-test.true c.peek-in-loop-edition.ensures c.if-peek-ne-EOF.true (failed_of
    c.in_err-field.was c.field_decl.ensures))

pub loop-edition-smaller : goal.loop-edition-smaller
loop-edition-smaller c =
    omega (
      arith,
      c.loop-edition.invariant.ready.inside,
      more_less fields_run c.args.allowance c.requires
          c.loop-edition.invariant c.peek.ensures c.loop-edition-test.true c.peek-in-loop-edition.ensures
          c.if-peek-ne-EOF.true (took_of c.in_ok-field.was c.field_decl.ensures),
    )

pub loop-edition-preserved : goal.loop-edition-preserved
loop-edition-preserved c =
    more_on fields_run c.args.allowance c.requires c.loop-edition.invariant c.peek.ensures c.loop-edition-test.true
    c.peek-in-loop-edition.ensures c.if-peek-ne-EOF.true (took_of c.in_ok-field.was c.field_decl.ensures) refl
    c.field_decl.auto.tree

pub returns-else-peek-ne-EOF : goal.returns-else-peek-ne-EOF
returns-else-peek-ne-EOF c =
    took_all (at_eof fields_run c.args.allowance c.requires c.loop-edition.invariant c.peek-in-loop-edition.ensures
    c.if-peek-ne-EOF.false refl refl refl)

pub returns-after-loop-edition : goal.returns-after-loop-edition
returns-after-loop-edition c =
    took_all (at_brace fields_run c.args.allowance c.requires c.loop-edition.invariant c.peek.ensures
    c.loop-edition-test.false refl refl refl)
