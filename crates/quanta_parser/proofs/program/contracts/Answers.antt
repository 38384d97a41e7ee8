use Rattle.quanta_grammar.specs.Refine.{text}
use mathlib.Core.Path.{refl, sym, ◌∙◌}
use native.Mathlib.Omega.{arith}
use Rattle.quanta_cursor.proofs.Meeting.{took_of, failed_of}
use Rattle.quanta_parser.proofs.Running.{contracts_law, run_begun, run_ends, run_bad, run_on, run_less}
use Rattle.quanta_parser.proofs.Running.{fails_run}
use Rattle.quanta_parser.proofs.program.contracts.Goals as goal

pub loop-span-init : goal.loop-span-init
loop-span-init c = run_begun contracts_law (text c.args.edition c.args.src.now) c.args.allowance c.requires

pub returns-in_err-contract : goal.returns-in_err-contract
returns-in_err-contract c =
    λ x. fails_run c.from_residual.ensures.1 (run_bad contracts_law (text c.args.edition c.args.src.now)
    c.args.allowance c.loop-span.invariant (sym c.peek.ensures ∙ c.loop-span-test.true) (failed_of
    c.in_err-contract.was c.contract.ensures) x)

pub loop-span-smaller : goal.loop-span-smaller
loop-span-smaller c =
    omega (
      arith,
      c.loop-span.invariant.ready.inside,
      run_less contracts_law (text c.args.edition c.args.src.now)
          c.args.allowance c.loop-span.invariant (sym c.peek.ensures ∙ c.loop-span-test.true) (took_of
          c.in_ok-contract.was c.contract.ensures),
    )

pub loop-span-preserved : goal.loop-span-preserved
loop-span-preserved c =
    run_on contracts_law (text c.args.edition c.args.src.now) c.args.allowance c.loop-span.invariant (sym
    c.peek.ensures ∙ c.loop-span-test.true) (took_of c.in_ok-contract.was c.contract.ensures) refl
    c.contract.auto.tree

pub returns : goal.returns
returns c =
    λ x. record {
      by = run_ends contracts_law (text c.args.edition c.args.src.now) c.args.allowance
          c.loop-span.invariant (λ z. c.loop-span-test.false (c.peek.ensures ∙ z)) refl refl refl refl x;
    }
