use mathlib.Core.Path.{refl, sym, ◌∙◌}
use native.Mathlib.Omega.{arith}
use Rattle.quanta_cursor.proofs.Meeting.{took_of, failed_of}
use Rattle.quanta_parser.proofs.Running.{imports_law, run_begun, run_ends, run_bad, run_on, run_less}
use Rattle.quanta_grammar.specs.Refine.{blank}
use Rattle.quanta_parser.proofs.Running.{fails_run}
use Rattle.quanta_parser.proofs.program.imports.Goals as goal

pub loop-span-init : goal.loop-span-init
loop-span-init c = λ src a. run_begun imports_law src a c.requires

pub peek-requires : goal.peek-requires
peek-requires c = (c.loop-span.invariant blank 0).ready.inside

pub import_decl-requires : goal.import_decl-requires
import_decl-requires c = ((c.loop-span.invariant blank 0).ready, (sym c.peek.ensures ∙ c.loop-span-test.true))

pub returns-in_err-import : goal.returns-in_err-import
returns-in_err-import c =
    λ src a x. fails_run c.from_residual.ensures.1 (run_bad imports_law src a (c.loop-span.invariant src a) (sym
    c.peek.ensures ∙ c.loop-span-test.true) (failed_of c.in_err-import.was (c.import_decl.ensures src a)) x)

pub overflow_add-count : goal.overflow_add-count
overflow_add-count c =
    omega (
      arith,
      (c.loop-span.invariant blank 0).few,
      (c.loop-span.invariant blank 0).ready.inside,
      (c.loop-span.invariant blank 0).ready.fits,
      c.requires.closed.few,
    )

pub loop-span-smaller : goal.loop-span-smaller
loop-span-smaller c =
    omega (
      arith,
      (c.loop-span.invariant blank 0).ready.inside,
      run_less imports_law blank 0 (c.loop-span.invariant
          blank 0) (sym c.peek.ensures ∙ c.loop-span-test.true) (took_of c.in_ok-import.was (c.import_decl.ensures blank
          0)),
    )

pub loop-span-preserved : goal.loop-span-preserved
loop-span-preserved c =
    λ src a. run_on imports_law src a (c.loop-span.invariant src a) (sym c.peek.ensures ∙ c.loop-span-test.true)
    (took_of c.in_ok-import.was (c.import_decl.ensures src a)) refl c.import_decl.auto.tree

pub returns : goal.returns
returns c =
    λ src a x. record {
      by = run_ends imports_law src a (c.loop-span.invariant src a) (λ z. c.loop-span-test.false
          (c.peek.ensures ∙ z)) refl refl refl refl x;
    }
