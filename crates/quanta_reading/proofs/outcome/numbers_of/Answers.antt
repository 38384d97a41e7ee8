-- `quanta_reading::outcome::numbers_of` meets its contract.
-- Assumes nothing.
use mathlib.Core.Path.{ap, sym, ◌∙◌}
use native.Mathlib.Omega.{arith}
use Rattle.quanta_reading.specs.Values.{values}
use Rattle.quanta_reading.proofs.Numbers.{fits_of}
use Rattle.quanta_reading.proofs.outcome.numbers_of.Goals as goal

pub numbers_of_failure-requires : goal.numbers_of_failure-requires
numbers_of_failure-requires c = record { by = fits_of c.in-Err.is c.requires }

pub overflow_cast-counts : goal.overflow_cast-counts
overflow_cast-counts c = omega (arith, (fits_of c.in-Ok.is c.requires).0)

pub overflow_cast-counts-in-Ok : goal.overflow_cast-counts-in-Ok
overflow_cast-counts-in-Ok c = omega (arith, (fits_of c.in-Ok.is c.requires).1)

pub returns-in-Ok : goal.returns-in-Ok
returns-in-Ok c = c.accepted.ensures ∙ ap values (sym c.in-Ok.is)

pub returns-in-Err : goal.returns-in-Err
returns-in-Err c = c.numbers_of_failure.ensures ∙ ap values (sym c.in-Err.is)
