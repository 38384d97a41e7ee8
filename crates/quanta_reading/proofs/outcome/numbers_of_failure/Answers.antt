-- `quanta_reading::outcome::numbers_of_failure` meets its contract.
-- Assumes nothing.
use mathlib.Core.Path.{ap, sym, ◌∙◌}
use native.Mathlib.Omega.{arith}
use Rattle.quanta_reading.specs.Values.{failed}
use Rattle.quanta_reading.proofs.Numbers.{failure_fits_of}
use Rattle.quanta_reading.proofs.outcome.numbers_of_failure.Goals as goal

pub overflow_cast-e : goal.overflow_cast-e
overflow_cast-e c = omega (arith, (failure_fits_of c.in-Lexical.is c.requires).0)

pub overflow_cast-e-in-Lexical : goal.overflow_cast-e-in-Lexical
overflow_cast-e-in-Lexical c = omega (arith, (failure_fits_of c.in-Lexical.is c.requires).1)

pub overflow_cast-need : goal.overflow_cast-need
overflow_cast-need c = omega (arith, failure_fits_of c.in-NoTokenRoom.is c.requires)

pub overflow_cast-need-in-NoTreeRoom : goal.overflow_cast-need-in-NoTreeRoom
overflow_cast-need-in-NoTreeRoom c = omega (arith, failure_fits_of c.in-NoTreeRoom.is c.requires)

pub returns-in-Lexical : goal.returns-in-Lexical
returns-in-Lexical c = c.refused.ensures ∙ ap failed (sym c.in-Lexical.is)

pub returns-in-NoTokenRoom : goal.returns-in-NoTokenRoom
returns-in-NoTokenRoom c = c.refused-in-NoTokenRoom.ensures ∙ ap failed (sym c.in-NoTokenRoom.is)

pub returns-in-Syntax : goal.returns-in-Syntax
returns-in-Syntax c = c.refused-in-Syntax.ensures ∙ ap failed (sym c.in-Syntax.is)

pub returns-in-NoTreeRoom : goal.returns-in-NoTreeRoom
returns-in-NoTreeRoom c = c.refused-in-NoTreeRoom.ensures ∙ ap failed (sym c.in-NoTreeRoom.is)
