-- What is left to be passed stands behind the blanks that are left.
-- Assumes nothing.
use Rattle.std.proofs.Common.{◌≡◌, ◌-◌, ◌≤◌, length}
use Rattle.quanta_stored.specs.Lines.{behind}
use Rattle.quanta_stored.proofs.line.rest.Given as goal

abbrev pub invariant-loop : goal.invariant-loop
invariant-loop l =
    record {
      few : length l.rest ≤ length l.line;
      by : behind (l.no - l.counter) l.rest ≡ behind l.no l.line;
    }
