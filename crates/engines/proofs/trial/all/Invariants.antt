-- No number came more often than there were lists, and no more of them differ.
-- Assumes nothing.
use Rattle.std.proofs.Common.{ℕ, ◌≤◌, get_or}
use Rattle.engines.proofs.trial.all.Given as goal

abbrev pub invariant-loop-round : goal.invariant-loop-round
invariant-loop-round l = ((k : ℕ) → get_or l.came k 0 ≤ l.round) × (l.differing ≤ l.round)
