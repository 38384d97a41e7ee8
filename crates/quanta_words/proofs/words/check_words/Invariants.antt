use Prim.Native.Nat.{ℕ, ◌+◌, ◌≤◌, ◌<◌, ◌-◌}
use mathlib.Core.Path.{◌≡◌}
use lib.ListN.{length}
use Rattle.quanta_words.specs.Words.{bad_in, bad_from}
use Rattle.quanta_words.proofs.words.check_words.Given as goal

abbrev pub invariant-loop-word : goal.invariant-loop-word
invariant-loop-word l =
    (l.i ≤ length l.table) × ((n : ℕ) × (length l.table < n + l.i) × (bad_in l.table ≡ bad_from n l.table l.i))

abbrev pub decreases-loop-word : goal.decreases-loop-word
decreases-loop-word l = length l.table - l.i
