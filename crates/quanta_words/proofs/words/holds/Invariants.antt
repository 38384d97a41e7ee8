use Prim.Native.Nat.{ℕ, ◌+◌, ◌≤◌, ◌<◌, ◌-◌}
use mathlib.Core.Path.{◌≡◌}
use lib.ListN.{length}
use Rattle.quanta_words.specs.Words.{held_in}
use Rattle.quanta_words.proofs.WordLaws.{held_from}
use Rattle.quanta_words.proofs.words.holds.Given as goal

abbrev pub invariant-loop-held : goal.invariant-loop-held
invariant-loop-held l =
    (l.i ≤ length l.table) × ((n : ℕ) × (length l.table < n + l.i) × (held_in l.table l.word ≡ held_from n l.table l.i l.word))

abbrev pub decreases-loop-held : goal.decreases-loop-held
decreases-loop-held l = length l.table - l.i
