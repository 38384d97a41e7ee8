use Prim.Native.Nat.{ℕ, ◌+◌, ◌≤◌, ◌<◌, ◌-◌}
use mathlib.Core.Path.{◌≡◌}
use lib.ListN.{length}
use Rattle.quanta_words.proofs.LookupLaws.{Sifted}
use Rattle.quanta_words.proofs.lookup.sift.Given as goal

abbrev pub invariant-loop-word : goal.invariant-loop-word
invariant-loop-word l =
    (l.i ≤ length l.table) × (length l.seen ≡ 1280) × ((n : ℕ) × (length l.table < n + l.i) × Sifted l.table l.seen n l.i)

abbrev pub decreases-loop-word : goal.decreases-loop-word
decreases-loop-word l = length l.table - l.i
