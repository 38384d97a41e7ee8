use Prim.Native.Nat.{◌≤◌, ◌-◌}
use mathlib.Core.Path.{◌≡◌}
use lib.ListN.{length}
use Rattle.quanta_words.proofs.index.places.Given as goal

abbrev pub invariant-loop-word : goal.invariant-loop-word
invariant-loop-word l = (l.i ≤ length l.table) × (l.n ≤ length l.index) × (length l.index ≡ length l.initial.index)

abbrev pub decreases-loop-word : goal.decreases-loop-word
decreases-loop-word l = length l.table - l.i
