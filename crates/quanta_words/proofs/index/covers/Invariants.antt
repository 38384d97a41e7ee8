use Prim.Native.Nat.{ℕ, ◌+◌, ◌-◌, ◌≤◌, ◌<◌}
use lib.ListN.{length}
use Rattle.quanta_words.proofs.IndexLaws.{Past}
use Rattle.quanta_words.proofs.index.covers.Given as goal

abbrev pub invariant-loop-word : goal.invariant-loop-word
invariant-loop-word l = (l.i ≤ length l.table) × ((m : ℕ) × (length l.table < m + l.i) × Past l.table l.index m l.i)

abbrev pub decreases-loop-word : goal.decreases-loop-word
decreases-loop-word l = length l.table - l.i
