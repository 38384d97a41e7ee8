use Prim.Native.Nat.{◌-◌}
use lib.ListN.{length}
use Rattle.quanta_words.proofs.index.sink.Given as goal

abbrev pub decreases-loop-root : goal.decreases-loop-root
decreases-loop-root l = length l.index - l.root
