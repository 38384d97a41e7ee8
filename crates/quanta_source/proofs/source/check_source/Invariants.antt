use Prim.Native.Nat.{◌-◌}
use mathlib.Core.Path.{◌≡◌}
use lib.ListN.{length}
use Rattle.quanta_source.specs.Source.{check_from, checked}
use Rattle.quanta_source.proofs.source.check_source.Given as goal

abbrev pub invariant-loop-i : goal.invariant-loop-i
invariant-loop-i l = checked l.src ≡ check_from (length l.src - l.i) l.src l.i
