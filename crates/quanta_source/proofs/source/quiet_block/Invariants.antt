use Prim.Native.Nat.{◌+◌}
use mathlib.Core.Path.{◌≡◌}
use mathlib.Core.Bool.{true}
use Rattle.quanta_source.specs.Tests.{FineIn}
use Rattle.quanta_source.proofs.source.quiet_block.Given as goal

abbrev pub invariant-loop-k : goal.invariant-loop-k
invariant-loop-k l = l.none ≡ true → FineIn l.src l.at (l.at + l.k)
