use mathlib.Core.Path.{◌≡◌}
use Rattle.utf8.specs.Block.{ascii, every}
use Rattle.utf8.proofs.ascii_block.Given as goal

abbrev pub invariant-loop-c : goal.invariant-loop-c
invariant-loop-c l = l.all ≡ every ascii l.c-index l.s l.i
