-- What is left to skip from i is what was left at the start; a turn takes blanks, and a comment if one stands there.
use Prim.Native.Nat.{◌≤◌, ◌-◌}
use mathlib.Core.Path.{◌≡◌}
use lib.ListN.{length}
use Rattle.quanta_lexer.specs.Trivia.{trivia_end}
use Rattle.quanta_lexer.proofs.scan.skip_trivia.Given as goal

abbrev pub invariant-loop-i : goal.invariant-loop-i
invariant-loop-i l =
    (l.i ≤ length l.src) × (trivia_end l.src l.initial.i ≡ trivia_end l.src l.i)

abbrev pub decreases-loop-i : goal.decreases-loop-i
decreases-loop-i l = length l.src - l.i
