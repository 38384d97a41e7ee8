-- `quanta_engine::expr::run` meets its contract. The invariant: what comes of the stack and the state is to come of the
-- whole. The measure: two for each token ahead, and one for each opening.
-- Assumes nothing.
use Prim.Native.Nat.{◌+◌, ◌-◌, ◌*◌}
use Rattle.quanta_cursor.specs.Tokens.{size}
use Rattle.quanta_engine.specs.Frames.{here}
use Rattle.quanta_engine.specs.Runs.{Running}
use Rattle.quanta_engine.proofs.expr.run.Given as goal

abbrev pub invariant-loop-node : goal.invariant-loop-node
invariant-loop-node l =
    Running l.tokens l.allowance l.initial.state l.initial.tree l.stack l.top l.state l.tree

abbrev pub decreases-loop-node : goal.decreases-loop-node
decreases-loop-node l = (size l.tokens - here l.state) * 2 + l.top
