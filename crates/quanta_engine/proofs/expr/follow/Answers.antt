-- `quanta_engine::expr::follow` meets its contract.
-- Assumes nothing.
use mathlib.Core.Path.{ap, ◌∙◌}
use native.Mathlib.Omega.{arith}
use Rattle.quanta_engine.specs.Ranks.{rank}
use Rattle.quanta_engine.proofs.Reduced.{reduce_turn}
use Rattle.quanta_engine.proofs.expr.follow.Goals as goal

pub returns : goal.returns
returns c =
    let z = c.rank_of-level.ensures ∙ ap rank c.requires.2 in
    reduce_turn c.requires.1 (omega (arith, c.if-top-eq-OPENING.false)) (omega (arith, c.if-level-top.false))
    c.reduce.ensures.1
    c.reduce.ensures.0
