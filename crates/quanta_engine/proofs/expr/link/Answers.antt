-- `quanta_engine::expr::link` meets its contract.
-- Assumes nothing.
use native.Mathlib.Omega.{arith}
use Rattle.quanta_engine.proofs.Linked.{linking_past, link_turn}
use Rattle.quanta_engine.proofs.expr.link.Goals as goal

pub push-requires : goal.push-requires
push-requires c =
    let l = linking_past c.requires in
    omega (arith, c.bump.ensures)

pub returns : goal.returns
returns c = λ words.
    link_turn c.requires c.link_allowance.ensures c.flag_of.ensures c.bump.ensures c.push.ensures
