use mathlib.Core.Path.{refl}
use native.Mathlib.Omega.{arith}
use Rattle.quanta_cursor.proofs.Exits.{held}
use Rattle.quanta_cursor.proofs.Meeting.{fails}
use Rattle.quanta_engine.proofs.Running.{run_in, run_low, run_poised, run_bad, run_done, open_room, shut_some}
use Rattle.quanta_engine.proofs.Running.{run_stay, run_open, run_more, run_shut}
use Rattle.quanta_engine.proofs.Running.{stay_less, open_less, more_less, shut_less}
use Rattle.quanta_engine.proofs.expr.run.Goals as goal

-- AT THE HEAD
pub loop-node-init : goal.loop-node-init
loop-node-init c =
    run_in c.args.at c.args.no c.empty-stack.ensures c.whole.ensures c.expecting-state.ensures c.requires.0
    c.requires.1

pub offset_bounds-stack-top : goal.offset_bounds-stack-top
offset_bounds-stack-top c = let z = run_low c.loop-node.invariant in omega arith

pub bounds-stack-top : goal.bounds-stack-top
bounds-stack-top c = let z = run_low c.loop-node.invariant in omega arith

pub step-requires : goal.step-requires
step-requires c = run_poised c.loop-node.invariant _ refl

pub returns-in_err-node : goal.returns-in_err-node
returns-in_err-node c = λ src.
    fails c.from_residual.ensures.1
    (run_bad c.loop-node.invariant _ refl c.step.ensures src c.expecting-state.ensures c.in_err-node.was)

pub returns-in-Done : goal.returns-in-Done
returns-in-Done c = λ src.
    run_done c.loop-node.invariant _ refl c.step.ensures src c.expecting-state.ensures
    (held c.in_ok-node.was c.in-Done.is)

-- A TURN under the same opening
pub loop-node-smaller-in-Stay : goal.loop-node-smaller-in-Stay
loop-node-smaller-in-Stay c =
    stay_less c.loop-node.invariant _ refl c.step.ensures (held c.in_ok-node.was c.in-Stay.is)

pub loop-node-preserved-in-Stay : goal.loop-node-preserved-in-Stay
loop-node-preserved-in-Stay c =
    run_stay c.loop-node.invariant _ refl c.step.ensures c.step.auto.tree (held c.in_ok-node.was c.in-Stay.is)

-- ONE OPENING MORE
pub overflow_add-top : goal.overflow_add-top
overflow_add-top c = let z = run_low c.loop-node.invariant in omega arith

pub offset_bounds-stack-top-in-Open : goal.offset_bounds-stack-top-in-Open
offset_bounds-stack-top-in-Open c = let z = run_low c.loop-node.invariant in omega arith

pub bounds-stack-top-in-Open : goal.bounds-stack-top-in-Open
bounds-stack-top-in-Open c =
    let z = open_room c.loop-node.invariant _ refl c.step.ensures (held c.in_ok-node.was c.in-Open.is) in
    omega (arith, c.loop-node.invariant.low)

pub loop-node-smaller-in-Open : goal.loop-node-smaller-in-Open
loop-node-smaller-in-Open c =
    open_less c.loop-node.invariant _ refl c.step.ensures (held c.in_ok-node.was c.in-Open.is) refl

pub loop-node-preserved-in-Open : goal.loop-node-preserved-in-Open
loop-node-preserved-in-Open c =
    run_open c.loop-node.invariant _ refl c.step.ensures c.step.auto.tree (held c.in_ok-node.was c.in-Open.is) refl

-- ONE ARGUMENT MORE
pub offset_bounds-stack-top-in-More : goal.offset_bounds-stack-top-in-More
offset_bounds-stack-top-in-More c = let z = run_low c.loop-node.invariant in omega arith

pub bounds-stack-top-in-More : goal.bounds-stack-top-in-More
bounds-stack-top-in-More c = let z = run_low c.loop-node.invariant in omega arith

pub loop-node-smaller-in-More : goal.loop-node-smaller-in-More
loop-node-smaller-in-More c =
    more_less c.loop-node.invariant _ refl c.step.ensures (held c.in_ok-node.was c.in-More.is)

pub loop-node-preserved-in-More : goal.loop-node-preserved-in-More
loop-node-preserved-in-More c =
    run_more c.loop-node.invariant _ refl c.step.ensures c.step.auto.tree (held c.in_ok-node.was c.in-More.is)

-- AN OPENING IS CLOSED
pub overflow_sub-top : goal.overflow_sub-top
overflow_sub-top c =
    let z = shut_some c.loop-node.invariant _ refl c.step.ensures (held c.in_ok-node.was c.in-Shut.is) in
    omega arith

pub loop-node-smaller : goal.loop-node-smaller
loop-node-smaller c =
    shut_less c.loop-node.invariant _ refl c.step.ensures (held c.in_ok-node.was c.in-Shut.is) refl

pub loop-node-preserved : goal.loop-node-preserved
loop-node-preserved c =
    run_shut c.loop-node.invariant _ refl c.step.ensures c.step.auto.tree (held c.in_ok-node.was c.in-Shut.is) refl
