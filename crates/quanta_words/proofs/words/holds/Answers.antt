use Prim.Native.Nat.{suc}
use mathlib.Core.Path.{sym, ◌∙◌}
use lib.ListN.{length}
use native.Mathlib.Omega.{arith}
use Rattle.quanta_words.proofs.WordLaws.{held_all, held_stop, held_hit, held_more, same_of}
use Rattle.quanta_words.proofs.words.holds.Goals as goal

pub loop-held-init : goal.loop-held-init
loop-held-init c = (omega arith, (suc (length c.args.table.now), omega arith, held_all _ _))

pub returns-then-eq : goal.returns-then-eq
returns-then-eq c =
    let inv = c.loop-held.invariant.1 in
    let here = c.in-Some.ensures in
    sym (inv.2 ∙ held_hit inv.0 _ _ _ inv.1 here.inside (same_of _ _ here c.eq.ensures c.if-eq.true))

pub loop-held-preserved : goal.loop-held-preserved
loop-held-preserved c =
    let inv = c.loop-held.invariant.1 in
    let here = c.in-Some.ensures in
    let next = held_more inv.0 _ c.loop-held.i _ inv.1 here.inside (same_of _ _ here c.eq.ensures c.if-eq.false) in
    rw here.next (here.inside, (next.0, next.1, inv.2 ∙ next.2))

pub returns : goal.returns
returns c = let inv = c.loop-held.invariant.1 in sym (inv.2 ∙ held_stop inv.0 _ _ _ c.in_default.ensures)
