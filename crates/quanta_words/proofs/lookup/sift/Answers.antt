use Prim.Native.Nat.{suc, ◌<◌}
use mathlib.Core.Path.{refl, ap, ◌∙◌}
use lib.ListN.{length, length-set}
use native.Mathlib.Omega.{arith}
use Rattle.quanta_words.specs.Lookup.{key_of}
use Rattle.quanta_words.proofs.WordLaws.{held_all, held_stop}
use Rattle.quanta_words.proofs.LookupLaws.{sift_more}
use Rattle.quanta_words.proofs.lookup.sift.Goals as goal

pub loop-word-init : goal.loop-word-init
loop-word-init c = (omega arith, refl, (suc (length c.args.table.now), omega arith, λ w z. held_all _ _))

pub loop-word-preserved : goal.loop-word-preserved
loop-word-preserved c =
    let inv = c.loop-word.invariant in
    let here = c.in-Some.ensures in
    let at = c.key.ensures.value ∙ ap key_of here.is in
    let small : c.key.result < length c.loop-word.seen = omega (arith, inv.1, c.key.ensures.small) in
    let next = sift_more inv.2.0 _ c.loop-word.seen c.loop-word.i _ inv.2.1 inv.0 here.inside at small inv.2.2 in
    rw here.next (here.inside, simp length-set inv.1, (next.0, next.1, next.2))

pub returns : goal.returns
returns c w z =
    let inv = c.loop-word.invariant.2 in
    inv.2 w z ∙ held_stop inv.0 _ _ w c.in_default.ensures
