use Prim.Native.Nat.{suc}
use mathlib.Core.Path.{refl, sym, ◌∙◌}
use lib.ListN.{length}
use native.Mathlib.Omega.{arith}
use Rattle.quanta_words.specs.Words.{bad_in}
use Rattle.quanta_words.proofs.WordLaws.{bad_stop, bad_more}
use Rattle.quanta_words.proofs.words.check_words.Goals as goal

pub loop-word-init : goal.loop-word-init
unfolding bad_in
loop-word-init c = (omega arith, (suc (length c.args.table.now), omega arith, refl))

pub loop-word-preserved : goal.loop-word-preserved
loop-word-preserved c =
    let inv = c.loop-word.invariant.1 in
    let here = c.in-Some.ensures in
    let next = bad_more inv.0 _ c.loop-word.i inv.1 here.1.inside here.0 in
    rw here.1.next (here.1.inside, (next.0, next.1, inv.2 ∙ next.2))

pub returns : goal.returns
returns c = let inv = c.loop-word.invariant.1 in sym (inv.2 ∙ bad_stop inv.0 _ _ c.in_default.ensures)
