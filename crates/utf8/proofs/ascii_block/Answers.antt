use mathlib.Core.Path.{◌≡◌, refl, ap, ◌∙◌}
use Prim.Native.Nat.{◌+◌, ◌-◌, ◌<◌}
use native.Mathlib.Omega.{arith}
use lib.ListN.{drop, length-drop}
use Rattle.std.proofs.lemmas.List.{get_or-take, get_or-drop, length-take}
use Rattle.utf8.specs.Block.{ascii, every}
use Rattle.utf8.proofs.Laws.{every_next}
use Rattle.utf8.proofs.ascii_block.Goals as goal

pub loop-c-init : goal.loop-c-init
unfolding every
loop-c-init c = refl

pub loop-c-preserved : goal.loop-c-preserved
loop-c-preserved c =
    let a = c.args in
    let k = c.loop-c.c-index in
    let long = length-take (a.i + 32 - a.i) (drop a.i a.s.now) in
    let inside : k < a.i + 32 - a.i = omega (arith, c.loop-c-test.true, long) in
    every_next _ ascii _ _ c.loop-c.invariant
    (ap ascii (get_or-take (a.i + 32 - a.i) (drop a.i a.s.now) k 0 inside ∙ get_or-drop a.i a.s.now k 0))

pub returns : goal.returns
returns c =
    let a = c.args in
    let long = length-take (a.i + 32 - a.i) (drop a.i a.s.now) in
    let all : c.loop-c.c-index ≡ 32 = omega (arith, long, length-drop a.i a.s.now) in
    c.loop-c.invariant ∙ ap (λ n. every ascii n a.s.now a.i) all
