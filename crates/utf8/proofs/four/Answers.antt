use mathlib.Core.List.{[], ◌∷◌}
use Rattle.utf8.specs.Utf8.{◌to◌, tail}
use Rattle.utf8.proofs.Laws.{grown, stopped}
use Rattle.utf8.proofs.four.Goals as goal

pub returns-then-three : goal.returns-then-three
returns-then-three c =
    let a = c.args in
    grown (a.low to a.high ∷ a.low2 to a.high2 ∷ tail ∷ []) tail a.s.now a.i
    c.if-three.true c.three.ensures c.octet.ensures

pub returns-else-three : goal.returns-else-three
returns-else-three c =
    let a = c.args in
    stopped (a.low to a.high ∷ a.low2 to a.high2 ∷ tail ∷ []) tail a.s.now a.i c.if-three.false c.three.ensures
