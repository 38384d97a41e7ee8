use mathlib.Core.List.{[], ◌∷◌}
use Rattle.utf8.specs.Utf8.{◌to◌, tail}
use Rattle.utf8.proofs.Laws.{grown, stopped}
use Rattle.utf8.proofs.three.Goals as goal

pub returns-then-two : goal.returns-then-two
returns-then-two c =
    let a = c.args in
    grown (a.low to a.high ∷ a.low2 to a.high2 ∷ []) tail a.s.now a.i c.if-two.true c.two.ensures c.octet.ensures

pub returns-else-two : goal.returns-else-two
returns-else-two c =
    let a = c.args in
    stopped (a.low to a.high ∷ a.low2 to a.high2 ∷ []) tail a.s.now a.i c.if-two.false c.two.ensures
