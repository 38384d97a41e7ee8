use mathlib.Core.List.{[], ◌∷◌}
use Rattle.utf8.specs.Utf8.{◌to◌}
use Rattle.utf8.proofs.Laws.{grown, stopped}
use Rattle.utf8.proofs.two.Goals as goal

pub returns-then-octet : goal.returns-then-octet
returns-then-octet c =
    let a = c.args in
    grown (a.low to a.high ∷ []) (a.low2 to a.high2) a.s.now a.i c.if-octet.true c.octet.ensures c.octet-then-octet.ensures

pub returns-else-octet : goal.returns-else-octet
returns-else-octet c =
    let a = c.args in
    stopped (a.low to a.high ∷ []) (a.low2 to a.high2) a.s.now a.i c.if-octet.false c.octet.ensures
