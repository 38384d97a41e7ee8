-- `quanta::export::quanta_place` meets its contract.
-- Assumes nothing.
use mathlib.Core.Path.{ap}
use Rattle.quanta_text.specs.declared.place.LineColumn.{LineColumn}
use Rattle.quanta.proofs.export.quanta_place.Goals as goal

pub returns : goal.returns
returns c = (ap (λ (p : LineColumn). p.line) c.place-at.ensures, ap (λ (p : LineColumn). p.column) c.place-at.ensures)
