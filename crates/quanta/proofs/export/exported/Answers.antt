-- `quanta::export::exported` meets its contract: 29, or the call in the edition that was named.
-- Assumes nothing.
use Rattle.quanta_reading.proofs.Conforming.{call_of}
use Rattle.quanta_reading.proofs.Numbers.{fits}
use Rattle.quanta_reading.proofs.Exporting.{known, no_such}
use Rattle.quanta.proofs.export.exported.Goals as goal

pub numbers_of-requires : goal.numbers_of-requires
numbers_of-requires c = fits (call_of c.args.call) c.made-answer.ensures.0

pub returns-in-Err : goal.returns-in-Err
returns-in-Err c = no_such c.in-Err.is c.try_from.ensures c.unknown_edition.ensures

pub returns-in-Ok : goal.returns-in-Ok
returns-in-Ok c =
    known c.in-Ok.is c.try_from.ensures
    (c.made-answer.result, c.numbers_of.ensures, c.made-answer.ensures.0, c.made-answer.ensures.1)
