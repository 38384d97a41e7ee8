use Rattle.utf8.specs.Utf8.{◌to◌}
use Rattle.utf8.proofs.Laws.{octet_in, octet_past}
use Rattle.utf8.proofs.octet.Goals as goal

pub returns-in-Some : goal.returns-in-Some
returns-in-Some c =
    let h = c.in-Some.ensures.lookup.3 in
    rw (h.1 0) (octet_in (c.args.low to c.args.high) _ _ h.0)

pub returns-in-None : goal.returns-in-None
returns-in-None c = octet_past (c.args.low to c.args.high) _ _ c.in-None.ensures.lookup.3
