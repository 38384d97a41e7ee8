use Rattle.quanta_source.proofs.Bytes.{barred_by_bytes}
use Rattle.quanta_source.proofs.source.barred_at.Goals as goal

pub returns : goal.returns
returns c = rw (barred_by_bytes, c.is_barred.ensures, c.is_mark.ensures, c.peek-c.ensures, c.peek-d.ensures, c.peek-e.ensures)
