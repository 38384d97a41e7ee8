use Rattle.quanta_source.specs.Source.{bare_at}
use Rattle.quanta_source.proofs.source.bare_at.Goals as goal

pub returns : goal.returns
unfolding bare_at
returns c = rw (c.is_bare.ensures, c.peek.ensures, c.peek-2.ensures)
