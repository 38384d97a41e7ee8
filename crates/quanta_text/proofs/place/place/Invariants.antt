use Rattle.quanta_text.proofs.PlaceLaws.{Counted}
use Rattle.quanta_text.proofs.place.place.Given as goal

abbrev pub invariant-loop-c : goal.invariant-loop-c
invariant-loop-c l = Counted l.src l.c-index l.feeds l.since
