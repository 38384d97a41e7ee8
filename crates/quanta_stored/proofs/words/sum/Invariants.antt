-- The words so far make the sum.
-- Assumes nothing.
use Rattle.std.proofs.Common.{◌≡◌, ◌<◌, take}
use Rattle.quanta_stored.specs.Words.{sum_of}
use Rattle.quanta_stored.proofs.words.sum.Given as goal

abbrev pub invariant-loop-word : goal.invariant-loop-word
invariant-loop-word l = record { made : l.sum ≡ sum_of (take l.word-index l.words); fits : l.sum < 4294967291 }
