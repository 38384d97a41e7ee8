-- The sum of words, and what a buffer is spoilt with.
use Rattle.std.specs.Prelude.{ℕ, ◌+◌, ◌*◌, ◌%◌, List, fold}

-- a sum with one word more
abbrev pub added : ℕ → ℕ → ℕ
added s w = (65599 * s + w) % 4294967291

abbrev pub sum_of : List ℕ → ℕ
sum_of = fold added 1

-- no word that a call leaves in a buffer
abbrev pub RUBBISH : ℕ
RUBBISH = 2779096485
