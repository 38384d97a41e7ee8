-- What is made of the parser's answer.
-- Assumes nothing.
use Rattle.std.specs.Prelude.{List, ◌++◌, ℕ, ◌-◌, ◌*◌, ◌/◌, ltb, length, take, replicate, Err, Ok, Result}
use Rattle.quanta_reading.specs.declared.answer.Failure.TheVariants.{Syntax}
use Rattle.quanta_reading.specs.Reading.{Answer, in_room}
use Rattle.quanta_cursor.specs.declared.parser.Node.{Node}
use Rattle.quanta_cursor.specs.declared.parser.Refusal.{Refusal}

-- the parser's answer of n tokens, over a tree of so many words
abbrev pub ended : ℕ → ℕ → Result Node Refusal → Answer
ended words n (Ok r) = in_room (ltb (words / 6) r.no.0) n r.no.0
ended words n (Err e) = Err (Syntax e)

-- the tree's words t behind an answer: accepted records stay, all other words are 0
abbrev pub kept : List ℕ → Answer → List ℕ
kept t (Ok c) = take (6 * c.records) t ++ replicate (length t - 6 * c.records) 0
kept t (Err f) = replicate (length t) 0
