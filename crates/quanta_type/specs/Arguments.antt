-- A type's arguments, as two parts of a production.
-- Assumes nothing.
use Rattle.std.specs.Prelude.{List, ℕ}
use Rattle.grammar.specs.Grammar.{Tok}
use Rattle.grammar.specs.Records.{Acc, apart, fresh, beside}
use Rattle.grammar.specs.Fused.{Outcome}
use Rattle.grammar.proofs.Fuse.{onward}
use Rattle.quanta_grammar.specs.Productions.{type_arg, more_type_args}
use Rattle.quanta_grammar.specs.Reading.{reads}

-- what comes of a type's arguments on top of x: one, and those behind commas after it
abbrev pub arguments : ℕ → List Tok → Acc → Outcome
arguments a ts x = onward (reads type_arg a ts fresh) (λ y r. reads more_type_args a r (beside apart x y))
