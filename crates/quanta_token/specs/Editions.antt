-- The editions of the reading rules by number.
-- Assumes nothing.
use Rattle.std.specs.Prelude.{cond, ℕ, eqb, Result, Ok, Err}
use Rattle.quanta_token.specs.declared.edition.Edition.{Edition}
use Rattle.quanta_token.specs.declared.edition.Edition.TheVariants.{One, Two}
use Rattle.quanta_token.specs.declared.edition.UnknownEdition.{UnknownEdition}

-- 1 and 2 are editions, and no other number is
unfoldable pub edition_of : ℕ → Result Edition UnknownEdition
edition_of n = cond (eqb n 1) (Ok One) (cond (eqb n 2) (Ok Two) (Err (record {})))
