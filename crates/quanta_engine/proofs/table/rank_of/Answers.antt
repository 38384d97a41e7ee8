-- `quanta_engine::table::rank_of` meets its contract: the table's rule, in its columns, below and above them.
-- Assumes nothing.
use native.Mathlib.Omega.{arith}
use Rattle.quanta_engine.proofs.Entries.{inside, outside}
use Rattle.quanta_engine.proofs.Tables.{operators, no_operator, ranks_right}
use Rattle.quanta_engine.proofs.table.rank_of.Goals as goal

pub returns-in-47-to-61 : goal.returns-in-47-to-61
returns-in-47-to-61 c =
    let k = c.args.kind in
    inside (λ p. p.0) operators no_operator k (ranks_right k c.requires) (omega arith) (omega arith)

pub returns-in_default : goal.returns-in_default
returns-in_default c =
    let k = c.args.kind in
    outside (λ p. p.0) operators no_operator k (ranks_right k c.requires) (λ l g. omega arith)

pub returns-in_default-2 : goal.returns-in_default-2
returns-in_default-2 c =
    let k = c.args.kind in
    outside (λ p. p.0) operators no_operator k (ranks_right k c.requires) (λ l g. omega arith)
