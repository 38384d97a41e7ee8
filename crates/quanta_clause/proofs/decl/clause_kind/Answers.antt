-- `quanta_clause::decl::clause_kind` meets its contract: no keyword of the table is left.
-- Assumes nothing.
use mathlib.Core.Path.{sym}
use native.Mathlib.Omega.{arith}
use Rattle.quanta_clause.specs.Clauses.{clause_kinds}
use Rattle.quanta_clause.proofs.Clauses.{kind_none}
use Rattle.quanta_clause.proofs.decl.clause_kind.Goals as goal

pub returns-in_default : goal.returns-in_default
returns-in_default c = sym (kind_none clause_kinds c.args.keyword (grind arith))
