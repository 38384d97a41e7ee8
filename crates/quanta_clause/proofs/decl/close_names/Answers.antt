-- `quanta_clause::decl::close_names` meets its contract.
-- Assumes nothing.
use mathlib.Core.Path.{ap, ◌∙◌}
use Rattle.quanta_clause.specs.Clauses.{clause_kind}
use Rattle.quanta_cursor.proofs.Under.{closes_as}
use Rattle.quanta_clause.proofs.Clauses.{closes_kind}
use Rattle.quanta_clause.proofs.decl.close_names.Goals as goal

pub returns : goal.returns
returns c =
    let kind = c.clause_kind.ensures ∙ ap clause_kind c.peek.ensures in
    closes_as c.peek_span.ensures (closes_kind _ kind c.close.ensures)
