-- `quanta_clause::decl::name_clause` meets its contract.
-- Assumes nothing.
use Rattle.quanta_cursor.proofs.Meeting.{took, fails}
use Rattle.quanta_clause.proofs.Clauses.{name_bad, name_took}
use Rattle.quanta_clause.proofs.decl.name_clause.Goals as goal

pub returns-in_err-asset : goal.returns-in_err-asset
returns-in_err-asset c = λ src a.
    fails c.from_residual.ensures.1 (name_bad src a c.bump.ensures c.requires c.expect_ident.ensures c.in_err-asset.was)

pub returns : goal.returns
returns c = λ src a.
    took (name_took src a c.bump.ensures c.requires c.expect_ident.ensures c.in_ok-asset.was c.end_clause.ensures)
