-- `quanta_clause::decl::first_name` meets its contract.
-- Assumes nothing.
use Rattle.quanta_clause.proofs.Clauses.{first_unopened, first_inside}
use Rattle.quanta_clause.proofs.decl.first_name.Goals as goal

pub returns-in_err-inside : goal.returns-in_err-inside
returns-in_err-inside c = first_unopened c.expect.ensures c.in_err-inside.was c.from_residual.ensures.1

pub returns : goal.returns
returns c = first_inside c.expect.ensures c.in_ok-inside.was c.expect_ident.ensures
