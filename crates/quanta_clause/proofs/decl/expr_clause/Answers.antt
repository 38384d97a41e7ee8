-- `quanta_clause::decl::expr_clause` meets its contract.
-- Assumes nothing.
use Rattle.quanta_grammar.specs.Productions.{expr}
use Rattle.quanta_grammar.specs.Refine.{blank}
use Rattle.quanta_cursor.proofs.Places.{took_ready}
use Rattle.quanta_cursor.proofs.Meeting.{took, took_of, failed_of, fails}
use Rattle.quanta_clause.proofs.Clauses.{expr_past, expr_bad, expr_took}
use Rattle.quanta_clause.proofs.decl.expr_clause.Goals as goal

pub end_clause-requires : goal.end_clause-requires
end_clause-requires c =
    let value = took_of c.in_ok-value.was (c.expr.ensures blank) in
    (c.requires.0.inside, took_ready blank expr c.args.allowance (expr_past c.bump.ensures c.requires) value)

pub returns-in_err-value : goal.returns-in_err-value
returns-in_err-value c = λ src.
    let bad = failed_of c.in_err-value.was (c.expr.ensures src) in
    fails c.from_residual.ensures.1 (expr_bad src c.args.allowance c.bump.ensures c.requires bad)

pub returns : goal.returns
returns c = λ src.
    let value = took_of c.in_ok-value.was (c.expr.ensures src) in
    took (expr_took src c.args.allowance c.bump.ensures c.requires value c.end_clause.ensures)
