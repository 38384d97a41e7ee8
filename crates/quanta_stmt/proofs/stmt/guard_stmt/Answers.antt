-- `quanta_stmt::stmt::guard_stmt` meets its contract.
-- Assumes nothing.
use Rattle.quanta_grammar.specs.Productions.{expr}
use Rattle.quanta_cursor.proofs.Places.{ready_small}
use Rattle.quanta_cursor.proofs.Meeting.{took_of, failed_of, fails}
use Rattle.quanta_stmt.proofs.Standing.{phrase_ready}
use Rattle.quanta_stmt.proofs.Keywords.{guard_value, guard_bad, guard_met}
use Rattle.quanta_stmt.proofs.stmt.guard_stmt.Goals as goal

pub close_semi-requires : goal.close_semi-requires
close_semi-requires c =
    let behind = guard_value c.bump.ensures c.requires in
    (phrase_ready behind expr c.args.allowance c.expr.ensures c.in_ok-value.was, ready_small c.requires.0)

pub returns-in_err-value : goal.returns-in_err-value
returns-in_err-value c = λ src.
    let bad = failed_of c.in_err-value.was (c.expr.ensures src) in
    fails c.from_residual.ensures.1 (guard_bad src c.args.allowance c.bump.ensures c.requires bad)

pub returns : goal.returns
returns c = λ src.
    let value = took_of c.in_ok-value.was (c.expr.ensures src) in
    guard_met src c.args.allowance c.bump.ensures c.requires value c.peek_span.ensures c.close_semi.ensures
