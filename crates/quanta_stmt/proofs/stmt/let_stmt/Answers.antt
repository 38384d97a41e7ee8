-- `quanta_stmt::stmt::let_stmt` meets its contract.
-- Assumes nothing.
use Rattle.quanta_grammar.specs.Productions.{expr}
use Rattle.quanta_cursor.proofs.Places.{ready_small}
use Rattle.quanta_cursor.proofs.Meeting.{took_of, failed_of, fails}
use Rattle.quanta_stmt.proofs.Standing.{phrase_ready}
use Rattle.quanta_stmt.proofs.Keywords.{let_value, let_unnamed, let_unset, let_bad, let_met}
use Rattle.quanta_stmt.proofs.stmt.let_stmt.Goals as goal

pub close_semi-requires : goal.close_semi-requires
close_semi-requires c =
    let name = c.expect_ident.ensures in
    let behind = let_value c.bump.ensures c.requires name c.in_ok-name.was c.expect.ensures c.in_ok-next.was in
    (phrase_ready behind expr c.args.allowance c.expr.ensures c.in_ok-value.was, ready_small c.requires.0)

pub returns-in_err-name : goal.returns-in_err-name
returns-in_err-name c = λ src.
    fails c.from_residual.ensures.1
    (let_unnamed src c.args.allowance c.bump.ensures c.requires c.expect_ident.ensures c.in_err-name.was)

pub returns-in_err-next : goal.returns-in_err-next
returns-in_err-next c = λ src.
    fails c.from_residual-in_err-next.ensures.1
    (let_unset src c.args.allowance c.bump.ensures c.requires c.expect_ident.ensures c.in_ok-name.was
    c.expect.ensures c.in_err-next.was)

pub returns-in_err-value : goal.returns-in_err-value
returns-in_err-value c = λ src.
    fails c.from_residual-in_err-value.ensures.1
    (let_bad src c.args.allowance c.bump.ensures c.requires c.expect_ident.ensures c.in_ok-name.was
    c.expect.ensures c.in_ok-next.was (failed_of c.in_err-value.was (c.expr.ensures src)))

pub returns : goal.returns
returns c = λ src.
    let_met src c.args.allowance c.bump.ensures c.requires c.expect_ident.ensures c.in_ok-name.was
    c.expect.ensures c.in_ok-next.was (took_of c.in_ok-value.was (c.expr.ensures src))
    c.peek_span.ensures c.close_semi.ensures
