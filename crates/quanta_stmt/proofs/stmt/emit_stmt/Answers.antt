-- `quanta_stmt::stmt::emit_stmt` meets its contract.
-- Assumes nothing.
use native.Mathlib.Omega.{arith}
use Rattle.quanta_token.specs.TokenKind.{code, RParen}
use Rattle.quanta_grammar.specs.Productions.{args}
use Rattle.quanta_grammar.specs.Refine.{blank}
use Rattle.quanta_cursor.proofs.Places.{ready_small, all_few}
use Rattle.quanta_cursor.proofs.Meeting.{all_of, all_failed_of, fails}
use Rattle.quanta_stmt.proofs.Standing.{list_ready, next_ready}
use Rattle.quanta_stmt.proofs.Keywords.{emit_args}
use Rattle.quanta_stmt.proofs.Keywords.{emit_unnamed, emit_unopened, emit_bad, emit_unclosed, emit_met}
use Rattle.quanta_stmt.proofs.stmt.emit_stmt.Goals as goal

pub expect-requires-2 : goal.expect-requires-2
expect-requires-2 c =
    let name = c.expect_ident.ensures in
    let inner = emit_args c.bump.ensures c.requires name c.in_ok-name.was c.expect.ensures c.in_ok-next.was in
    ((list_ready inner args c.args.allowance c.call_args.ensures c.in_ok-args.was).inside, c.requires.0.closed.few)

pub overflow_add-rec : goal.overflow_add-rec
overflow_add-rec c =
    let name = c.expect_ident.ensures in
    let inner = emit_args c.bump.ensures c.requires name c.in_ok-name.was c.expect.ensures c.in_ok-next.was in
    let y = list_ready inner args c.args.allowance c.call_args.ensures c.in_ok-args.was in
    let z = all_few (all_of c.in_ok-args.was (c.call_args.ensures blank)) in
    omega (arith, z, y.fits, y.inside, y.closed.few)

pub close_semi-requires : goal.close_semi-requires
close_semi-requires c =
    let name = c.expect_ident.ensures in
    let inner = emit_args c.bump.ensures c.requires name c.in_ok-name.was c.expect.ensures c.in_ok-next.was in
    let all = list_ready inner args c.args.allowance c.call_args.ensures c.in_ok-args.was in
    (next_ready all (code RParen) (λ u. u) c.expect-2.ensures c.in_ok-semi.was, ready_small c.requires.0)

pub returns-in_err-name : goal.returns-in_err-name
returns-in_err-name c = λ src.
    fails c.from_residual.ensures.1
    (emit_unnamed src c.args.allowance c.bump.ensures c.requires c.expect_ident.ensures c.in_err-name.was)

pub returns-in_err-next : goal.returns-in_err-next
returns-in_err-next c = λ src.
    fails c.from_residual-in_err-next.ensures.1
    (emit_unopened src c.args.allowance c.bump.ensures c.requires c.expect_ident.ensures c.in_ok-name.was
    c.expect.ensures c.in_err-next.was)

pub returns-in_err-args : goal.returns-in_err-args
returns-in_err-args c = λ src.
    fails c.from_residual-in_err-args.ensures.1
    (emit_bad src c.args.allowance c.bump.ensures c.requires c.expect_ident.ensures c.in_ok-name.was
    c.expect.ensures c.in_ok-next.was (all_failed_of c.in_err-args.was (c.call_args.ensures src)))

pub returns-in_err-semi : goal.returns-in_err-semi
returns-in_err-semi c = λ src.
    fails c.from_residual-in_err-semi.ensures.1
    (emit_unclosed src c.args.allowance c.bump.ensures c.requires c.expect_ident.ensures c.in_ok-name.was
    c.expect.ensures c.in_ok-next.was (all_of c.in_ok-args.was (c.call_args.ensures src))
    c.expect-2.ensures c.in_err-semi.was)

pub returns : goal.returns
returns c = λ src.
    emit_met src c.args.allowance c.bump.ensures c.requires c.expect_ident.ensures c.in_ok-name.was
    c.expect.ensures c.in_ok-next.was (all_of c.in_ok-args.was (c.call_args.ensures src))
    c.expect-2.ensures c.in_ok-semi.was c.peek_span.ensures c.close_semi.ensures
