-- `quanta_stmt::stmt::assign_or_expr_stmt` meets its contract.
-- Assumes nothing.
use mathlib.Core.Path.{refl}
use Rattle.quanta_grammar.specs.Productions.{expr}
use Rattle.quanta_cursor.proofs.Places.{ready_small}
use Rattle.quanta_cursor.proofs.Meeting.{took_of, failed_of, failed, fails}
use Rattle.quanta_stmt.proofs.Standing.{phrase_ready}
use Rattle.quanta_stmt.proofs.Assigning.{assigned, unassigned, assign_ready}
use Rattle.quanta_stmt.proofs.Assigning.{subject_bad, expr_met, no_target, assign_bad, assign_met}
use Rattle.quanta_stmt.proofs.stmt.assign_or_expr_stmt.Goals as goal

pub peek-requires : goal.peek-requires
peek-requires c = (phrase_ready c.requires.0 expr c.args.allowance c.expr.ensures c.in_ok-target.was).inside

pub close_semi-requires : goal.close_semi-requires
close_semi-requires c =
    let target = phrase_ready c.requires.0 expr c.args.allowance c.expr.ensures c.in_ok-target.was in
    (target, ready_small target)

pub expr-requires-2 : goal.expr-requires-2
expr-requires-2 c =
    let target = phrase_ready c.requires.0 expr c.args.allowance c.expr.ensures c.in_ok-target.was in
    let op = assigned c.peek.ensures c.assign_op.ensures c.in-Some.is in
    assign_ready target op.0 c.bump.ensures

pub close_semi-requires-2 : goal.close_semi-requires-2
close_semi-requires-2 c =
    let target = phrase_ready c.requires.0 expr c.args.allowance c.expr.ensures c.in_ok-target.was in
    let op = assigned c.peek.ensures c.assign_op.ensures c.in-Some.is in
    let behind = assign_ready target op.0 c.bump.ensures in
    (phrase_ready behind expr c.args.allowance c.expr-2.ensures c.in_ok-value.was, ready_small target)

pub returns-in_err-target : goal.returns-in_err-target
returns-in_err-target c = λ src.
    let bad = failed_of c.in_err-target.was (c.expr.ensures src) in
    fails c.from_residual.ensures.1 (subject_bad src c.args.allowance c.requires bad)

pub returns-in_default : goal.returns-in_default
returns-in_default c = λ src.
    let target = took_of c.in_ok-target.was (c.expr.ensures src) in
    let none = unassigned c.peek.ensures c.assign_op.ensures c.in_default.is in
    expr_met src c.args.allowance c.requires target none c.close_semi.ensures

pub returns-then-not-is_lvalue : goal.returns-then-not-is_lvalue
returns-then-not-is_lvalue c = λ src.
    let target = took_of c.in_ok-target.was (c.expr.ensures src) in
    let op = assigned c.peek.ensures c.assign_op.ensures c.in-Some.is in
    failed (no_target src c.args.allowance c.requires target op c.is_lvalue.ensures c.if-not-is_lvalue.true refl)

pub returns-in_err-value : goal.returns-in_err-value
returns-in_err-value c = λ src.
    let target = took_of c.in_ok-target.was (c.expr.ensures src) in
    let op = assigned c.peek.ensures c.assign_op.ensures c.in-Some.is in
    let bad = failed_of c.in_err-value.was (c.expr-2.ensures src) in
    fails c.from_residual-in_err-value.ensures.1
    (assign_bad src c.args.allowance c.requires target op c.is_lvalue.ensures c.if-not-is_lvalue.false
    c.bump.ensures bad)

pub returns : goal.returns
returns c = λ src.
    let target = took_of c.in_ok-target.was (c.expr.ensures src) in
    let op = assigned c.peek.ensures c.assign_op.ensures c.in-Some.is in
    let value = took_of c.in_ok-value.was (c.expr-2.ensures src) in
    assign_met src c.args.allowance c.requires target op c.is_lvalue.ensures c.if-not-is_lvalue.false
    c.bump.ensures value c.close_semi-2.ensures
