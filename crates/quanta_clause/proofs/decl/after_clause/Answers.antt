-- `quanta_clause::decl::after_clause` meets its contract.
-- Assumes nothing.
use mathlib.Core.Path.{sym, ◌∙◌}
use native.Mathlib.Omega.{arith}
use Rattle.quanta_token.specs.declared.edition.Edition.TheVariants.{One}
use Rattle.quanta_grammar.specs.Productions.{expr}
use Rattle.quanta_grammar.specs.Refine.{text}
use Rattle.quanta_cursor.proofs.Places.{took_ready}
use Rattle.quanta_cursor.proofs.Meeting.{took, took_of, failed_of, fails}
use Rattle.quanta_clause.proofs.Clauses.{target_of_lem, untargeted, after_bad, target_ready, target_few}
use Rattle.quanta_clause.proofs.Clauses.{after_plain, from_past, from_bad, from_took}
use Rattle.quanta_clause.proofs.decl.after_clause.Goals as goal

pub peek-requires : goal.peek-requires
peek-requires c =
    let target = target_of_lem (c.after_target.ensures One) c.in_ok-target.was in
    (target_ready (text One c.args.src.now) c.args.allowance c.bump.ensures c.requires target).inside

pub end_after-requires : goal.end_after-requires
end_after-requires c =
    let target = target_of_lem (c.after_target.ensures One) c.in_ok-target.was in
    (c.requires.0.inside, target_ready (text One c.args.src.now) c.args.allowance c.bump.ensures c.requires target)

pub returns-then-peek-ne-FROM : goal.returns-then-peek-ne-FROM
returns-then-peek-ne-FROM c = λ e.
    let target = target_of_lem (c.after_target.ensures e) c.in_ok-target.was in
    took (after_plain (text e c.args.src.now) c.args.allowance c.bump.ensures c.requires target
    (λ z. c.if-peek-ne-FROM.true (c.peek.ensures ∙ z)) c.end_after.ensures)

pub expr-requires : goal.expr-requires
expr-requires c =
    let target = target_of_lem (c.after_target.ensures One) c.in_ok-target.was in
    let next = sym c.peek.ensures ∙ c.if-peek-ne-FROM.false in
    from_past (text One c.args.src.now) c.args.allowance c.bump.ensures c.requires target next c.bump-2.ensures

pub overflow_add-target : goal.overflow_add-target
overflow_add-target c =
    let target = target_of_lem (c.after_target.ensures One) c.in_ok-target.was in
    omega (arith, (target_few (text One c.args.src.now) c.args.allowance c.bump.ensures c.requires target).0)

pub overflow_add-target-2 : goal.overflow_add-target-2
overflow_add-target-2 c =
    let src = text One c.args.src.now in
    let target = target_of_lem (c.after_target.ensures One) c.in_ok-target.was in
    let z = target_ready src c.args.allowance c.bump.ensures c.requires target in
    let y = target_few src c.args.allowance c.bump.ensures c.requires target in
    omega (arith, y.1, z.fits, z.inside, z.closed.few)

pub end_after-requires-2 : goal.end_after-requires-2
end_after-requires-2 c =
    let src = text One c.args.src.now in
    let target = target_of_lem (c.after_target.ensures One) c.in_ok-target.was in
    let next = sym c.peek.ensures ∙ c.if-peek-ne-FROM.false in
    let behind = from_past src c.args.allowance c.bump.ensures c.requires target next c.bump-2.ensures in
    (c.requires.0.inside, took_ready src expr c.args.allowance behind (took_of c.in_ok-from.was (c.expr.ensures src)))

pub returns-in_err-target : goal.returns-in_err-target
returns-in_err-target c = λ e.
    let bad = untargeted (c.after_target.ensures e) c.in_err-target.was in
    fails c.from_residual.ensures.1 (after_bad (text e c.args.src.now) c.args.allowance c.bump.ensures c.requires bad)

pub returns-in_err-from : goal.returns-in_err-from
returns-in_err-from c = λ e.
    let src = text e c.args.src.now in
    let target = target_of_lem (c.after_target.ensures e) c.in_ok-target.was in
    let next = sym c.peek.ensures ∙ c.if-peek-ne-FROM.false in
    let bad = failed_of c.in_err-from.was (c.expr.ensures src) in
    fails c.from_residual-in_err-from.ensures.1
    (from_bad src c.args.allowance c.bump.ensures c.requires target next c.bump-2.ensures bad)

pub returns : goal.returns
returns c = λ e.
    let src = text e c.args.src.now in
    let target = target_of_lem (c.after_target.ensures e) c.in_ok-target.was in
    let next = sym c.peek.ensures ∙ c.if-peek-ne-FROM.false in
    let value = took_of c.in_ok-from.was (c.expr.ensures src) in
    took (from_took src c.args.allowance c.bump.ensures c.requires target next c.bump-2.ensures value
    c.end_after-2.ensures)
