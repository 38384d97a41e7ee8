-- `quanta_clause::decl::after_target` meets its contract: a duration or an expression.
-- Assumes nothing.
use mathlib.Core.Path.{refl}
use mathlib.Core.Bool.{false}
use Rattle.quanta_token.specs.declared.edition.Edition.TheVariants.{One}
use Rattle.quanta_grammar.specs.Refine.{text}
use Rattle.quanta_cursor.proofs.Meeting.{took_of, failed_of}
use Rattle.quanta_clause.proofs.Clauses.{target_is, target_true, target_bad, unit_ready, duration_target, value_took}
use Rattle.quanta_clause.proofs.decl.after_target.Goals as goal

pub leaf-unit-requires : goal.leaf-unit-requires
leaf-unit-requires c =
    let src = text One c.args.src.now in
    let here = target_true src c.args.tokens.now c.args.at.0 (c.is_duration.ensures One) c.if-is_duration.true in
    unit_ready src c.args.tokens.now c.requires here c.leaf-value.ensures.0

pub returns-then-is_duration : goal.returns-then-is_duration
returns-then-is_duration c = λ e.
    duration_target c.requires (c.is_duration.ensures e) c.if-is_duration.true c.leaf-value.ensures.0
    c.leaf-unit.ensures.0 c.leaf-value.ensures.1 c.leaf-unit.ensures.1 c.join.ensures refl

pub returns-in_err-value : goal.returns-in_err-value
returns-in_err-value c = λ e.
    let bad = failed_of c.in_err-value.was (c.expr.ensures (text e c.args.src.now)) in
    target_bad (c.is_duration.ensures e) c.if-is_duration.false c.from_residual.ensures.1 bad

pub returns : goal.returns
returns c = λ e.
    let value = took_of c.in_ok-value.was (c.expr.ensures (text e c.args.src.now)) in
    target_is false (c.is_duration.ensures e) c.if-is_duration.false (value_took value)
