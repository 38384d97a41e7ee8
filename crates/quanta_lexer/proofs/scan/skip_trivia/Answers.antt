use mathlib.Core.Path.{refl, sym, ◌∙◌}
use native.Mathlib.Omega.{arith}
use Rattle.quanta_token.proofs.RunLaws.{end_bounds}
use Rattle.quanta_lexer.proofs.TriviaLaws.{turn_stop, turn_more}
use Rattle.quanta_lexer.proofs.scan.skip_trivia.Goals as goal

pub loop-i-init : goal.loop-i-init
loop-i-init c = (c.requires, refl)

pub run_end-i-requires : goal.run_end-i-requires
run_end-i-requires c = c.loop-i.invariant.0

pub is_comment_at-requires : goal.is_comment_at-requires
is_comment_at-requires c = (end_bounds _ _ _ _ c.loop-i.invariant.0 c.run_end-i.ensures).1

pub returns-then-not-is_comment_at : goal.returns-then-not-is_comment_at
returns-then-not-is_comment_at c =
    let none = sym c.is_comment_at.ensures ∙ c.if-not-is_comment_at.true in
    sym (c.loop-i.invariant.1 ∙ turn_stop _ _ _ c.run_end-i.ensures none)

pub run_end-i-requires-in-loop-i : goal.run_end-i-requires-in-loop-i
run_end-i-requires-in-loop-i c = (end_bounds _ _ _ _ c.loop-i.invariant.0 c.run_end-i.ensures).1

pub loop-i-smaller : goal.loop-i-smaller
loop-i-smaller c =
    let comment = sym c.is_comment_at.ensures ∙ c.if-not-is_comment_at.false in
    let t = turn_more _ _ _ _ c.loop-i.invariant.0 c.run_end-i.ensures comment c.run_end-i-in-loop-i.ensures in
    omega (arith, t)

pub loop-i-preserved : goal.loop-i-preserved
loop-i-preserved c =
    let comment = sym c.is_comment_at.ensures ∙ c.if-not-is_comment_at.false in
    let t = turn_more _ _ _ _ c.loop-i.invariant.0 c.run_end-i.ensures comment c.run_end-i-in-loop-i.ensures in
    (t.1, c.loop-i.invariant.1 ∙ t.2)
