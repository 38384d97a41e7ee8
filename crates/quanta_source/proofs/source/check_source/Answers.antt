use native.Mathlib.Omega.{arith}
use mathlib.Core.Path.{sym, ◌∙◌}
use Rattle.quanta_source.proofs.Laws.{bare_stops, barred_stops, goes_on, at_end, goes_past}
use Rattle.quanta_source.proofs.source.check_source.Goals as goal

pub loop-i-init : goal.loop-i-init
loop-i-init c = goes_past _ _ c.skip_blocks-i.ensures.within c.skip_blocks-i.ensures.fine

pub returns-then-bare_at : goal.returns-then-bare_at
returns-then-bare_at c =
    sym (c.loop-i.invariant ∙ bare_stops _ _ _ (omega arith) (sym c.bare_at.ensures ∙ c.if-bare_at.true))

pub returns-then-barred_at : goal.returns-then-barred_at
returns-then-barred_at c =
    let bare = sym c.bare_at.ensures ∙ c.if-bare_at.false in
    sym (c.loop-i.invariant ∙ barred_stops _ _ _ (omega arith) bare (sym c.barred_at.ensures ∙ c.if-barred_at.true))

pub loop-i-preserved : goal.loop-i-preserved
loop-i-preserved c =
    let bare = sym c.bare_at.ensures ∙ c.if-bare_at.false in
    let barred = sym c.barred_at.ensures ∙ c.if-barred_at.false in
    c.loop-i.invariant ∙ goes_on _ _ _ _ (omega arith) (bare, barred)

pub returns : goal.returns
returns c = sym (c.loop-i.invariant ∙ at_end _ _ _ (omega arith))
