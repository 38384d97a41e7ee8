-- Each blank that is passed is one blank fewer to be passed.
-- Assumes nothing.
use Rattle.quanta_stored.specs.Lines.{behind}
use Rattle.std.proofs.Common.{ℕ, ◌+◌, ◌-◌, length, drop, length-drop, arith, sym, ap, ◌∙◌}
use Rattle.quanta_stored.proofs.Laws.{passed_all, passed_one, passed_end, tail}
use Rattle.quanta_stored.proofs.line.rest.Goals as goal

pub returns-then-end-rest : goal.returns-then-end-rest
returns-then-end-rest c =
    let end = sym c.find-end.ensures.0 ∙ c.if-end-rest.true in
    passed_end _ _ _ c.loop.invariant.by (omega arith) end

pub loop-preserved : goal.loop-preserved
loop-preserved c =
    let rest = c.loop.rest.now in
    let end = c.find-end.result in
    let left = c.args.no - (c.loop.counter + 1) in
    record {
      few = omega (arith, ap length (tail rest (end + 1)), length-drop (end + 1) rest);
      by =
          ap (behind left) (tail rest (end + 1))
          ∙ ap (λ (k : ℕ). behind left (drop (k + 1) rest)) c.find-end.ensures.0
          ∙ passed_one _ _ _ c.loop.invariant.by left (omega arith);
    }

pub returns : goal.returns
returns c = passed_all _ _ _ c.loop.invariant.by (omega arith)
