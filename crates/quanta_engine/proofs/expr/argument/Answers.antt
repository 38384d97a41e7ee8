-- `quanta_engine::expr::argument` meets its contract: a `,`, or what `closing` ensures.
-- Assumes nothing.
use mathlib.Core.Path.{sym, ◌∙◌}
use Rattle.quanta_engine.proofs.Shut.{more_turn}
use Rattle.quanta_engine.proofs.expr.argument.Goals as goal

pub returns : goal.returns
returns c =
    more_turn c.requires.0 c.requires.1 (sym c.peek.ensures ∙ c.if-peek-ne-COMMA.false) c.bump.ensures
    c.expecting.ensures
