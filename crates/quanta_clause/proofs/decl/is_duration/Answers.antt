-- `quanta_clause::decl::is_duration` meets its contract.
-- Assumes nothing.
use mathlib.Core.Path.{sym, ◌∙◌}
use borrow.Author.Tests.{ne_eqb}
use Rattle.quanta_token.specs.TokenKind.{code, Int}
use Rattle.quanta_grammar.specs.Refine.{text}
use Rattle.quanta_clause.proofs.Units.{no_duration, some_duration}
use Rattle.quanta_clause.proofs.decl.is_duration.Goals as goal

pub returns-then-peek-eq-INT : goal.returns-then-peek-eq-INT
returns-then-peek-eq-INT c = λ e.
    let int = sym c.peek.ensures ∙ c.if-peek-eq-INT.true in
    some_duration (text e c.args.src.now) c.args.tokens.now c.args.at.0 int c.bump.ensures (c.is_unit.ensures e)

pub returns-else-peek-eq-INT : goal.returns-else-peek-eq-INT
returns-else-peek-eq-INT c = λ e.
    let src = text e c.args.src.now in
    ne_eqb c.peek.result (code Int) c.if-peek-eq-INT.false
    ∙ no_duration src c.args.tokens.now c.args.at.0 (λ z. c.if-peek-eq-INT.false (c.peek.ensures ∙ z))
