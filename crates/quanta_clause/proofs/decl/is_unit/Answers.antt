-- `quanta_clause::decl::is_unit` meets its contract.
-- Assumes nothing.
use mathlib.Core.Path.{refl, sym, ◌∙◌}
use Rattle.quanta_grammar.specs.Refine.{text}
use Rattle.quanta_clause.proofs.Units.{unit_word_lem, not_unit}
use Rattle.quanta_clause.proofs.decl.is_unit.Goals as goal

pub returns-then-peek-ne-IDENT : goal.returns-then-peek-ne-IDENT
returns-then-peek-ne-IDENT c = λ e. not_unit (text e c.args.src.now) c.args.tokens.now c.args.at.0 (λ z. c.if-peek-ne-IDENT.true (c.peek.ensures ∙ z)) (c.requires.0.known c.args.at.0 c.requires.1).1

pub returns : goal.returns
returns c = λ e. unit_word_lem (text e c.args.src.now) c.args.tokens.now c.args.at.0 (sym c.peek.ensures ∙ c.if-peek-ne-IDENT.false) c.peek_span-span.ensures refl refl c.part.ensures c.is_duration_unit.ensures
