-- `quanta_type::text::is_of` meets its contract.
-- Assumes nothing.
use mathlib.Core.Path.{refl, sym, ◌∙◌}
use Rattle.quanta_grammar.specs.Refine.{text}
use Rattle.quanta_type.proofs.Words.{of_word, not_of}
use Rattle.quanta_type.proofs.text.is_of.Goals as goal

pub returns-then-peek-ne-IDENT : goal.returns-then-peek-ne-IDENT
returns-then-peek-ne-IDENT c = λ e. not_of (text e c.args.src.now) c.args.tokens.now c.args.at.0 (λ z. c.if-peek-ne-IDENT.true (c.peek.ensures ∙ z)) (c.requires.0.known c.args.at.0 c.requires.1).1

pub returns : goal.returns
returns c = λ e. of_word (text e c.args.src.now) c.args.tokens.now c.args.at.0 (sym c.peek.ensures ∙ c.if-peek-ne-IDENT.false) c.peek_span-span.ensures refl refl c.part.ensures c.same.ensures
