-- `quanta_item::decl::contract_item` meets its contract.
-- Assumes nothing.
use Rattle.quanta_grammar.specs.Refine.{text}
use mathlib.Core.Path.{◌∙◌}
use Rattle.quanta_cursor.proofs.Meeting.{failed}
use Rattle.quanta_item.proofs.Items.{no_item}
use Rattle.quanta_item.proofs.decl.contract_item.Goals as goal

pub returns-in_default : goal.returns-in_default
returns-in_default c =
    failed (no_item (text c.args.edition c.args.src.now) c.args.tokens.now c.args.allowance c.requires (
      λ z.
          c.in_default.in_default-own.rest.0.0.0.0.0.1 (c.peek.ensures ∙ z),
      (
        λ z.
            c.in_default.in_default-own.rest.0.0.0.0.1 (c.peek.ensures ∙ z),
        (
          λ z. c.in_default.in_default-own.rest.0.0.0.1
              (c.peek.ensures ∙ z),
          (
            λ z. c.in_default.in_default-own.rest.0.0.1 (c.peek.ensures ∙ z),
            (
              λ z.
                  c.in_default.in_default-own.rest.0.1 (c.peek.ensures ∙ z),
              (
                λ z. c.in_default.in_default-own.rest.1
                    (c.peek.ensures ∙ z),
                tt,
              ),
            ),
          ),
        ),
      ),
    ) c.err.ensures)
