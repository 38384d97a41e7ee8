use mathlib.Core.Path.{ap, ◌∙◌}
use native.Mathlib.Omega.{arith}
use Rattle.quanta_token.specs.Bytes.{digit}
use Rattle.quanta_token.proofs.ByteLaws.{digit_class}
use Rattle.quanta_lexer.proofs.scan.Lexer.is_digit_at.Goals as goal

pub returns : goal.returns
returns c = rw (c.eq.ensures, c.class.ensures) (digit_class c.peek.result (omega arith) ∙ ap digit c.peek.ensures)
