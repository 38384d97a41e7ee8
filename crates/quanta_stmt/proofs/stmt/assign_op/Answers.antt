-- `quanta_stmt::stmt::assign_op` meets its contract, arm by arm.
-- Assumes nothing.
use mathlib.Core.Path.{refl}
use native.Mathlib.Omega.{arith}
use Rattle.quanta_token.specs.TokenKind.{code, Eq, PlusEq, MinusEq}
use Rattle.quanta_stmt.proofs.Assigning.{assign_is, assign_none}
use Rattle.quanta_stmt.proofs.stmt.assign_op.Goals as goal

pub returns-in-44 : goal.returns-in-44
returns-in-44 c = assign_is (code Eq) c.in-44.is (tt, refl)

pub returns-in-45 : goal.returns-in-45
returns-in-45 c = assign_is (code PlusEq) c.in-45.is (tt, refl)

pub returns-in-46 : goal.returns-in-46
returns-in-46 c = assign_is (code MinusEq) c.in-46.is (tt, refl)

pub returns-in_default : goal.returns-in_default
returns-in_default c = assign_none {k = c.args.kind} (grind arith)
