-- `quanta_stmt::stmt::is_lvalue` meets its contract, arm by arm.
-- Assumes nothing.
use mathlib.Core.Logic.{⊎_elim}
use native.Mathlib.Omega.{arith}
use Rattle.quanta_grammar.specs.NodeKind.{node_code, name_node, access_node}
use Rattle.quanta_stmt.proofs.Assigning.{is_target_lem, not_target}
use Rattle.quanta_stmt.proofs.stmt.is_lvalue.Goals as goal

pub returns-in-27 : goal.returns-in-27
returns-in-27 c =
    ⊎_elim (λ z. is_target_lem (node_code name_node) z tt) (λ z. is_target_lem (node_code access_node) z tt) c.in-27.is

pub returns-in_default : goal.returns-in_default
returns-in_default c = not_target {k = c.args.kind} (grind arith)
