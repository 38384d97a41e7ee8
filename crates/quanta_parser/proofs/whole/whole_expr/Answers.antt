-- `quanta_parser::whole::whole_expr` meets its contract.
-- Assumes nothing.
use Rattle.quanta_grammar.specs.Refine.{blank}
use Rattle.quanta_parser.proofs.Wholes.{expr_call_lem, fails_whole, whole_bad, whole_inside, whole_ends}
use Rattle.quanta_parser.proofs.whole.whole_expr.Goals as goal

pub expr-requires : goal.expr-requires
expr-requires c = c.requires

pub returns-in_err-expr : goal.returns-in_err-expr
returns-in_err-expr c = λ src.
    fails_whole c.from_residual.ensures.1 (whole_bad expr_call_lem src c.requires (c.expr.ensures src) c.in_err-expr.was)

pub to_the_end-requires : goal.to_the_end-requires
to_the_end-requires c = whole_inside expr_call_lem blank c.requires (c.expr.ensures blank) c.in_ok-expr.was

pub returns : goal.returns
returns c = λ src. whole_ends expr_call_lem src c.requires (c.expr.ensures src) c.in_ok-expr.was c.to_the_end.ensures
