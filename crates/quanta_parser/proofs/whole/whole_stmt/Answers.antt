-- `quanta_parser::whole::whole_stmt` meets its contract.
-- Assumes nothing.
use Rattle.quanta_grammar.specs.Refine.{blank}
use Rattle.quanta_parser.proofs.Wholes.{stmt_call_lem, fails_whole, whole_bad, whole_inside, whole_ends}
use Rattle.quanta_parser.proofs.whole.whole_stmt.Goals as goal

pub statement-requires : goal.statement-requires
statement-requires c = c.requires

pub returns-in_err-stmt : goal.returns-in_err-stmt
returns-in_err-stmt c = λ src.
    fails_whole c.from_residual.ensures.1 (whole_bad stmt_call_lem src c.requires (c.statement.ensures src) c.in_err-stmt.was)

pub to_the_end-requires : goal.to_the_end-requires
to_the_end-requires c = whole_inside stmt_call_lem blank c.requires (c.statement.ensures blank) c.in_ok-stmt.was

pub returns : goal.returns
returns c = λ src. whole_ends stmt_call_lem src c.requires (c.statement.ensures src) c.in_ok-stmt.was c.to_the_end.ensures
