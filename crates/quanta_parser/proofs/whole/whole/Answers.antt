-- `quanta_parser::whole::whole` meets its contract: the two calls that read no source.
-- Assumes nothing.
use Rattle.quanta_grammar.specs.Refine.{text}
use Rattle.quanta_parser.proofs.whole.whole.Goals as goal

pub returns-in-Stmt : goal.returns-in-Stmt
returns-in-Stmt c = rw c.in-Stmt.is (c.whole_stmt.ensures (text c.args.edition c.args.src.now))

pub returns-in-Expr : goal.returns-in-Expr
returns-in-Expr c = rw c.in-Expr.is (c.whole_expr.ensures (text c.args.edition c.args.src.now))
