-- `quanta_type::ty::int_arg` meets its contract: an integer alone, or m of n.
-- Assumes nothing.
use Rattle.quanta_token.specs.declared.edition.Edition.TheVariants.{One}
use Rattle.quanta_grammar.specs.Refine.{text}
use Rattle.quanta_type.proofs.Types.{type_took, type_fails, arg_alone, arg_ready, arg_bad, arg_took}
use Rattle.quanta_type.proofs.ty.int_arg.Goals as goal

pub returns-then-not-is_of : goal.returns-then-not-is_of
returns-then-not-is_of c = λ e a. type_took (arg_alone (text e c.args.src.now) c.args.tokens.now c.requires.0 c.requires.1 c.leaf-m.ensures.0 a (c.is_of.ensures e) c.if-not-is_of.true c.leaf-m.ensures.1)

pub expect_int-requires : goal.expect_int-requires
expect_int-requires c = arg_ready (text One c.args.src.now) c.args.tokens.now c.requires.0 c.requires.1 c.leaf-m.ensures.0 (c.is_of.ensures One) c.if-not-is_of.false c.bump.ensures

pub returns-in_err-n : goal.returns-in_err-n
returns-in_err-n c = λ e a. type_fails c.from_residual.ensures.1 (arg_bad (text e c.args.src.now) c.args.tokens.now c.requires.0 c.requires.1 c.leaf-m.ensures.0 (c.is_of.ensures e) c.if-not-is_of.false c.bump.ensures c.expect_int.ensures a c.in_err-n.was)

pub returns : goal.returns
returns c = λ e a. type_took (arg_took (text e c.args.src.now) c.args.tokens.now c.requires.0 c.requires.1 c.leaf-m.ensures.0 (c.is_of.ensures e) c.if-not-is_of.false c.bump.ensures c.expect_int.ensures c.in_ok-n.was a c.leaf-m.ensures.1 c.join.ensures c.put_node.ensures.0 c.put_node.ensures.1)
