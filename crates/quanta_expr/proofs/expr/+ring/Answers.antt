-- The ring's one proof: each reader answers what the grammar's reader gives for its symbol. Each way through a reader
-- cites one law. The measure is 16 for each level of the allowance, and the reader's rank: an expression calls its
-- levels at one allowance less.
-- Assumes nothing.
use native.Mathlib.Omega.{arith}
use mathlib.Core.Path.{refl, sym, ◌∙◌}
use Rattle.quanta_token.specs.TokenKind.{code, LParen, Comma, OrOr, AndAnd, Shr}
use Rattle.quanta_grammar.specs.NodeKind.{unary_node, binary_node}
use Rattle.quanta_grammar.specs.Productions as pr
use Rattle.quanta_grammar.specs.Productions.{operators, prefixes}
use Rattle.quanta_grammar.specs.Refine.{blank}
use Rattle.quanta_cursor.proofs.Sets.{not_one}
use Rattle.quanta_cursor.proofs.Places.{ready_past}
use Rattle.quanta_cursor.proofs.Places.{took_onward, took_ready, ready_behind}
use Rattle.quanta_cursor.proofs.Meeting.{took, failed, fails, took_all, fails_all, took_of, failed_of}
use Rattle.quanta_cursor.proofs.Meeting.{left_of, spent_of, next_of, lacks_of}
use Rattle.quanta_cursor.proofs.Lists.{rolling_in, rolling_on, rolled, arguments}
use Rattle.quanta_cursor.proofs.Lists.{comma_on, comma_bad, comma_stop, took_more}
use Rattle.quanta_expr.proofs.Tables.{op_at, no_op_at, leaf_at, no_leaf_at}
use Rattle.quanta_expr.proofs.Chains.{no_shift, operates}
use Rattle.quanta_expr.proofs.Loops.{level_refused, level_begins, level_ends, level_deep, level_unread, level_folds}
use Rattle.quanta_expr.proofs.Loops.{level_goes, suffixes_refused, suffixes_begin, suffixes_end}
use Rattle.quanta_expr.proofs.Loops.{dot_deep, dot_refused, dot_goes, call_deep}
use Rattle.quanta_expr.proofs.Loops.{args_refused, call_takes, call_refused, call_goes}
use Rattle.quanta_expr.proofs.Phrases.{expr_deep, expr_in, unary_plain, unary_deep, unary_bad, unary_took, prefix_past}
use Rattle.quanta_expr.proofs.Phrases.{leaf_took, primary_none, parens_bad, parens_met}
use Rattle.quanta_expr.proofs.Phrases.{keyword, wrapping_at, at_wrap, wrap_past}
use Rattle.quanta_expr.proofs.Phrases.{wrap_inside, wrap_unopened, wrap_bad, wrap_met}
use Rattle.quanta_expr.proofs.Arguments.{args_none, args_first, args_first_bad}
use Rattle.quanta_expr.proofs.expr.+ring.Goals as goal

-- AN EXPRESSION
pub expr-returns-in_err-less : goal.expr-returns-in_err-less
expr-returns-in_err-less t c =
    λ src. fails c.from_residual.ensures.1
    (expr_deep src c.args.tokens.now c.args.at.0 c.args.allowance c.requires.inside
    (spent_of c.in_err-less.was c.enter.ensures))

pub expr-returns : goal.expr-returns
expr-returns t c =
    λ src. expr_in src c.args.tokens.now c.args.at.0 c.args.allowance c.requires.inside
    (left_of c.in_ok-less.was c.enter.ensures) (c.logic_or.ensures src)

-- THE LEVELS
pub logic_or-returns-in_err-left : goal.logic_or-returns-in_err-left
logic_or-returns-in_err-left t c =
    level_refused pr.logic_or _ _ c.logic_and.ensures c.in_err-left.was c.from_residual.ensures.1

pub logic_or-loop-left-init : goal.logic_or-loop-left-init
logic_or-loop-left-init t c = level_begins pr.logic_or _ _ c.logic_and.ensures c.in_ok-left.was c.requires

pub logic_or-returns-then-peek-ne-OR_OR : goal.logic_or-returns-then-peek-ne-OR_OR
logic_or-returns-then-peek-ne-OR_OR t c =
    level_ends pr.logic_or _ _ c.logic_and.ensures c.in_ok-left.was c.loop-left.invariant
    (not_one (code OrOr) (λ z. c.if-peek-ne-OR_OR.true (c.peek.ensures ∙ z)))

pub logic_or-returns-in_err-depth : goal.logic_or-returns-in_err-depth
logic_or-returns-in_err-depth t c =
    level_deep pr.logic_or _ _ c.logic_and.ensures c.in_ok-left.was c.loop-left.invariant
    (operates pr.logic_or (code OrOr) 0 (sym c.peek.ensures ∙ c.if-peek-ne-OR_OR.false) tt refl)
    c.bump-next.ensures c.enter.ensures c.in_err-depth.was c.from_residual-in_err-depth.ensures.1

pub logic_or-returns-in_err-right : goal.logic_or-returns-in_err-right
logic_or-returns-in_err-right t c =
    level_unread pr.logic_or _ _ c.logic_and.ensures c.in_ok-left.was c.loop-left.invariant
    (operates pr.logic_or (code OrOr) 0 (sym c.peek.ensures ∙ c.if-peek-ne-OR_OR.false) tt refl)
    c.bump-next.ensures c.enter.ensures c.in_ok-depth.was c.logic_and-in-loop-left.ensures c.in_err-right.was
    c.from_residual-in_err-right.ensures.1

pub logic_or-fold-left-requires : goal.logic_or-fold-left-requires
logic_or-fold-left-requires t c =
    level_folds pr.logic_or _ _ c.logic_and.ensures c.in_ok-left.was c.loop-left.invariant
    (operates pr.logic_or (code OrOr) 0 (sym c.peek.ensures ∙ c.if-peek-ne-OR_OR.false) tt refl)
    c.bump-next.ensures c.enter.ensures c.in_ok-depth.was c.logic_and-in-loop-left.ensures c.in_ok-right.was

pub logic_or-loop-left-preserved : goal.logic_or-loop-left-preserved
logic_or-loop-left-preserved t c =
    level_goes pr.logic_or _ _ c.logic_and.ensures c.in_ok-left.was c.loop-left.invariant
    (operates pr.logic_or (code OrOr) 0 (sym c.peek.ensures ∙ c.if-peek-ne-OR_OR.false) tt refl)
    c.bump-next.ensures c.enter.ensures c.in_ok-depth.was c.logic_and-in-loop-left.ensures c.in_ok-right.was
    c.fold-left.ensures.0 c.fold-left.ensures.1 (c.fold-left.auto.tree ∙ c.logic_and-in-loop-left.auto.tree)

pub logic_and-returns-in_err-left : goal.logic_and-returns-in_err-left
logic_and-returns-in_err-left t c =
    level_refused pr.logic_and _ _ c.equality.ensures c.in_err-left.was c.from_residual.ensures.1

pub logic_and-loop-left-init : goal.logic_and-loop-left-init
logic_and-loop-left-init t c = level_begins pr.logic_and _ _ c.equality.ensures c.in_ok-left.was c.requires

pub logic_and-returns-then-peek-ne-AND_AND : goal.logic_and-returns-then-peek-ne-AND_AND
logic_and-returns-then-peek-ne-AND_AND t c =
    level_ends pr.logic_and _ _ c.equality.ensures c.in_ok-left.was c.loop-left.invariant
    (not_one (code AndAnd) (λ z. c.if-peek-ne-AND_AND.true (c.peek.ensures ∙ z)))

pub logic_and-returns-in_err-depth : goal.logic_and-returns-in_err-depth
logic_and-returns-in_err-depth t c =
    level_deep pr.logic_and _ _ c.equality.ensures c.in_ok-left.was c.loop-left.invariant
    (operates pr.logic_and (code AndAnd) 1 (sym c.peek.ensures ∙ c.if-peek-ne-AND_AND.false) tt refl)
    c.bump-next.ensures c.enter.ensures c.in_err-depth.was c.from_residual-in_err-depth.ensures.1

pub logic_and-returns-in_err-right : goal.logic_and-returns-in_err-right
logic_and-returns-in_err-right t c =
    level_unread pr.logic_and _ _ c.equality.ensures c.in_ok-left.was c.loop-left.invariant
    (operates pr.logic_and (code AndAnd) 1 (sym c.peek.ensures ∙ c.if-peek-ne-AND_AND.false) tt refl)
    c.bump-next.ensures c.enter.ensures c.in_ok-depth.was c.equality-in-loop-left.ensures c.in_err-right.was
    c.from_residual-in_err-right.ensures.1

pub logic_and-fold-left-requires : goal.logic_and-fold-left-requires
logic_and-fold-left-requires t c =
    level_folds pr.logic_and _ _ c.equality.ensures c.in_ok-left.was c.loop-left.invariant
    (operates pr.logic_and (code AndAnd) 1 (sym c.peek.ensures ∙ c.if-peek-ne-AND_AND.false) tt refl)
    c.bump-next.ensures c.enter.ensures c.in_ok-depth.was c.equality-in-loop-left.ensures c.in_ok-right.was

pub logic_and-loop-left-preserved : goal.logic_and-loop-left-preserved
logic_and-loop-left-preserved t c =
    level_goes pr.logic_and _ _ c.equality.ensures c.in_ok-left.was c.loop-left.invariant
    (operates pr.logic_and (code AndAnd) 1 (sym c.peek.ensures ∙ c.if-peek-ne-AND_AND.false) tt refl)
    c.bump-next.ensures c.enter.ensures c.in_ok-depth.was c.equality-in-loop-left.ensures c.in_ok-right.was
    c.fold-left.ensures.0 c.fold-left.ensures.1 (c.fold-left.auto.tree ∙ c.equality-in-loop-left.auto.tree)

pub equality-returns-in_err-left : goal.equality-returns-in_err-left
equality-returns-in_err-left t c =
    level_refused pr.equality _ _ c.comparison.ensures c.in_err-left.was c.from_residual.ensures.1

pub equality-loop-op-init : goal.equality-loop-op-init
equality-loop-op-init t c = level_begins pr.equality _ _ c.comparison.ensures c.in_ok-left.was c.requires

pub equality-returns-in_default : goal.equality-returns-in_default
equality-returns-in_default t c =
    level_ends pr.equality _ _ c.comparison.ensures c.in_ok-left.was c.loop-op.invariant
    (no_op_at (operators pr.equality) binary_node c.peek.ensures c.equality_op.ensures c.in_default.is)

pub equality-returns-in_err-depth : goal.equality-returns-in_err-depth
equality-returns-in_err-depth t c =
    level_deep pr.equality _ _ c.comparison.ensures c.in_ok-left.was c.loop-op.invariant
    (op_at (operators pr.equality) binary_node c.peek.ensures c.equality_op.ensures c.in-Some.is)
    c.bump-next.ensures c.enter.ensures c.in_err-depth.was c.from_residual-in_err-depth.ensures.1

pub equality-returns-in_err-right : goal.equality-returns-in_err-right
equality-returns-in_err-right t c =
    level_unread pr.equality _ _ c.comparison.ensures c.in_ok-left.was c.loop-op.invariant
    (op_at (operators pr.equality) binary_node c.peek.ensures c.equality_op.ensures c.in-Some.is)
    c.bump-next.ensures c.enter.ensures c.in_ok-depth.was c.comparison-in-loop-op.ensures c.in_err-right.was
    c.from_residual-in_err-right.ensures.1

pub equality-fold-left-requires : goal.equality-fold-left-requires
equality-fold-left-requires t c =
    level_folds pr.equality _ _ c.comparison.ensures c.in_ok-left.was c.loop-op.invariant
    (op_at (operators pr.equality) binary_node c.peek.ensures c.equality_op.ensures c.in-Some.is)
    c.bump-next.ensures c.enter.ensures c.in_ok-depth.was c.comparison-in-loop-op.ensures c.in_ok-right.was

pub equality-loop-op-preserved : goal.equality-loop-op-preserved
equality-loop-op-preserved t c =
    level_goes pr.equality _ _ c.comparison.ensures c.in_ok-left.was c.loop-op.invariant
    (op_at (operators pr.equality) binary_node c.peek.ensures c.equality_op.ensures c.in-Some.is)
    c.bump-next.ensures c.enter.ensures c.in_ok-depth.was c.comparison-in-loop-op.ensures c.in_ok-right.was
    c.fold-left.ensures.0 c.fold-left.ensures.1 (c.fold-left.auto.tree ∙ c.comparison-in-loop-op.auto.tree)

pub comparison-returns-in_err-left : goal.comparison-returns-in_err-left
comparison-returns-in_err-left t c =
    level_refused pr.comparison _ _ c.shift.ensures c.in_err-left.was c.from_residual.ensures.1

pub comparison-loop-op-init : goal.comparison-loop-op-init
comparison-loop-op-init t c = level_begins pr.comparison _ _ c.shift.ensures c.in_ok-left.was c.requires

pub comparison-returns-in_default : goal.comparison-returns-in_default
comparison-returns-in_default t c =
    level_ends pr.comparison _ _ c.shift.ensures c.in_ok-left.was c.loop-op.invariant
    (no_op_at (operators pr.comparison) binary_node c.peek.ensures c.comparison_op.ensures c.in_default.is)

pub comparison-returns-in_err-depth : goal.comparison-returns-in_err-depth
comparison-returns-in_err-depth t c =
    level_deep pr.comparison _ _ c.shift.ensures c.in_ok-left.was c.loop-op.invariant
    (op_at (operators pr.comparison) binary_node c.peek.ensures c.comparison_op.ensures c.in-Some.is)
    c.bump-next.ensures c.enter.ensures c.in_err-depth.was c.from_residual-in_err-depth.ensures.1

pub comparison-returns-in_err-right : goal.comparison-returns-in_err-right
comparison-returns-in_err-right t c =
    level_unread pr.comparison _ _ c.shift.ensures c.in_ok-left.was c.loop-op.invariant
    (op_at (operators pr.comparison) binary_node c.peek.ensures c.comparison_op.ensures c.in-Some.is)
    c.bump-next.ensures c.enter.ensures c.in_ok-depth.was c.shift-in-loop-op.ensures c.in_err-right.was
    c.from_residual-in_err-right.ensures.1

pub comparison-fold-left-requires : goal.comparison-fold-left-requires
comparison-fold-left-requires t c =
    level_folds pr.comparison _ _ c.shift.ensures c.in_ok-left.was c.loop-op.invariant
    (op_at (operators pr.comparison) binary_node c.peek.ensures c.comparison_op.ensures c.in-Some.is)
    c.bump-next.ensures c.enter.ensures c.in_ok-depth.was c.shift-in-loop-op.ensures c.in_ok-right.was

pub comparison-loop-op-preserved : goal.comparison-loop-op-preserved
comparison-loop-op-preserved t c =
    level_goes pr.comparison _ _ c.shift.ensures c.in_ok-left.was c.loop-op.invariant
    (op_at (operators pr.comparison) binary_node c.peek.ensures c.comparison_op.ensures c.in-Some.is)
    c.bump-next.ensures c.enter.ensures c.in_ok-depth.was c.shift-in-loop-op.ensures c.in_ok-right.was
    c.fold-left.ensures.0 c.fold-left.ensures.1 (c.fold-left.auto.tree ∙ c.shift-in-loop-op.auto.tree)

pub shift-returns-in_err-left : goal.shift-returns-in_err-left
shift-returns-in_err-left t c =
    level_refused pr.shift _ _ c.additive.ensures c.in_err-left.was c.from_residual.ensures.1

pub shift-loop-left-init : goal.shift-loop-left-init
shift-loop-left-init t c = level_begins pr.shift _ _ c.additive.ensures c.in_ok-left.was c.requires

pub shift-returns-then-peek-ne-SHR : goal.shift-returns-then-peek-ne-SHR
shift-returns-then-peek-ne-SHR t c =
    level_ends pr.shift _ _ c.additive.ensures c.in_ok-left.was c.loop-left.invariant
    (no_shift c.loop-left.invariant.ready (λ z. c.if-peek-ne-SHR.true (c.peek.ensures ∙ z)))

pub shift-returns-in_err-depth : goal.shift-returns-in_err-depth
shift-returns-in_err-depth t c =
    level_deep pr.shift _ _ c.additive.ensures c.in_ok-left.was c.loop-left.invariant
    (operates pr.shift (code Shr) 13 (sym c.peek.ensures ∙ c.if-peek-ne-SHR.false) tt refl)
    c.bump-next.ensures c.enter.ensures c.in_err-depth.was c.from_residual-in_err-depth.ensures.1

pub shift-returns-in_err-right : goal.shift-returns-in_err-right
shift-returns-in_err-right t c =
    level_unread pr.shift _ _ c.additive.ensures c.in_ok-left.was c.loop-left.invariant
    (operates pr.shift (code Shr) 13 (sym c.peek.ensures ∙ c.if-peek-ne-SHR.false) tt refl)
    c.bump-next.ensures c.enter.ensures c.in_ok-depth.was c.additive-in-loop-left.ensures c.in_err-right.was
    c.from_residual-in_err-right.ensures.1

pub shift-fold-left-requires : goal.shift-fold-left-requires
shift-fold-left-requires t c =
    level_folds pr.shift _ _ c.additive.ensures c.in_ok-left.was c.loop-left.invariant
    (operates pr.shift (code Shr) 13 (sym c.peek.ensures ∙ c.if-peek-ne-SHR.false) tt refl)
    c.bump-next.ensures c.enter.ensures c.in_ok-depth.was c.additive-in-loop-left.ensures c.in_ok-right.was

pub shift-loop-left-preserved : goal.shift-loop-left-preserved
shift-loop-left-preserved t c =
    level_goes pr.shift _ _ c.additive.ensures c.in_ok-left.was c.loop-left.invariant
    (operates pr.shift (code Shr) 13 (sym c.peek.ensures ∙ c.if-peek-ne-SHR.false) tt refl)
    c.bump-next.ensures c.enter.ensures c.in_ok-depth.was c.additive-in-loop-left.ensures c.in_ok-right.was
    c.fold-left.ensures.0 c.fold-left.ensures.1 (c.fold-left.auto.tree ∙ c.additive-in-loop-left.auto.tree)

pub additive-returns-in_err-left : goal.additive-returns-in_err-left
additive-returns-in_err-left t c =
    level_refused pr.additive _ _ c.multiplicative.ensures c.in_err-left.was c.from_residual.ensures.1

pub additive-loop-op-init : goal.additive-loop-op-init
additive-loop-op-init t c = level_begins pr.additive _ _ c.multiplicative.ensures c.in_ok-left.was c.requires

pub additive-returns-in_default : goal.additive-returns-in_default
additive-returns-in_default t c =
    level_ends pr.additive _ _ c.multiplicative.ensures c.in_ok-left.was c.loop-op.invariant
    (no_op_at (operators pr.additive) binary_node c.peek.ensures c.additive_op.ensures c.in_default.is)

pub additive-returns-in_err-depth : goal.additive-returns-in_err-depth
additive-returns-in_err-depth t c =
    level_deep pr.additive _ _ c.multiplicative.ensures c.in_ok-left.was c.loop-op.invariant
    (op_at (operators pr.additive) binary_node c.peek.ensures c.additive_op.ensures c.in-Some.is)
    c.bump-next.ensures c.enter.ensures c.in_err-depth.was c.from_residual-in_err-depth.ensures.1

pub additive-returns-in_err-right : goal.additive-returns-in_err-right
additive-returns-in_err-right t c =
    level_unread pr.additive _ _ c.multiplicative.ensures c.in_ok-left.was c.loop-op.invariant
    (op_at (operators pr.additive) binary_node c.peek.ensures c.additive_op.ensures c.in-Some.is)
    c.bump-next.ensures c.enter.ensures c.in_ok-depth.was c.multiplicative-in-loop-op.ensures c.in_err-right.was
    c.from_residual-in_err-right.ensures.1

pub additive-fold-left-requires : goal.additive-fold-left-requires
additive-fold-left-requires t c =
    level_folds pr.additive _ _ c.multiplicative.ensures c.in_ok-left.was c.loop-op.invariant
    (op_at (operators pr.additive) binary_node c.peek.ensures c.additive_op.ensures c.in-Some.is)
    c.bump-next.ensures c.enter.ensures c.in_ok-depth.was c.multiplicative-in-loop-op.ensures c.in_ok-right.was

pub additive-loop-op-preserved : goal.additive-loop-op-preserved
additive-loop-op-preserved t c =
    level_goes pr.additive _ _ c.multiplicative.ensures c.in_ok-left.was c.loop-op.invariant
    (op_at (operators pr.additive) binary_node c.peek.ensures c.additive_op.ensures c.in-Some.is)
    c.bump-next.ensures c.enter.ensures c.in_ok-depth.was c.multiplicative-in-loop-op.ensures c.in_ok-right.was
    c.fold-left.ensures.0 c.fold-left.ensures.1 (c.fold-left.auto.tree ∙ c.multiplicative-in-loop-op.auto.tree)

pub multiplicative-returns-in_err-left : goal.multiplicative-returns-in_err-left
multiplicative-returns-in_err-left t c =
    level_refused pr.multiplicative _ _ c.unary.ensures c.in_err-left.was c.from_residual.ensures.1

pub multiplicative-loop-op-init : goal.multiplicative-loop-op-init
multiplicative-loop-op-init t c = level_begins pr.multiplicative _ _ c.unary.ensures c.in_ok-left.was c.requires

pub multiplicative-returns-in_default : goal.multiplicative-returns-in_default
multiplicative-returns-in_default t c =
    level_ends pr.multiplicative _ _ c.unary.ensures c.in_ok-left.was c.loop-op.invariant
    (no_op_at (operators pr.multiplicative) binary_node c.peek.ensures c.multiplicative_op.ensures
    c.in_default.is)

pub multiplicative-returns-in_err-depth : goal.multiplicative-returns-in_err-depth
multiplicative-returns-in_err-depth t c =
    level_deep pr.multiplicative _ _ c.unary.ensures c.in_ok-left.was c.loop-op.invariant
    (op_at (operators pr.multiplicative) binary_node c.peek.ensures c.multiplicative_op.ensures
    c.in-Some.is)
    c.bump-next.ensures c.enter.ensures c.in_err-depth.was c.from_residual-in_err-depth.ensures.1

pub multiplicative-returns-in_err-right : goal.multiplicative-returns-in_err-right
multiplicative-returns-in_err-right t c =
    level_unread pr.multiplicative _ _ c.unary.ensures c.in_ok-left.was c.loop-op.invariant
    (op_at (operators pr.multiplicative) binary_node c.peek.ensures c.multiplicative_op.ensures
    c.in-Some.is)
    c.bump-next.ensures c.enter.ensures c.in_ok-depth.was c.unary-in-loop-op.ensures c.in_err-right.was
    c.from_residual-in_err-right.ensures.1

pub multiplicative-fold-left-requires : goal.multiplicative-fold-left-requires
multiplicative-fold-left-requires t c =
    level_folds pr.multiplicative _ _ c.unary.ensures c.in_ok-left.was c.loop-op.invariant
    (op_at (operators pr.multiplicative) binary_node c.peek.ensures c.multiplicative_op.ensures
    c.in-Some.is)
    c.bump-next.ensures c.enter.ensures c.in_ok-depth.was c.unary-in-loop-op.ensures c.in_ok-right.was

pub multiplicative-loop-op-preserved : goal.multiplicative-loop-op-preserved
multiplicative-loop-op-preserved t c =
    level_goes pr.multiplicative _ _ c.unary.ensures c.in_ok-left.was c.loop-op.invariant
    (op_at (operators pr.multiplicative) binary_node c.peek.ensures c.multiplicative_op.ensures
    c.in-Some.is)
    c.bump-next.ensures c.enter.ensures c.in_ok-depth.was c.unary-in-loop-op.ensures c.in_ok-right.was
    c.fold-left.ensures.0 c.fold-left.ensures.1 (c.fold-left.auto.tree ∙ c.unary-in-loop-op.auto.tree)

-- A PREFIX
pub unary-returns-in_default : goal.unary-returns-in_default
unary-returns-in_default t c =
    λ src. unary_plain src c.args.tokens.now c.args.at.0 c.args.allowance c.requires.inside
    (no_op_at prefixes unary_node c.peek.ensures c.prefix_op.ensures c.in_default.is)
    (c.postfix.ensures src)

pub unary-returns-in_err-less : goal.unary-returns-in_err-less
unary-returns-in_err-less t c =
    λ src. let w = (op_at prefixes unary_node c.peek.ensures c.prefix_op.ensures c.in-Some.is) in
    fails c.from_residual.ensures.1
    (unary_deep src c.args.tokens.now c.args.at.0 c.args.allowance c.requires.inside w c.bump-next.ensures
    (prefix_past c.requires w) (spent_of c.in_err-less.was c.enter.ensures))

pub unary-returns-in_err-inner : goal.unary-returns-in_err-inner
unary-returns-in_err-inner t c =
    λ src. fails c.from_residual-in_err-inner.ensures.1
    (unary_bad src c.args.tokens.now c.args.at.0 c.args.allowance c.requires.inside
    (op_at prefixes unary_node c.peek.ensures c.prefix_op.ensures c.in-Some.is) c.bump-next.ensures
    (left_of c.in_ok-less.was c.enter.ensures) (failed_of c.in_err-inner.was (c.unary.ensures src)))

pub unary-prefix-requires : goal.unary-prefix-requires
unary-prefix-requires t c =
    let k = took_of c.in_ok-inner.was (c.unary.ensures blank) in
    let g = (ready_past c.requires (prefix_past c.requires
    (op_at prefixes unary_node c.peek.ensures c.prefix_op.ensures c.in-Some.is)) c.bump-next.ensures)
    in
    let y = took_onward blank pr.unary _ g.inside k in
    (took_ready blank pr.unary _ g k, omega (arith, y.0, c.bump-next.ensures))

pub unary-returns : goal.unary-returns
unary-returns t c =
    λ src. took (unary_took src c.args.tokens.now c.args.at.0 c.args.allowance c.requires.inside
    (op_at prefixes unary_node c.peek.ensures c.prefix_op.ensures c.in-Some.is) c.bump-next.ensures
    (left_of c.in_ok-less.was c.enter.ensures) (took_of c.in_ok-inner.was (c.unary.ensures src))
    c.prefix.ensures.0 c.prefix.ensures.1)

-- THE SUFFIXES
pub postfix-returns-in_err-left : goal.postfix-returns-in_err-left
postfix-returns-in_err-left t c =
    suffixes_refused c.requires _ c.primary.ensures c.in_err-left.was c.from_residual.ensures.1

pub postfix-loop-depth-init : goal.postfix-loop-depth-init
postfix-loop-depth-init t c = suffixes_begin c.requires _ c.primary.ensures c.in_ok-left.was

pub postfix-returns-in_default : goal.postfix-returns-in_default
postfix-returns-in_default t c =
    suffixes_end c.requires _ c.primary.ensures c.in_ok-left.was c.loop-depth.invariant
    (λ z. grind (arith, z))
    (λ z. grind (arith, z))

-- a name behind a `.`
pub postfix-returns-in_err-depth-in-43 : goal.postfix-returns-in_err-depth-in-43
postfix-returns-in_err-depth-in-43 t c =
    dot_deep c.requires _ c.primary.ensures c.in_ok-left.was c.loop-depth.invariant c.enter.ensures
    (sym c.peek.ensures ∙ c.in-43.is) c.in_err-depth-in-43.was c.from_residual-in_err-depth-in-43.ensures.1

pub postfix-returns-in_err-left-in-43 : goal.postfix-returns-in_err-left-in-43
postfix-returns-in_err-left-in-43 t c =
    dot_refused c.requires _ c.primary.ensures c.in_ok-left.was c.loop-depth.invariant c.enter.ensures
    (sym c.peek.ensures ∙ c.in-43.is) c.in_ok-depth-in-43.was c.access.ensures c.in_err-left-in-43.was
    c.from_residual-in_err-left-in-43.ensures.1

pub postfix-loop-depth-preserved-in-43 : goal.postfix-loop-depth-preserved-in-43
postfix-loop-depth-preserved-in-43 t c =
    dot_goes c.requires _ c.primary.ensures c.in_ok-left.was c.loop-depth.invariant c.enter.ensures
    (sym c.peek.ensures ∙ c.in-43.is) c.in_ok-depth-in-43.was c.access.ensures c.in_ok-left-in-43.was c.access.auto.tree

-- a call
pub postfix-returns-in_err-depth-in-38 : goal.postfix-returns-in_err-depth-in-38
postfix-returns-in_err-depth-in-38 t c =
    call_deep c.requires _ c.primary.ensures c.in_ok-left.was c.loop-depth.invariant c.enter-in-38.ensures
    (sym c.peek.ensures ∙ c.in-38.is) c.in_err-depth-in-38.was c.from_residual-in_err-depth-in-38.ensures.1

pub postfix-returns-in_err-args-in-38 : goal.postfix-returns-in_err-args-in-38
postfix-returns-in_err-args-in-38 t c =
    args_refused c.requires _ c.primary.ensures c.in_ok-left.was c.loop-depth.invariant c.enter-in-38.ensures
    (sym c.peek.ensures ∙ c.in-38.is) c.in_ok-depth-in-38.was c.bump.ensures c.call_args.ensures c.in_err-args-in-38.was
    c.from_residual-in_err-args-in-38.ensures.1

pub postfix-call-requires : goal.postfix-call-requires
postfix-call-requires t c =
    call_takes c.requires _ c.primary.ensures c.in_ok-left.was c.loop-depth.invariant c.enter-in-38.ensures
    (sym c.peek.ensures ∙ c.in-38.is) c.in_ok-depth-in-38.was c.bump.ensures c.call_args.ensures c.in_ok-args-in-38.was

pub postfix-returns-in_err-left-in-38 : goal.postfix-returns-in_err-left-in-38
postfix-returns-in_err-left-in-38 t c =
    call_refused c.requires _ c.primary.ensures c.in_ok-left.was c.loop-depth.invariant c.enter-in-38.ensures
    (sym c.peek.ensures ∙ c.in-38.is) c.in_ok-depth-in-38.was c.bump.ensures c.call_args.ensures c.in_ok-args-in-38.was
    c.call.ensures c.in_err-left-in-38.was c.from_residual-in_err-left-in-38.ensures.1

pub postfix-loop-depth-preserved : goal.postfix-loop-depth-preserved
postfix-loop-depth-preserved t c =
    call_goes c.requires _ c.primary.ensures c.in_ok-left.was c.loop-depth.invariant c.enter-in-38.ensures
    (sym c.peek.ensures ∙ c.in-38.is) c.in_ok-depth-in-38.was c.bump.ensures c.call_args.ensures c.in_ok-args-in-38.was
    c.call.ensures c.in_ok-left-in-38.was (c.call.auto.tree ∙ c.call_args.auto.tree)

-- THE ARGUMENTS
pub call_args-returns-then-peek-eq-RPAREN : goal.call_args-returns-then-peek-eq-RPAREN
call_args-returns-then-peek-eq-RPAREN t c =
    λ src. took_all (args_none src c.args.tokens.now c.args.at.0 c.args.allowance c.requires.inside
    (sym c.peek.ensures ∙ c.if-peek-eq-RPAREN.true) refl refl)

pub call_args-returns-in_err-first : goal.call_args-returns-in_err-first
call_args-returns-in_err-first t c =
    λ src. fails_all c.from_residual.ensures.1
    (args_first_bad src c.args.tokens.now c.args.at.0 c.args.allowance c.requires.inside
    (λ z. c.if-peek-eq-RPAREN.false (c.peek.ensures ∙ z)) (failed_of c.in_err-first.was (c.expr.ensures src)))

pub call_args-loop-at-init : goal.call_args-loop-at-init
call_args-loop-at-init t c =
    let k = took_of c.in_ok-first.was (c.expr.ensures blank) in
    let y = took_more k in
    rolling_in (took_ready blank pr.expr c.args.allowance c.requires k) (omega arith)

pub call_args-returns-then-peek-ne-COMMA : goal.call_args-returns-then-peek-ne-COMMA
call_args-returns-then-peek-ne-COMMA t c =
    λ src. let g = c.loop-at.invariant.carries src _ _ _ _
    (args_first src c.args.tokens.now c.args.at.0 c.args.allowance c.requires.inside
    (λ z. c.if-peek-eq-RPAREN.false (c.peek.ensures ∙ z)) (took_of c.in_ok-first.was (c.expr.ensures src))) in
    took_all (rolled g (comma_stop g arguments c.loop-at.invariant.ready.inside
    (λ z. c.if-peek-ne-COMMA.true (c.peek-in-loop-at.ensures ∙ z))) c.loop-at.invariant.ready.inside)

pub call_args-returns-in_err-arg : goal.call_args-returns-in_err-arg
call_args-returns-in_err-arg t c =
    λ src. let g = c.loop-at.invariant.carries src _ _ _ _
    (args_first src c.args.tokens.now c.args.at.0 c.args.allowance c.requires.inside
    (λ z. c.if-peek-eq-RPAREN.false (c.peek.ensures ∙ z)) (took_of c.in_ok-first.was (c.expr.ensures src))) in
    fails_all c.from_residual-in_err-arg.ensures.1 (comma_bad g arguments c.loop-at.invariant.ready.inside
    (sym c.peek-in-loop-at.ensures ∙ c.if-peek-ne-COMMA.false) c.bump.ensures
    (failed_of c.in_err-arg.was (c.expr-in-loop-at.ensures src)))

pub call_args-loop-at-smaller : goal.call_args-loop-at-smaller
call_args-loop-at-smaller t c =
    let g = (ready_behind (code Comma) (λ u. u) c.loop-at.invariant.ready
    (sym c.peek-in-loop-at.ensures ∙ c.if-peek-ne-COMMA.false) c.bump.ensures) in
    let y = took_onward blank pr.expr c.args.allowance g.inside
    (took_of c.in_ok-arg.was (c.expr-in-loop-at.ensures blank)) in
    omega (arith, y.0, c.bump.ensures, c.loop-at.invariant.ready.inside)

pub call_args-loop-at-preserved : goal.call_args-loop-at-preserved
call_args-loop-at-preserved t c =
    let k = took_of c.in_ok-arg.was (c.expr-in-loop-at.ensures blank) in
    rolling_on c.loop-at.invariant (λ src o t n x g. comma_on g arguments c.loop-at.invariant.ready.inside
    (sym c.peek-in-loop-at.ensures ∙ c.if-peek-ne-COMMA.false) c.bump.ensures
    (took_of c.in_ok-arg.was (c.expr-in-loop-at.ensures src)) refl)
    (took_ready blank pr.expr c.args.allowance
    (ready_behind (code Comma) (λ u. u) c.loop-at.invariant.ready
    (sym c.peek-in-loop-at.ensures ∙ c.if-peek-ne-COMMA.false) c.bump.ensures) k) refl (took_more k)
    c.expr-in-loop-at.auto.tree

-- A PRIMARY
pub primary-returns-in-Some : goal.primary-returns-in-Some
primary-returns-in-Some t c =
    λ src. took (leaf_took src c.args.tokens.now c.args.at.0 c.args.allowance c.requires.inside c.requires.closed
    (leaf_at c.peek-kind.ensures c.leaf_kind.ensures c.in-Some.is) c.leaf.ensures.0
    c.leaf.ensures.1)

-- in parentheses
pub primary-returns-in_err-inner-in-38 : goal.primary-returns-in_err-inner-in-38
primary-returns-in_err-inner-in-38 t c =
    λ src. fails c.from_residual.ensures.1
    (parens_bad src c.args.tokens.now c.args.at.0 c.args.allowance c.requires.inside
    (sym c.peek-kind.ensures ∙ c.in-38.is) c.bump.ensures (failed_of c.in_err-inner-in-38.was (c.expr.ensures src)))

pub primary-parens-requires : goal.primary-parens-requires
primary-parens-requires t c =
    took_ready blank pr.expr c.args.allowance
    (ready_behind (code LParen) (λ u. u) c.requires (sym c.peek-kind.ensures ∙ c.in-38.is) c.bump.ensures)
    (took_of c.in_ok-inner-in-38.was (c.expr.ensures blank))

pub primary-returns-in_ok-inner-in-38 : goal.primary-returns-in_ok-inner-in-38
primary-returns-in_ok-inner-in-38 t c =
    λ src. parens_met src c.args.tokens.now c.args.at.0 c.args.allowance c.requires.inside
    (sym c.peek-kind.ensures ∙ c.in-38.is)
    c.bump.ensures (took_of c.in_ok-inner-in-38.was (c.expr.ensures src)) c.requires.closed c.parens.ensures

-- under `checked` or `wrapping`
pub primary-returns-in_err-inside-in-34 : goal.primary-returns-in_err-inside-in-34
primary-returns-in_err-inside-in-34 t c =
    λ src. fails c.from_residual-in_err-inside-in-34.ensures.1
    (wrap_unopened src c.args.tokens.now c.args.at.0 c.args.allowance c.requires.inside
    (wrapping_at src c.args.tokens.now c.args.at.0 c.args.allowance c.requires.inside c.peek-kind.ensures
    (keyword (omega arith) (omega arith))) c.bump-in-34.ensures
    (wrap_past c.requires c.peek-kind.ensures (keyword (omega arith) (omega arith))) c.requires.closed
    (lacks_of c.in_err-inside-in-34.was c.expect.ensures))

pub primary-returns-in_err-inner-in-34 : goal.primary-returns-in_err-inner-in-34
primary-returns-in_err-inner-in-34 t c =
    λ src. fails c.from_residual-in_err-inner-in-34.ensures.1
    (wrap_bad src c.args.tokens.now c.args.at.0 c.args.allowance c.requires.inside
    (wrapping_at src c.args.tokens.now c.args.at.0 c.args.allowance c.requires.inside c.peek-kind.ensures
    (keyword (omega arith) (omega arith))) c.bump-in-34.ensures
    (wrap_past c.requires c.peek-kind.ensures (keyword (omega arith) (omega arith))) c.requires.closed
    (next_of c.in_ok-inside-in-34.was c.expect.ensures)
    (failed_of c.in_err-inner-in-34.was (c.expr-in-34.ensures src)))

pub primary-wrap-requires : goal.primary-wrap-requires
primary-wrap-requires t c =
    let e = next_of c.in_ok-inside-in-34.was c.expect.ensures in
    let g = wrap_inside c.requires c.peek-kind.ensures (keyword (omega arith) (omega arith)) c.bump-in-34.ensures e in
    let k = took_of c.in_ok-inner-in-34.was (c.expr-in-34.ensures blank) in
    let y = took_onward blank pr.expr c.args.allowance g.inside k in
    (took_ready blank pr.expr c.args.allowance g k, omega (arith, y.0, c.bump-in-34.ensures, e.1))

pub primary-returns-in_ok-inner-in-34 : goal.primary-returns-in_ok-inner-in-34
primary-returns-in_ok-inner-in-34 t c =
    λ src. let e = next_of c.in_ok-inside-in-34.was c.expect.ensures in
    let g = wrap_inside c.requires c.peek-kind.ensures (keyword (omega arith) (omega arith)) c.bump-in-34.ensures e in
    let k = took_of c.in_ok-inner-in-34.was (c.expr-in-34.ensures src) in
    wrap_met src c.args.tokens.now c.args.at.0 c.args.allowance c.requires.inside
    (at_wrap src c.args.tokens.now c.args.at.0 c.args.allowance c.requires.inside c.peek-kind.ensures
    (keyword (omega arith) (omega arith)) c.wrap_kind.ensures)
    c.bump-in-34.ensures (wrap_past c.requires c.peek-kind.ensures (keyword (omega arith) (omega arith)))
    c.requires.closed e k
    (took_ready src pr.expr c.args.allowance g k) c.wrap.ensures

-- none
pub primary-returns-in_default-kind : goal.primary-returns-in_default-kind
primary-returns-in_default-kind t c =
    λ src. failed (primary_none src c.args.tokens.now c.args.at.0 c.args.allowance c.requires.inside c.requires.closed
    (no_leaf_at c.peek-kind.ensures c.leaf_kind.ensures c.in_default.is)
    (λ z. grind (arith, z)) (λ z. grind (arith, z)) (λ z. grind (arith, z)) c.err.ensures)
