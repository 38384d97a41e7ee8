use Prim.Native.Nat.{◌+◌, ◌-◌, ◌*◌}
use Rattle.quanta_grammar.specs.Productions as pr
use Rattle.quanta_grammar.specs.Productions.{operators, prefixes}
use Rattle.quanta_cursor.specs.Tokens.{size}
use Rattle.quanta_cursor.proofs.Lists.{Rolling}
use Rattle.quanta_expr.proofs.Chains.{Chain}
use Rattle.quanta_expr.proofs.expr.+ring.Given as goal

abbrev pub decreases-additive : goal.decreases-additive
decreases-additive l = l.allowance * 16 + 5

abbrev pub decreases-call_args : goal.decreases-call_args
decreases-call_args l = l.allowance * 16 + 1

abbrev pub decreases-comparison : goal.decreases-comparison
decreases-comparison l = l.allowance * 16 + 7

abbrev pub decreases-equality : goal.decreases-equality
decreases-equality l = l.allowance * 16 + 8

abbrev pub decreases-expr : goal.decreases-expr
decreases-expr l = l.allowance * 16

abbrev pub decreases-logic_and : goal.decreases-logic_and
decreases-logic_and l = l.allowance * 16 + 9

abbrev pub decreases-logic_or : goal.decreases-logic_or
decreases-logic_or l = l.allowance * 16 + 10

abbrev pub decreases-multiplicative : goal.decreases-multiplicative
decreases-multiplicative l = l.allowance * 16 + 4

abbrev pub decreases-postfix : goal.decreases-postfix
decreases-postfix l = l.allowance * 16 + 2

abbrev pub decreases-primary : goal.decreases-primary
decreases-primary l = l.allowance * 16 + 1

abbrev pub decreases-shift : goal.decreases-shift
decreases-shift l = l.allowance * 16 + 6

abbrev pub decreases-unary : goal.decreases-unary
decreases-unary l = l.allowance * 16 + 3

abbrev pub invariant-additive-loop-op : goal.invariant-additive-loop-op
invariant-additive-loop-op l = Chain (pr.links pr.additive) l.tokens l.initial.left l.initial.depth l.initial.tree
    l.left l.depth l.tree

abbrev pub decreases-additive-loop-op : goal.decreases-additive-loop-op
decreases-additive-loop-op l = l.depth

abbrev pub invariant-call_args-loop-at : goal.invariant-call_args-loop-at
invariant-call_args-loop-at l = Rolling pr.more_args l.tokens l.allowance l.initial.at.0 l.initial.no.0 l.initial.count l.initial.tree l.at.0 l.no.0 l.count l.tree

abbrev pub decreases-call_args-loop-at : goal.decreases-call_args-loop-at
decreases-call_args-loop-at l = size l.tokens - l.at.0

abbrev pub invariant-comparison-loop-op : goal.invariant-comparison-loop-op
invariant-comparison-loop-op l = Chain (pr.links pr.comparison) l.tokens l.initial.left l.initial.depth l.initial.tree
    l.left l.depth l.tree

abbrev pub decreases-comparison-loop-op : goal.decreases-comparison-loop-op
decreases-comparison-loop-op l = l.depth

abbrev pub invariant-equality-loop-op : goal.invariant-equality-loop-op
invariant-equality-loop-op l = Chain (pr.links pr.equality) l.tokens l.initial.left l.initial.depth l.initial.tree
    l.left l.depth l.tree

abbrev pub decreases-equality-loop-op : goal.decreases-equality-loop-op
decreases-equality-loop-op l = l.depth

abbrev pub invariant-logic_and-loop-left : goal.invariant-logic_and-loop-left
invariant-logic_and-loop-left l = Chain (pr.links pr.logic_and) l.tokens l.initial.left l.initial.depth l.initial.tree l.left l.depth l.tree

abbrev pub decreases-logic_and-loop-left : goal.decreases-logic_and-loop-left
decreases-logic_and-loop-left l = l.depth

abbrev pub invariant-logic_or-loop-left : goal.invariant-logic_or-loop-left
invariant-logic_or-loop-left l = Chain (pr.links pr.logic_or) l.tokens l.initial.left l.initial.depth l.initial.tree l.left l.depth l.tree

abbrev pub decreases-logic_or-loop-left : goal.decreases-logic_or-loop-left
decreases-logic_or-loop-left l = l.depth

abbrev pub invariant-multiplicative-loop-op : goal.invariant-multiplicative-loop-op
invariant-multiplicative-loop-op l = Chain (pr.links pr.multiplicative) l.tokens l.initial.left l.initial.depth
    l.initial.tree l.left l.depth l.tree

abbrev pub decreases-multiplicative-loop-op : goal.decreases-multiplicative-loop-op
decreases-multiplicative-loop-op l = l.depth

abbrev pub invariant-postfix-loop-depth : goal.invariant-postfix-loop-depth
invariant-postfix-loop-depth l = Chain pr.suffixes l.tokens l.initial.left l.initial.depth l.initial.tree l.left l.depth l.tree

abbrev pub decreases-postfix-loop-depth : goal.decreases-postfix-loop-depth
decreases-postfix-loop-depth l = l.depth

abbrev pub invariant-shift-loop-left : goal.invariant-shift-loop-left
invariant-shift-loop-left l = Chain (pr.links pr.shift) l.tokens l.initial.left l.initial.depth l.initial.tree l.left l.depth l.tree

abbrev pub decreases-shift-loop-left : goal.decreases-shift-loop-left
decreases-shift-loop-left l = l.depth
