-- The measure is 4 for each level of the allowance, and the reader's rank: an argument that is a type calls at one
-- allowance less.
use Rattle.std.proofs.Common.{◌+◌, ◌-◌, ◌*◌}
use Rattle.quanta_grammar.specs.Productions.{type_arg}
use Rattle.quanta_grammar.specs.Refine.{text}
use Rattle.quanta_grammar.specs.Productions.{more_type_args}
use Rattle.quanta_cursor.specs.Tokens.{size}
use Rattle.quanta_type.proofs.Arguments.{Awaits}
use Rattle.quanta_type.proofs.ty.+types.Given as goal

abbrev pub decreases-generic_arg : goal.decreases-generic_arg
decreases-generic_arg l = l.allowance * 4 + 1

abbrev pub decreases-generic_args : goal.decreases-generic_args
decreases-generic_args l = l.allowance * 4 + 2

abbrev pub decreases-ty : goal.decreases-ty
decreases-ty l = l.allowance * 4 + 3

-- One call reads each argument, and at the head of the loop one is to come.
abbrev pub invariant-generic_args-loop-arg : goal.invariant-generic_args-loop-arg
invariant-generic_args-loop-arg l =
    Awaits type_arg more_type_args (text l.edition l.src) l.tokens l.allowance l.initial.at.0 l.initial.tree
    l.initial.no.0 l.at.0 l.no.0 l.count l.tree

abbrev pub decreases-generic_args-loop-arg : goal.decreases-generic_args-loop-arg
decreases-generic_args-loop-arg l = size l.tokens - l.at.0
