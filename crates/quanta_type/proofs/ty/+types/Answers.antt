-- A type, its arguments and an argument each answer what the grammar's reader gives. Each way through a reader cites
-- one law.
-- Assumes nothing.
use Rattle.std.proofs.Common.{◌≡◌, ℕ, ◌+◌, arith, sym, ◌∙◌, List}
use mathlib.Core.Logic.{◌⊎◌}
use Rattle.grammar.specs.Records.{fresh}
use Rattle.quanta_token.specs.TokenKind.{code, Ident, Quorum}
use Rattle.quanta_grammar.specs.Productions.{type_name}
use Rattle.quanta_grammar.specs.Refine.{text}
use Rattle.quanta_cursor.specs.Tokens.{kind_at, Ready}
use Rattle.quanta_cursor.proofs.Places.{past_in, ready_past}
use Rattle.quanta_cursor.proofs.Exits.{handed, held}
use Rattle.quanta_cursor.proofs.Meeting.{left_of, spent_of}
use Rattle.quanta_cursor.proofs.Lists.{type_arguments}
use Rattle.quanta_type.proofs.Types.{is_type_name, no_type_name, type_none, type_plain, type_bad, type_closed}
use Rattle.quanta_type.proofs.Types.{type_back, type_took, type_fails, type_failed, types_of, types_half_of, no_types_of}
use Rattle.quanta_type.proofs.Types.{arg_deep, arg_in}
use Rattle.quanta_type.proofs.Arguments.{begun, no_element, half_element, element}
use Rattle.quanta_type.proofs.Arguments.{list_over, next_awaits, next_further}
use Rattle.quanta_type.proofs.ty.+types.Goals as goal

-- behind a type's name
past_name : {ws : List ℕ} {at no k next : ℕ} → Ready ws at no → k ≡ kind_at ws at → (k ≡ code Ident) ⊎ (k ≡ code Quorum)
    → next ≡ at + 1 → Ready ws next no
past_name g e z n = ready_past g (past_in type_name (λ u. u) g.closed g.inside (is_type_name e z)) n

-- AN ARGUMENT
pub generic_arg-returns-in_err-less : goal.generic_arg-returns-in_err-less
generic_arg-returns-in_err-less t c =
    type_fails c.from_residual.ensures.1 (arg_deep (text c.args.edition c.args.src.now) c.args.tokens.now c.args.at.0 c.args.allowance c.requires.inside
    (λ z. c.if-peek-eq-INT.false (c.peek.ensures ∙ z)) (spent_of c.in_err-less.was c.enter.ensures))

pub generic_arg-returns : goal.generic_arg-returns
generic_arg-returns t c =
    arg_in (text c.args.edition c.args.src.now) c.args.tokens.now c.args.at.0 c.args.allowance c.requires.inside
    (λ z. c.if-peek-eq-INT.false (c.peek.ensures ∙ z)) (left_of c.in_ok-less.was c.enter.ensures) c.ty.ensures

-- THE ARGUMENTS
pub generic_args-loop-arg-init : goal.generic_args-loop-arg-init
generic_args-loop-arg-init t c = begun type_arguments c.args.allowance c.args.tree.now c.requires

pub generic_args-returns-in_err-arg : goal.generic_args-returns-in_err-arg
generic_args-returns-in_err-arg t c =
    no_element c.loop-arg.invariant c.generic_arg.ensures c.in_err-arg.was (handed c.from_residual.ensures.1)

-- the first closer of a `>>` closed it
pub generic_args-returns-in-Half : goal.generic_args-returns-in-Half
generic_args-returns-in-Half t c = half_element c.loop-arg.invariant c.generic_arg.ensures (held c.in_ok-arg.was c.in-Half.is)

-- an argument is read
pub generic_args-returns-then-peek-ne-COMMA : goal.generic_args-returns-then-peek-ne-COMMA
generic_args-returns-then-peek-ne-COMMA t c =
    list_over (element c.loop-arg.invariant c.generic_arg.ensures (held c.in_ok-arg.was c.in-Whole.is) c.generic_arg.auto.tree)
    type_arguments c.peek.ensures c.if-peek-ne-COMMA.true

pub generic_args-loop-arg-smaller : goal.generic_args-loop-arg-smaller
generic_args-loop-arg-smaller t c =
    let e = element c.loop-arg.invariant c.generic_arg.ensures (held c.in_ok-arg.was c.in-Whole.is) c.generic_arg.auto.tree in
    let z = next_further e type_arguments c.peek.ensures c.if-peek-ne-COMMA.false c.bump-at.ensures in
    omega (arith, e.awaited.ready.inside)

pub generic_args-loop-arg-preserved : goal.generic_args-loop-arg-preserved
generic_args-loop-arg-preserved t c =
    next_awaits (element c.loop-arg.invariant c.generic_arg.ensures (held c.in_ok-arg.was c.in-Whole.is) c.generic_arg.auto.tree)
    type_arguments c.peek.ensures c.if-peek-ne-COMMA.false c.bump-at.ensures

-- A TYPE
pub ty-returns-then-peek-ne-LT : goal.ty-returns-then-peek-ne-LT
ty-returns-then-peek-ne-LT t c =
    type_took (type_plain (text c.args.edition c.args.src.now) c.args.tokens.now c.args.at.0 c.args.allowance c.requires.inside
    (is_type_name c.peek.ensures c.in-1.is) c.bump-next.ensures
    (past_name c.requires c.peek.ensures c.in-1.is c.bump-next.ensures).inside
    (λ z. c.if-peek-ne-LT.true (c.peek-in-1.ensures ∙ z)) c.leaf.ensures.0 c.leaf.ensures.1)

pub ty-close_args-requires : goal.ty-close_args-requires
ty-close_args-requires t c = ((types_of (held c.in_ok-args-in-1.was c.in-Whole.is) (c.generic_args.ensures fresh)).ready, c.requires.inside)

pub ty-close_half-requires : goal.ty-close_half-requires
ty-close_half-requires t c = ((types_half_of (held c.in_ok-args-in-1.was c.in-Half.is) (c.generic_args.ensures fresh)).ready, c.requires.inside)

pub ty-returns-in_err-args-in-1 : goal.ty-returns-in_err-args-in-1
ty-returns-in_err-args-in-1 t c =
    type_fails c.from_residual.ensures.1 (type_bad (text c.args.edition c.args.src.now) c.args.tokens.now c.args.at.0 c.args.allowance c.requires.inside
    (is_type_name c.peek.ensures c.in-1.is) c.bump-next.ensures
    (past_name c.requires c.peek.ensures c.in-1.is c.bump-next.ensures).inside
    (sym c.peek-in-1.ensures ∙ c.if-peek-ne-LT.false) c.bump.ensures (no_types_of c.in_err-args-in-1.was (c.generic_args.ensures fresh)))

pub ty-returns-in-Whole : goal.ty-returns-in-Whole
ty-returns-in-Whole t c =
    type_closed (text c.args.edition c.args.src.now) c.args.tokens.now c.args.at.0 c.args.allowance c.requires.inside
    (is_type_name c.peek.ensures c.in-1.is) c.bump-next.ensures
    (past_name c.requires c.peek.ensures c.in-1.is c.bump-next.ensures).inside
    (sym c.peek-in-1.ensures ∙ c.if-peek-ne-LT.false) c.bump.ensures
    (types_of (held c.in_ok-args-in-1.was c.in-Whole.is) (c.generic_args.ensures fresh)) c.close_args.ensures

pub ty-returns-in-Half : goal.ty-returns-in-Half
ty-returns-in-Half t c =
    type_took (type_back (text c.args.edition c.args.src.now) c.args.tokens.now c.args.at.0 c.args.allowance c.requires.inside
    (is_type_name c.peek.ensures c.in-1.is) c.bump-next.ensures
    (past_name c.requires c.peek.ensures c.in-1.is c.bump-next.ensures).inside
    (sym c.peek-in-1.ensures ∙ c.if-peek-ne-LT.false) c.bump.ensures
    (types_half_of (held c.in_ok-args-in-1.was c.in-Half.is) (c.generic_args.ensures fresh)) c.close_half.ensures)

pub ty-returns-in_default : goal.ty-returns-in_default
ty-returns-in_default t c =
    let g = c.requires in
    type_failed (type_none (text c.args.edition c.args.src.now) c.args.tokens.now c.args.at.0 c.args.allowance g.inside
    g.closed (no_type_name c.peek.ensures (g.closed.known c.args.at.0 g.inside).1 (search)) c.err.ensures)
