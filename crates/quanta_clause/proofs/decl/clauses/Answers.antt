-- `quanta_clause::decl::clauses` meets its contract: the answers, goal by goal.
-- Assumes nothing.
use mathlib.Core.Path.{refl, sym, ◌∙◌}
use native.Mathlib.Omega.{arith}
use Rattle.quanta_token.specs.declared.edition.Edition.{Edition}
use Rattle.quanta_token.specs.declared.edition.Edition.TheVariants.{One}
use Rattle.quanta_grammar.specs.Refine.{text}
use Rattle.quanta_cursor.proofs.Places.{ready_small}
use Rattle.quanta_cursor.proofs.Meeting.{failed_of}
use Rattle.quanta_cursor.proofs.Lists.{clauses_run}
use Rattle.quanta_cursor.proofs.Listing.{run_begun, runs_on, runs_less}
use Rattle.quanta_clause.proofs.Clauses.{names_past, names_none, names_begun, names_comma, names_bad, names_on}
use Rattle.quanta_clause.proofs.Clauses.{names_less, names_met}
use Rattle.quanta_clause.proofs.Turns.{is_name, is_names, is_expr, names_start, name_start, expr_start, after_start}
use Rattle.quanta_clause.proofs.Turns.{Turn, turned, refused, clauses_end}
use Rattle.quanta_clause.proofs.decl.clauses.Goals as goal
use Rattle.quanta_clause.proofs.decl.clauses.Goals.{in-24+in_ok-clause-in-24 as after_way}
use Rattle.quanta_clause.proofs.decl.clauses.Goals.{in-28+in_ok-clause-in-28 as name_way}
use Rattle.quanta_clause.proofs.decl.clauses.Goals.{in-29+in_ok-first-in-29+then-peek-ne-COMMA+in_ok-clause-in-29 as names_way}
use Rattle.quanta_clause.proofs.decl.clauses.Goals.{in-31+in_ok-clause-in-31 as expr_way}

pub clauses-init : goal.clauses-init
clauses-init c = λ e. run_begun clauses_run c.args.allowance c.requires

pub peek-requires : goal.peek-requires
peek-requires c = (c.clauses.invariant One).ready.inside

-- the list of names
pub bump-requires : goal.bump-requires
bump-requires c = ready_small (c.clauses.invariant One).ready

pub first_name-requires : goal.first_name-requires
first_name-requires c =
    names_past c.bump.ensures (c.clauses.invariant One).ready (is_names c.peek.ensures (omega arith) (omega arith))

pub returns-in_err-first-in-29 : goal.returns-in_err-first-in-29
returns-in_err-first-in-29 c = λ e.
    let src = text e c.args.src.now in
    let w = is_names c.peek.ensures (omega arith) (omega arith) in
    let v = c.clauses.invariant e in
    let start = names_start src c.args.tokens.now c.clauses.at.0 w in
    refused c.from_residual-in_err-first-in-29.ensures.1 c.requires v start
    (names_none c.bump.ensures v.ready w c.first_name.ensures c.in_err-first-in-29.was src c.args.allowance)

pub names-init : goal.names-init
names-init c =
    let w = is_names c.peek.ensures (omega arith) (omega arith) in
    names_begun c.bump.ensures (c.clauses.invariant One).ready w c.first_name.ensures c.in_ok-first-in-29.was

pub peek-requires-in-names : goal.peek-requires-in-names
peek-requires-in-names c = (c.names.invariant 0).ready.inside

pub bump-requires-in-names : goal.bump-requires-in-names
bump-requires-in-names c = ready_small (c.names.invariant 0).ready

pub expect_ident-requires : goal.expect_ident-requires
expect_ident-requires c =
    let g = (c.clauses.invariant One).ready in
    let w = is_names c.peek.ensures (omega arith) (omega arith) in
    let comma = sym c.peek-in-names.ensures ∙ c.if-peek-ne-COMMA.false in
    names_comma c.bump.ensures g w c.first_name.ensures c.in_ok-first-in-29.was c.names.invariant comma
    c.bump-in-names.ensures

pub returns-in_err-name-in-29 : goal.returns-in_err-name-in-29
returns-in_err-name-in-29 c = λ e.
    let src = text e c.args.src.now in
    let w = is_names c.peek.ensures (omega arith) (omega arith) in
    let v = c.clauses.invariant e in
    let comma = sym c.peek-in-names.ensures ∙ c.if-peek-ne-COMMA.false in
    let start = names_start src c.args.tokens.now c.clauses.at.0 w in
    refused c.from_residual-in_err-name-in-29.ensures.1 c.requires v start
    (names_bad c.bump.ensures v.ready w c.first_name.ensures c.in_ok-first-in-29.was c.names.invariant comma
    c.bump-in-names.ensures c.expect_ident.ensures c.in_err-name-in-29.was src c.args.allowance)

pub overflow_add-names : goal.overflow_add-names
overflow_add-names c =
    let v = c.names.invariant 0 in
    omega (arith, v.few, v.ready.inside, v.ready.fits, c.requires.closed.few)

pub names-smaller : goal.names-smaller
names-smaller c =
    let g = (c.clauses.invariant One).ready in
    let w = is_names c.peek.ensures (omega arith) (omega arith) in
    let comma = sym c.peek-in-names.ensures ∙ c.if-peek-ne-COMMA.false in
    let less = names_less c.bump.ensures g w c.first_name.ensures c.in_ok-first-in-29.was c.names.invariant comma
    c.bump-in-names.ensures c.expect_ident.ensures c.in_ok-name-in-29.was in
    omega (arith, (c.names.invariant 0).ready.inside, less)

pub names-preserved : goal.names-preserved
names-preserved c =
    let g = (c.clauses.invariant One).ready in
    let w = is_names c.peek.ensures (omega arith) (omega arith) in
    let comma = sym c.peek-in-names.ensures ∙ c.if-peek-ne-COMMA.false in
    names_on c.bump.ensures g w c.first_name.ensures c.in_ok-first-in-29.was c.names.invariant comma
    c.bump-in-names.ensures c.expect_ident.ensures c.in_ok-name-in-29.was c.expect_ident.auto.tree

pub close_names-requires : goal.close_names-requires
close_names-requires c = ((c.names.invariant 0).ready, (c.clauses.invariant One).ready.inside)

pub returns-in_err-clause-in-29 : goal.returns-in_err-clause-in-29
returns-in_err-clause-in-29 c = λ e.
    let src = text e c.args.src.now in
    let w = is_names c.peek.ensures (omega arith) (omega arith) in
    let v = c.clauses.invariant e in
    let met = names_met c.bump.ensures v.ready w c.first_name.ensures c.in_ok-first-in-29.was c.names.invariant
    (λ z. c.if-peek-ne-COMMA.true (c.peek-in-names.ensures ∙ z)) c.close_names.ensures src c.args.allowance in
    let start = names_start src c.args.tokens.now c.clauses.at.0 w in
    refused c.from_residual-in_err-clause-in-29.ensures.1 c.requires v start
    (failed_of c.in_err-clause-in-29.was met)

-- the other clauses
pub name_clause-requires : goal.name_clause-requires
name_clause-requires c = ((c.clauses.invariant One).ready, is_name c.peek.ensures (omega arith) (omega arith))

pub returns-in_err-clause-in-28 : goal.returns-in_err-clause-in-28
returns-in_err-clause-in-28 c = λ e.
    let src = text e c.args.src.now in
    let start = name_start src c.args.tokens.now c.clauses.at.0 (is_name c.peek.ensures (omega arith) (omega arith)) in
    refused c.from_residual-in_err-clause-in-28.ensures.1 c.requires (c.clauses.invariant e) start
    (failed_of c.in_err-clause-in-28.was (c.name_clause.ensures src c.args.allowance))

pub expr_clause-requires : goal.expr_clause-requires
expr_clause-requires c = ((c.clauses.invariant One).ready, is_expr c.peek.ensures (omega arith) (omega arith))

pub returns-in_err-clause-in-31 : goal.returns-in_err-clause-in-31
returns-in_err-clause-in-31 c = λ e.
    let src = text e c.args.src.now in
    let start = expr_start src c.args.tokens.now c.clauses.at.0 (is_expr c.peek.ensures (omega arith) (omega arith)) in
    refused c.from_residual-in_err-clause-in-31.ensures.1 c.requires (c.clauses.invariant e) start
    (failed_of c.in_err-clause-in-31.was (c.expr_clause.ensures src))

pub after_clause-requires : goal.after_clause-requires
after_clause-requires c = ((c.clauses.invariant One).ready, sym c.peek.ensures ∙ c.in-24.is)

pub returns-in_err-clause-in-24 : goal.returns-in_err-clause-in-24
returns-in_err-clause-in-24 c = λ e.
    let src = text e c.args.src.now in
    let start = after_start src c.args.tokens.now c.clauses.at.0 (sym c.peek.ensures ∙ c.in-24.is) in
    refused c.from_residual.ensures.1 c.requires (c.clauses.invariant e) start
    (failed_of c.in_err-clause-in-24.was (c.after_clause.ensures e))

-- a clause was read
turn : (c : goal.After-no-1) (e : Edition) → Turn (text e c.args.src.now) c.args.tokens.now c.args.allowance
    c.clauses.at.0 c.clauses.no.0 c.clauses.tree c.match-peek.clause c.match-peek.tree
turn c e =
    let ws = c.args.tokens.now in
    let a = c.args.allowance in
    let src = text e c.args.src.now in
    let i = c.clauses.at.0 in
    let v = c.peek.ensures in
    elim c.match-peek.branch [
      | after_way z ↦
          turned (after_start src ws i (sym v ∙ z.in-24.is)) z.clause-is z.tree-is z.in_ok-clause-in-24.was
          (z.after_clause.ensures e) z.after_clause.auto.tree
      | name_way z ↦
          turned (name_start src ws i (is_name v (omega arith) (omega arith))) z.clause-is z.tree-is
          z.in_ok-clause-in-28.was (z.name_clause.ensures src a) z.name_clause.auto.tree
      | names_way z ↦
          let w = is_names v (omega arith) (omega arith) in
          let g = (c.clauses.invariant e).ready in
          let met = names_met z.bump.ensures g w z.first_name.ensures z.in_ok-first-in-29.was z.names.invariant
          (λ y. z.if-peek-ne-COMMA.true (z.peek-in-names.ensures ∙ y)) z.close_names.ensures src a in
          let long = z.close_names.auto.tree ∙ (z.names.invariant 0).long ∙ z.first_name.auto.tree in
          turned (names_start src ws i w) z.clause-is z.tree-is z.in_ok-clause-in-29.was met long
      | expr_way z ↦
          turned (expr_start src ws i (is_expr v (omega arith) (omega arith))) z.clause-is z.tree-is
          z.in_ok-clause-in-31.was (z.expr_clause.ensures src) z.expr_clause.auto.tree
    ]

pub overflow_add-count : goal.overflow_add-count
overflow_add-count c =
    let v = c.clauses.invariant One in
    omega (arith, v.few, v.ready.inside, v.ready.fits, c.requires.closed.few)

pub clauses-smaller : goal.clauses-smaller
clauses-smaller c =
    let v = c.clauses.invariant One in
    let one = turn c One in
    omega (arith, v.ready.inside, runs_less clauses_run c.args.allowance c.requires v one.goes one.took)

pub clauses-preserved : goal.clauses-preserved
clauses-preserved c = λ e.
    let one = turn c e in
    runs_on clauses_run c.args.allowance c.requires (c.clauses.invariant e) one.goes one.took refl one.long

-- no clause begins
pub returns-in_default : goal.returns-in_default
returns-in_default c = λ e.
    clauses_end c.requires (c.clauses.invariant e) c.peek.ensures (λ z. omega arith) (λ k a b e. omega arith)

pub returns-in_default-2 : goal.returns-in_default-2
returns-in_default-2 c = λ e.
    clauses_end c.requires (c.clauses.invariant e) c.peek.ensures (λ z. omega arith) (λ k a b e. omega arith)
