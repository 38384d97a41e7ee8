use Prim.Native.Nat.{ℕ, ◌≤◌}
use mathlib.Core.Path.{◌≡◌, ap, ◌∙◌}
use mathlib.Core.List.{List}
use lib.ListN.{length}
use Rattle.std.specs.Prelude.{Ok}
use Rattle.std.proofs.lemmas.Result.{err_from_is_err_and}
use native.Mathlib.Omega.{arith}
use Rattle.quanta_token.specs.declared.edition.Edition.{Edition}
use Rattle.quanta_lexer.specs.Refusals.{source_limit}
use Rattle.quanta_lexer.specs.Trivia.{trivia_end}
use Rattle.quanta_lexer.proofs.TriviaLaws.{skip_bounds}
use Rattle.quanta_lexer.proofs.TokensLaws.{Going, going_start, going_token, going_end, going_refused}
use Rattle.quanta_lexer.proofs.TokensLaws.{token_within}
use Rattle.quanta_lexer.proofs.scan.Lexer.run.Goals as goal

-- where the next token is looked for
here :
    (ed : Edition) (s t b₀ b : List ℕ) (n i j : ℕ) →
    Going ed s t b₀ b n i →
    length s ≤ source_limit →
    j ≡ trivia_end s i →
    (n ≤ source_limit) × (i ≤ j) × (j ≤ source_limit)
here ed s t b₀ b n i j g l e =
    let p = skip_bounds s i j g.within e in
    (omega (arith, g.few, g.within, l), p.0, omega (arith, p.1, l))

pub loop-token-init : goal.loop-token-init
loop-token-init c = going_start _ _ _ _

pub skip_trivia-here-requires : goal.skip_trivia-here-requires
skip_trivia-here-requires c = c.loop-token.invariant.within

pub returns-in_err-token : goal.returns-in_err-token
returns-in_err-token c =
    let p = err_from_is_err_and c.from_residual.result c.from_residual.ensures.1 in
    rw (p.1, p.2)
    (going_refused _ _ _ _ _ _ _ _ c.loop-token.invariant c.skip_trivia-here.ensures _ c.next_token.ensures
    c.in_err-token.was)

pub write_token-requires : goal.write_token-requires
write_token-requires c =
    let h = here _ _ _ _ _ _ _ _ c.loop-token.invariant c.requires c.skip_trivia-here.ensures in
    let x = c.in_ok-token.was ∙ ap Ok c.in-Some.is in
    let w = token_within _ _ _ _ _ c.next_token.ensures x in
    omega (arith, h, w, c.requires)

pub overflow_add-n : goal.overflow_add-n
overflow_add-n c =
    omega (arith, here _ _ _ _ _ _ _ _ c.loop-token.invariant c.requires c.skip_trivia-here.ensures)

pub loop-token-smaller : goal.loop-token-smaller
loop-token-smaller c =
    let h = here _ _ _ _ _ _ _ _ c.loop-token.invariant c.requires c.skip_trivia-here.ensures in
    let x = c.in_ok-token.was ∙ ap Ok c.in-Some.is in
    let w = token_within _ _ _ _ _ c.next_token.ensures x in
    omega (arith, h, w)

pub loop-token-preserved : goal.loop-token-preserved
loop-token-preserved c =
    let h = here _ _ _ _ _ _ _ _ c.loop-token.invariant c.requires c.skip_trivia-here.ensures in
    let x = c.in_ok-token.was ∙ ap Ok c.in-Some.is in
    let w = token_within _ _ _ _ _ c.next_token.ensures x in
    going_token _ _ _ _ _ _ _ _ c.loop-token.invariant c.skip_trivia-here.ensures _ _ (omega (arith, h, w), w.2)
    c.next_token.ensures x c.write_token.ensures

-- at the end of the source
pub write_token-requires-in-None : goal.write_token-requires-in-None
write_token-requires-in-None c =
    omega (arith, here _ _ _ _ _ _ _ _ c.loop-token.invariant c.requires c.skip_trivia-here.ensures)

pub overflow_add-count : goal.overflow_add-count
overflow_add-count c =
    omega (arith, here _ _ _ _ _ _ _ _ c.loop-token.invariant c.requires c.skip_trivia-here.ensures)

pub returns-in-None : goal.returns-in-None
returns-in-None c =
    going_end _ _ _ _ _ _ _ _ c.loop-token.invariant c.skip_trivia-here.ensures _ c.next_token.ensures
    (c.in_ok-token.was ∙ ap Ok c.in-None.is) c.write_token-in-None.ensures
