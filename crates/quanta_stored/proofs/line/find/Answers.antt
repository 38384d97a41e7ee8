-- The place of the first b, or the end.
-- Assumes nothing.
use Rattle.std.proofs.Common.{ℕ, rules, eqb, not, arith}
use Rattle.std.proofs.lemmas.Iterator.{YieldsList-from_slice}
use Rattle.std.proofs.lemmas.Iterator.Search.{position_from_yields_List}
use Rattle.std.proofs.lemmas.List.Sums.{prefix_len-le-length}
use borrow.Author.Tests.{tests}
use Rattle.quanta_stored.proofs.Laws.{first}
use Rattle.quanta_stored.proofs.line.find.Goals as goal

pub returns : goal.returns
returns c =
    let items = YieldsList-from_slice c.args.s.now c.iter.ensures.rest in
    let ran = c.position.ensures.ran in
    let found =
    position_from_yields_List (λ (x : ℕ). eqb x c.args.b) _ _ _ ran items (λ x b q k. search (rules, tests)) in
    let at = first (λ (x : ℕ). eqb x c.args.b) _ _ _ found c.unwrap_or.ensures in
    (at, omega (arith, prefix_len-le-length (λ (x : ℕ). not (eqb x c.args.b)) c.args.s.now))
