-- The place of the first byte that is no digit, or the end.
-- Assumes nothing.
use Rattle.std.proofs.Common.{ℕ, rules, arith}
use Rattle.std.specs.Option.{is_none}
use Rattle.std.proofs.lemmas.Iterator.{YieldsList-from_slice}
use Rattle.std.proofs.lemmas.Iterator.Search.{position_from_yields_List}
use borrow.Author.Tests.{tests}
use Rattle.quanta_stored.proofs.Laws.{first, digits_le}
use Rattle.quanta_stored.specs.Lines.{digit_of}
use Rattle.quanta_stored.proofs.line.digits.Goals as goal

pub returns : goal.returns
returns c =
    let items = YieldsList-from_slice c.args.part.now c.iter.ensures.rest in
    let ran = c.position.ensures.ran in
    let found =
    position_from_yields_List (λ (b : ℕ). is_none (digit_of b)) _ _ _ ran items (λ x b q k. search (rules, tests)) in
    let at = first (λ (b : ℕ). is_none (digit_of b)) _ _ _ found c.unwrap_or.ensures in
    (at, omega (arith, digits_le c.args.part.now))
