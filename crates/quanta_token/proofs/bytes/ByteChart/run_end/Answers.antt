use Rattle.std.proofs.Common.{ℕ, rules, not, length, arith}
use Rattle.std.proofs.lemmas.Slice.{between_to_end}
use Rattle.std.proofs.lemmas.Iterator.{YieldsList-from_slice}
use Rattle.std.proofs.lemmas.Iterator.Search.{position_from_yields_List}
use Rattle.quanta_token.specs.Bytes.{goes_on}
use Rattle.quanta_token.proofs.RunLaws.{end_at}
use Rattle.quanta_token.proofs.bytes.ByteChart.run_end.Goals as goal

pub returns : goal.returns
returns c =
    let items = YieldsList-from_slice _ c.iter.ensures.rest in
    let found =
    position_from_yields_List (λ (x : ℕ). not (goes_on c.args.run x)) _ _ _ c.position-stop.ensures.ran items
    (λ x b q k. search rules) in
    end_at (goes_on c.args.run) c.args.src.now c.args.from
    (between_to_end c.args.src.now c.args.from (length c.args.src.now) (omega arith)) found c.unwrap_or.ensures
