-- Both are digits.
-- Assumes nothing.
use Prim.Native.Nat.{◌+◌, ◌*◌}
use Rattle.std.specs.Option.{is_some}
use Rattle.std.proofs.Common.{arith, ap, sym, ◌∙◌}
use Rattle.quanta_stored.proofs.Laws.{digit_in, byte_of}
use Rattle.quanta_stored.proofs.line.byte.Goals as goal

pub unwrap-high-requires : goal.unwrap-high-requires
unwrap-high-requires c = ap is_some c.digit.ensures.value ∙ digit_in c.args.part.now (2 * c.args.j) (omega arith)

pub unwrap-low-requires : goal.unwrap-low-requires
unwrap-low-requires c = ap is_some c.digit-2.ensures.value ∙ digit_in c.args.part.now (2 * c.args.j + 1) (omega arith)

pub returns : goal.returns
returns c =
    let high = sym c.digit.ensures.value ∙ c.unwrap-high.ensures in
    let low = sym c.digit-2.ensures.value ∙ c.unwrap-low.ensures in
    byte_of _ _ _ _ high low
