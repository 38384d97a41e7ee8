use Rattle.std.proofs.Common.{rules}
use Rattle.quanta_token.specs.declared.bytes.ByteClass.TheVariants.{WordStart}
use Rattle.quanta_token.proofs.bytes.ByteChart.new.Goals as goal

pub invariant_of-result : goal.invariant_of-result
invariant_of-result c =
    record { right = λ k l. let h = c.from_fn.ensures.items.at k WordStart l in let call = h.2 in search rules }
