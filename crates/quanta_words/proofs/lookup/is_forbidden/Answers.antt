use mathlib.Core.Path.{sym, ap, ◌∙◌}
use Prim.Native.Nat.{◌<◌}
use native.Mathlib.Omega.{arith}
use lib.ListN.{length, get_or}
use Rattle.std.proofs.lemmas.Grind.{common_steps}
use Rattle.quanta_words.proofs.lookup.is_forbidden.Goals as goal

pub returns-then-seen-key-eq0 : goal.returns-then-seen-key-eq0
returns-then-seen-key-eq0 c =
    sym (c.requires.sifts _ (ap (λ k. get_or c.args.seen.now k 0) (sym c.key.ensures.value) ∙ c.if-seen-key-eq0.true))

pub returns-then-not-probe : goal.returns-then-not-probe
returns-then-not-probe c =
    let some : 0 < length c.args.index.now = grind (arith, common_steps) in
    sym (c.requires.indexed some _ (sym c.probe.ensures ∙ c.if-not-probe.true))
