use mathlib.Core.Path.{sym, ◌∙◌}
use native.Mathlib.Omega.{arith}
use lib.ListN.{length}
use Rattle.utf8.specs.Utf8.{char_len}
use Rattle.utf8.proofs.Laws.{char_inside, len_none, len_some, past, stop, next, past_ascii}
use Rattle.utf8.proofs.first_bad.Goals as goal

pub loop-i-preserved-then-ascii_block : goal.loop-i-preserved-then-ascii_block
loop-i-preserved-then-ascii_block c =
    let s = c.args.s.now in
    let l = c.loop-i in
    let all = sym c.ascii_block.ensures ∙ c.if-ascii_block.true in
    (omega arith, l.invariant.1 ∙ past_ascii s 32 (length s) l.i (omega arith) (omega arith) all)

pub returns-in_default : goal.returns-in_default
returns-in_default c =
    let s = c.args.s.now in
    let l = c.loop-i in
    let e = len_none (char_len s l.i) (sym c.in_default.is ∙ c.char_len.ensures) in
    sym (l.invariant.1 ∙ stop s (length s) l.i c.loop-i-test.true (omega arith) e)

pub overflow_add-i : goal.overflow_add-i
overflow_add-i c =
    let s = c.args.s.now in
    let i = c.loop-i.i in
    let e = len_some (char_len s i) (sym c.in-Some.is ∙ c.char_len.ensures) in
    omega (arith, char_inside s i c.loop-i.invariant.0, e.0)

pub loop-i-smaller : goal.loop-i-smaller
loop-i-smaller c =
    let s = c.args.s.now in
    let e = len_some (char_len s c.loop-i.i) (sym c.in-Some.is ∙ c.char_len.ensures) in
    omega (arith, e.0, e.1, c.loop-i-test.true)

pub loop-i-preserved : goal.loop-i-preserved
loop-i-preserved c =
    let s = c.args.s.now in
    let l = c.loop-i in
    let e = len_some (char_len s l.i) (sym c.in-Some.is ∙ c.char_len.ensures) in
    let more = next s (length s) l.i c.loop-i-test.true (omega arith) (λ z. omega (arith, e.1, z)) in
    (omega (arith, char_inside s l.i l.invariant.0, e.0), rw e.0 (l.invariant.1 ∙ more))

pub returns : goal.returns
returns c =
    let s = c.args.s.now in
    sym (c.loop-i.invariant.1 ∙ past s (length s) c.loop-i.i c.loop-i-test.false)
