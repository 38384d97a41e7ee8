-- The chart's class of the first byte picks the case.
use Prim.Native.Nat.{◌<◌}
use mathlib.Core.Path.{ap, sym, ◌∙◌}
use lib.ListN.{get_or}
use native.Mathlib.Omega.{arith}
use borrow.Author.Tests.{lt-ltb}
use Rattle.quanta_token.specs.Bytes.{class_of}
use Rattle.quanta_token.proofs.ByteLaws.{unlike, word_start_class, digit_class, quote_class}
use Rattle.quanta_lexer.specs.Scan.{token_at, choose}
use Rattle.quanta_lexer.proofs.scan.Lexer.next_token.Goals as goal

pub returns-in-WordStart : goal.returns-in-WordStart
unfolding token_at choose
returns-in-WordStart c =
    let b : get_or c.args.self.now.src.now c.args.at.0 0 < 256 = omega (arith, c.peek.ensures) in
    let k = sym (c.class.ensures ∙ ap class_of c.peek.ensures) ∙ c.in-WordStart.is in
    rw (lt-ltb _ _ c.if-self-start.false, ← word_start_class _ b, k) c.scan_word.ensures

pub returns-in-Digit : goal.returns-in-Digit
unfolding token_at choose
returns-in-Digit c =
    let b : get_or c.args.self.now.src.now c.args.at.0 0 < 256 = omega (arith, c.peek.ensures) in
    let k = sym (c.class.ensures ∙ ap class_of c.peek.ensures) ∙ c.in-Digit.is in
    rw (lt-ltb _ _ c.if-self-start.false, ← word_start_class _ b, ← digit_class _ b, k) c.scan_number.ensures

pub returns-in-Quote : goal.returns-in-Quote
unfolding token_at choose
returns-in-Quote c =
    let b : get_or c.args.self.now.src.now c.args.at.0 0 < 256 = omega (arith, c.peek.ensures) in
    let k = sym (c.class.ensures ∙ ap class_of c.peek.ensures) ∙ c.in-Quote.is in
    rw (lt-ltb _ _ c.if-self-start.false, ← word_start_class _ b, ← digit_class _ b, ← quote_class _ b, k)
    c.scan_string.ensures

pub returns-in_default : goal.returns-in_default
unfolding token_at choose
returns-in_default c =
    let b : get_or c.args.self.now.src.now c.args.at.0 0 < 256 = omega (arith, c.peek.ensures) in
    let k = c.class.ensures ∙ ap class_of c.peek.ensures in
    rw (
      lt-ltb _ _ c.if-self-start.false,
      sym (word_start_class _ b) ∙ unlike _ _ _ k c.in_default.not-WordStart,
      sym (digit_class _ b) ∙ unlike _ _ _ k c.in_default.not-Digit,
      sym (quote_class _ b) ∙ unlike _ _ _ k c.in_default.not-Quote,
    )
    c.scan_symbol.ensures
