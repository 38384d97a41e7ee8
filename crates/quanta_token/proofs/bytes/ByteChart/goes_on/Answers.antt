use native.Mathlib.Omega.{arith}
use Rattle.quanta_token.proofs.ByteLaws.{blank_class, digit_class, word_in, word_out}
use Rattle.quanta_token.proofs.bytes.ByteChart.goes_on.Goals as goal

pub returns-in-Blanks : goal.returns-in-Blanks
returns-in-Blanks c = rw (c.in-Blanks.is, c.eq.ensures, c.class.ensures) (blank_class c.args.c (omega arith))

pub returns-in-WordStart : goal.returns-in-WordStart
returns-in-WordStart c =
    rw c.in-Word.is
    (word_in c.args.c c.class-in-Word.result (omega arith) c.class-in-Word.ensures c.in-WordStart.is)

pub returns-in_default : goal.returns-in_default
returns-in_default c =
    rw c.in-Word.is
    (word_out c.args.c c.class-in-Word.result (omega arith) c.class-in-Word.ensures
    c.in_default.not-WordStart c.in_default.not-Digit)

pub returns-in-Number : goal.returns-in-Number
returns-in-Number c =
    rw (c.in-Number.is, c.eq-in-Number.ensures, c.class-in-Number.ensures, digit_class c.args.c (omega arith))
