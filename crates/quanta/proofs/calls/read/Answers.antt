-- `quanta::calls::read` meets its contract: whichever way a call goes, it conforms, and is faithful.
-- Assumes nothing.
use native.Mathlib.Omega.{arith}
use lib.ListN.{length}
use Rattle.quanta_parser.specs.Whole.{symbol_of}
use Rattle.quanta_reading.proofs.Faithful.{faithful}
use Rattle.quanta_reading.proofs.Conforming.{call_of, lexical, stands, room, small, cut, whole}
use Rattle.quanta.proofs.calls.read.Goals as goal

pub overflow_mul-used : goal.overflow_mul-used
overflow_mul-used c =
    omega (
      arith,
      small c.args.edition (symbol_of c.args.call) c.args.source.now c.args.words.now (length c.args.tokens.now)
          c.tokenize.ensures.answer c.in-Ok.is c.tokenize.ensures.words,
    )

pub slice_bounds-whole-end : goal.slice_bounds-whole-end
slice_bounds-whole-end c =
    omega (
      arith,
      room c.args.edition (symbol_of c.args.call) c.args.source.now c.args.words.now (length c.args.tokens.now)
          c.tokenize.ensures.answer c.in-Ok.is c.tokenize.ensures.words,
    )

pub slice_bounds-whole-end-in-Ok : goal.slice_bounds-whole-end-in-Ok
slice_bounds-whole-end-in-Ok c =
    cut c.args.edition (symbol_of c.args.call) c.args.source.now c.args.words.now (length c.args.tokens.now)
    c.tokenize.ensures.answer c.in-Ok.is c.tokenize.ensures.words

pub whole-parsed-requires : goal.whole-parsed-requires
whole-parsed-requires c =
    stands c.args.edition (symbol_of c.args.call) c.args.source.now c.args.words.now (length c.args.tokens.now)
    c.tokenize.ensures.answer c.in-Ok.is c.tokenize.ensures.words

pub returns-in-Err : goal.returns-in-Err
returns-in-Err c =
    faithful (call_of c.args.call)
    (lexical c.args.edition (symbol_of c.args.call) c.args.source.now c.args.words.now (length c.args.tokens.now)
    (length c.args.tree.now) c.tokenize.ensures.answer c.in-Err.is c.refuse.ensures.0 c.tokenize.ensures.words c.refuse.ensures.1)

pub returns-in-Ok : goal.returns-in-Ok
returns-in-Ok c =
    faithful (call_of c.args.call)
    (whole c.args.edition (symbol_of c.args.call) c.args.source.now c.args.words.now (length c.args.tokens.now)
    c.tokenize.ensures.answer c.in-Ok.is c.tokenize.ensures.words c.whole-parsed.result c.whole-parsed.ensures (omega arith) c.finish.ensures)
