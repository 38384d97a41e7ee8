-- What `read_source` answers, and 11 where there is too little room.
-- Assumes nothing.
use mathlib.Core.Path.{◌≡◌, ◌∙◌}
use lib.ListN.{length}
use native.Mathlib.Omega.{arith}
use Rattle.quanta_lexer.proofs.TokenizingLaws.{is_refused, is_short, is_accepted}
use Rattle.quanta_lexer.proofs.TokenizingLaws.{words_refused, words_short, words_accepted}
use Rattle.quanta_lexer.proofs.lexer.tokenize.Goals as goal

pub returns-then-tokens-n : goal.returns-then-tokens-n
returns-then-tokens-n c =
    let w = length c.args.tokens.now in
    let room : length c.read_source.new.tokens ≡ w = omega arith in
    let a = is_short _ _ _ w _ c.read_source.ensures.answer _ c.in-Ok.is (omega arith) in
    record { answer = a; words = c.fill-then-tokens-n.ensures.after (λ y h. h) ∙ words_short _ _ _ w _ room a }

pub returns-in-Err : goal.returns-in-Err
returns-in-Err c =
    let w = length c.args.tokens.now in
    let room : length c.read_source.new.tokens ≡ w = omega arith in
    let a = is_refused _ _ _ w _ c.read_source.ensures.answer _ c.in-Err.is in
    record { answer = a; words = c.fill.ensures.after (λ y h. h) ∙ words_refused _ _ _ w _ room a }

pub returns-else-tokens-n : goal.returns-else-tokens-n
returns-else-tokens-n c =
    let w = length c.args.tokens.now in
    let room : length c.read_source.new.tokens ≡ w = omega arith in
    let written = rw c.in-Ok.is at c.read_source.ensures.words in
    let a = is_accepted _ _ _ w _ c.read_source.ensures.answer _ c.in-Ok.is (omega arith) in
    record { answer = a; words = words_accepted _ _ _ w _ _ _ _ room (omega arith) written (c.fill-in-Ok.ensures.after (λ y h. h)) a }
