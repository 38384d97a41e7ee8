-- The loop's invariant is `Going`: what is read so far, and what is read from i on, make up the whole reading.
-- Assumes nothing.
use Prim.Native.Nat.{◌-◌}
use lib.ListN.{length}
use Rattle.quanta_lexer.proofs.TokensLaws.{Going}
use Rattle.quanta_lexer.proofs.scan.Lexer.run.Given as goal

abbrev pub invariant-loop-token : goal.invariant-loop-token
invariant-loop-token l = Going l.self.edition l.self.src.now l.self.words.now l.initial.tokens l.tokens l.n l.i.0

abbrev pub decreases-loop-token : goal.decreases-loop-token
decreases-loop-token l = length l.self.src.now - l.i.0
