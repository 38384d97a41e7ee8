use Prim.Native.Nat.{ℕ, ◌%◌, ◌<◌}
use native.Mathlib.Nat.{mod-lt}
use native.Mathlib.Omega.{arith}
use borrow.Author.Tests.{eq-eqb, ne_eqb}
use Rattle.quanta_words.proofs.lookup.key.Goals as goal

below : (n : ℕ) → n % 1024 < 1280
below n = let h : n % 1024 < 1024 = mod-lt n (omega arith) in omega arith

pub returns-then-word-eq1-clause-value : goal.returns-then-word-eq1-clause-value
returns-then-word-eq1-clause-value c = rw (eq-eqb _ _ c.if-word-eq1.true, c.peek.ensures)

pub returns-clause-value : goal.returns-clause-value
returns-clause-value c = rw (ne_eqb _ _ c.if-word-eq1.false, c.peek-2.ensures, c.peek-3.ensures)

pub returns-clause-small : goal.returns-clause-small
returns-clause-small c = below _
