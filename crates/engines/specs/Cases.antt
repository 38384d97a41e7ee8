-- What a made-up list is read with.
-- Assumes nothing.
use Rattle.std.specs.Prelude.{ℕ, ◌<◌, ◌≤◌, List, length}
use Rattle.quanta_cursor.specs.Tokens.{Ready}
use Rattle.engines.specs.declared.made.Case.{Case}

-- it lies within the buffers: 150 tokens, 1,200 words of a tree
pub record Sound (c : Case) : Type 0 where
  pub many : c.count ≤ 150
  pub room : c.room ≤ 1200
  pub inside : c.at < c.count
  pub fits : c.no ≤ c.at
  pub allowance : c.allowance ≤ 64

-- both engines may be asked, over the words t and u
pub record Lent (c : Case) (ws t u : List ℕ) : Type 0 where
  pub ready : Ready ws c.at c.no
  pub allowance : c.allowance ≤ 64
  pub one : c.room ≤ length t
  pub two : c.room ≤ length u
