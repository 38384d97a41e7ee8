-- What the test of the word table says.
use Prim.Native.Nat.{ℕ, suc, ◌≤◌, ◌<◌}
use mathlib.Core.Path.{◌≡◌}
use mathlib.Core.Bool.{false}
use mathlib.Core.List.{List}
use native.Mathlib.Omega.{arith}
use lib.ListN.{length}
use Rattle.quanta_words.specs.Words.{record_at, bad_in}
use Rattle.quanta_words.proofs.WordLaws as laws

-- the first bad record lies in the table
pub bad_within : (t : List ℕ) → bad_in t ≤ length t
unfolding bad_in
bad_within t = laws.bad_within (suc (length t)) t 0 (omega arith)

-- no whole record stands there
pub bad_there : (t : List ℕ) → bad_in t < length t → record_at t (bad_in t) ≡ false
unfolding bad_in
bad_there t = laws.bad_there (suc (length t)) t 0 (omega arith)
