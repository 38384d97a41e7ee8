-- What a place tells: no mark lands on another clause than its own.
use Prim.Native.Nat.{ℕ, ◌+◌, ◌≤◌}
use mathlib.Core.Path.{◌≡◌}
use mathlib.Core.List.{List}
use lib.ListN.{length}
use Rattle.quanta_text.specs.Places.{place_of}
use Rattle.quanta_text.proofs.PlaceLaws as laws

-- the column is at most the offset plus 1
pub column_bound : (s : List ℕ) (o : ℕ) → (place_of s o).column ≤ o + 1
column_bound = laws.column_bound

-- a place has one offset: two offsets within the source with the same place are equal
pub one_offset : (s : List ℕ) (a b : ℕ) → a ≤ length s → b ≤ length s → place_of s a ≡ place_of s b → a ≡ b
one_offset = laws.one_offset
