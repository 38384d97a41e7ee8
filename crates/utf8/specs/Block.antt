-- Blocks of bytes that are looked at together.
use Rattle.std.specs.Prelude.{ℕ, zero, suc, ◌+◌, Bool, true, ◌&&◌, List, leb, get_or}

abbrev pub ascii : ℕ → Bool
ascii c = leb c 0x7F

-- p holds of the n bytes from i on
unfoldable pub every : (ℕ → Bool) → ℕ → List ℕ → ℕ → Bool
every p zero s i = true
every p (suc n) s i = every p n s i && p (get_or s (i + n) 0)
