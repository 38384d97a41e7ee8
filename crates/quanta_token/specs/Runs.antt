-- Runs of bytes.
use Rattle.std.specs.Prelude.{ℕ, suc, ◌+◌, Bool, true, false, List, [], ◌∷◌, drop}

-- how many bytes at the front of a list pass p
unfoldable pub run : (ℕ → Bool) → List ℕ → ℕ
run p [] = 0
run p (c ∷ cs) = elim (p c) [ true ↦ suc (run p cs) | false ↦ 0 ]

-- the first place at or after i that p does not pass, or the end
unfoldable pub run_end : (ℕ → Bool) → List ℕ → ℕ → ℕ
run_end p s i = i + run p (drop i s)
