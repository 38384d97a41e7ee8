-- The same by the tests that the original makes, on a byte and the two after it.
use Rattle.std.specs.Prelude.{ℕ, ◌≤◌, ◌<◌, Bool, false, not, ◌&&◌, ◌||◌, List, ◌≡◌, eqb, leb}
use Rattle.quanta_source.specs.Source.{LF, CR, bare_at, barred_at}

-- lo ≤ c ≤ hi
abbrev pub within : ℕ → ℕ → ℕ → Bool
within lo hi c = leb lo c && leb c hi

abbrev pub is_bare : ℕ → ℕ → Bool
is_bare c d = eqb c CR && not (eqb d LF)

abbrev pub is_mark : ℕ → ℕ → ℕ → Bool
is_mark c d e = eqb c 0xEF && eqb d 0xBB && eqb e 0xBF

abbrev pub is_barred : ℕ → ℕ → ℕ → Bool
is_barred c d e =
    eqb c 0xC2 && eqb d 0x85 ||
    eqb c 0xC2 && eqb d 0xAD ||
    eqb c 0xD8 && eqb d 0x9C ||
    eqb c 0xE1 && eqb d 0xA0 && eqb e 0x8E ||
    eqb c 0xE2 && eqb d 0x80 && within 0x8B 0x8F e ||
    eqb c 0xE2 && eqb d 0x80 && within 0xA8 0xAE e ||
    eqb c 0xE2 && eqb d 0x81 && within 0xA0 0xA4 e ||
    eqb c 0xE2 && eqb d 0x81 && within 0xA6 0xAF e ||
    eqb c 0xEF && eqb d 0xBF && within 0xB9 0xBB e

-- a byte that a barred character begins with
abbrev pub is_lead : ℕ → Bool
is_lead c = eqb c 0xC2 || eqb c 0xD8 || eqb c 0xE1 || eqb c 0xE2 || eqb c 0xEF

-- nothing of it stands at i
abbrev pub Fine : List ℕ → ℕ → Type 0
Fine s i = (bare_at s i ≡ false) × (barred_at s i ≡ false)

-- nothing of it stands at a place from a up to e
abbrev pub FineIn : List ℕ → ℕ → ℕ → Type 0
FineIn s a e = (i : ℕ) → a ≤ i → i < e → Fine s i
