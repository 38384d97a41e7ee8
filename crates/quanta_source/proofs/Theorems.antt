-- What the answer of the pass says, and the barred characters by their bytes.
use Prim.Native.Nat.{ℕ, ◌+◌, ◌<◌}
use mathlib.Core.Path.{◌≡◌, refl}
use mathlib.Core.Bool.{true, ◌&&◌, ◌||◌}
use mathlib.Core.List.{List, [], ◌∷◌}
use lib.Dec.{ltb}
use lib.ListN.{length, get_or}
use Rattle.std.specs.Prelude.{Ok, Err}
use Rattle.quanta_source.specs.declared.source.Fault.TheVariants.{CarriageReturn, Barred}
use Rattle.quanta_source.specs.Source.{encode, begins, stands_at, any, bare_at, barred_at, check_from, checked}
use Rattle.quanta_source.specs.Tests.{is_barred, is_mark, FineIn}
use Rattle.quanta_source.proofs.Bytes.{barred_by_bytes}
use Rattle.quanta_source.proofs.Laws.{first}

-- a barred character stands at a place exactly where the original's tests of the byte there and the two after it say so
pub by_bytes : (s : List ℕ) (i : ℕ) → barred_at s i ≡ (is_barred (get_or s i 0) (get_or s (i + 1) 0) (get_or s (i + 2) 0) || is_mark (get_or s i 0) (get_or s (i + 1) 0) (get_or s (i + 2) 0) && ltb 0 i)
by_bytes = barred_by_bytes

-- a source that is found clean holds no CR without LF and no barred character
pub clean : (s : List ℕ) → checked s ≡ Ok tt → FineIn s 0 (length s)
clean s e = rw e at (first s)

-- a CR without LF stands where one is found, within the source, and nothing of it before
pub carriage_return :
    (s : List ℕ) (i : ℕ) →
    checked s ≡ Err (CarriageReturn i) →
    (i < length s) × (bare_at s i ≡ true) × FineIn s 0 i
carriage_return s i e = let f = rw e at (first s) in (f.1, f.2, f.3)

-- a barred character stands where one is found, within the source, and nothing of it before
pub barred_character_lem :
    (s : List ℕ) (i : ℕ) →
    checked s ≡ Err (Barred i) →
    (i < length s) × (barred_at s i ≡ true) × FineIn s 0 i
barred_character_lem s i e = let f = rw e at (first s) in (f.1, f.3, f.4)

-- FEFF then `1`, and `1` then FEFF
pub mark_first : checked (0xEF ∷ 0xBB ∷ 0xBF ∷ 0x31 ∷ []) ≡ Ok tt
unfolding encode begins stands_at any bare_at barred_at check_from checked
mark_first = refl

pub mark_later : checked (0x31 ∷ 0xEF ∷ 0xBB ∷ 0xBF ∷ []) ≡ Err (Barred 1)
unfolding encode begins stands_at any bare_at barred_at check_from checked
mark_later = refl
