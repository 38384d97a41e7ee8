-- What no source may hold: a CR without LF, and the barred characters, by their code points.
use Rattle.std.specs.Prelude.{ℕ, zero, suc, ◌+◌, ◌-◌, ◌/◌, ◌%◌, Bool, true, false, not, cond, ◌&&◌, ◌||◌, List, [], ◌∷◌, ◌++◌, eqb, ltb, length, get_or, drop, Result, Ok, Err}
use Rattle.quanta_source.specs.declared.source.Fault.{Fault}
use Rattle.quanta_source.specs.declared.source.Fault.TheVariants.{CarriageReturn, Barred}

abbrev pub LF : ℕ
LF = 0x0A

abbrev pub CR : ℕ
CR = 0x0D

-- k numbers from n on
abbrev pub count : ℕ → ℕ → List ℕ
count zero n = []
count (suc k) n = n ∷ count k (n + 1)

infix 70 ◌to◌
abbrev pub ◌to◌ : ℕ → ℕ → List ℕ
lo to hi = count (hi + 1 - lo) lo

-- the code points that are barred wherever they stand
abbrev pub barred : List ℕ
barred =
    0x0085 ∷ 0x00AD ∷ 0x061C ∷ 0x180E ∷ []
    ++ 0x200B to 0x200F ++ 0x2028 to 0x202E ++ 0x2060 to 0x2064 ++ 0x2066 to 0x206F ++ 0xFFF9 to 0xFFFB

-- the code point that is barred except at offset 0
abbrev pub mark : ℕ
mark = 0xFEFF

-- the bytes of a code point (RFC 3629, section 3)
unfoldable pub encode : ℕ → List ℕ
encode n =
    cond (ltb n 0x80) (n ∷ [])
    (cond (ltb n 0x800) ((0xC0 + n / 64) ∷ (0x80 + n % 64) ∷ [])
    (cond (ltb n 0x10000) ((0xE0 + n / 4096) ∷ (0x80 + n / 64 % 64) ∷ (0x80 + n % 64) ∷ [])
    ((0xF0 + n / 262144) ∷ (0x80 + n / 4096 % 64) ∷ (0x80 + n / 64 % 64) ∷ (0x80 + n % 64) ∷ [])))

-- whether the first list is the front of the second
unfoldable pub begins : List ℕ → List ℕ → Bool
begins [] ys = true
begins (x ∷ xs) [] = false
begins (x ∷ xs) (y ∷ ys) = eqb y x && begins xs ys

-- the character with code point n stands at i
unfoldable pub stands_at : List ℕ → ℕ → ℕ → Bool
stands_at s i n = begins (encode n) (drop i s)

unfoldable pub any : (ℕ → Bool) → List ℕ → Bool
any p [] = false
any p (n ∷ ns) = p n || any p ns

-- a barred character stands at i
unfoldable pub barred_at : List ℕ → ℕ → Bool
barred_at s i = any (stands_at s i) barred || stands_at s i mark && ltb 0 i

-- a CR without LF stands at i
unfoldable pub bare_at : List ℕ → ℕ → Bool
bare_at s i = eqb (get_or s i 0) CR && not (eqb (get_or s (i + 1) 0) LF)

-- the first of the n bytes from i on that is a CR without LF or begins a barred character, at each byte the CR first
unfoldable pub check_from : ℕ → List ℕ → ℕ → Result Unit Fault
check_from zero s i = Ok tt
check_from (suc n) s i = cond (bare_at s i) (Err (CarriageReturn i)) (cond (barred_at s i) (Err (Barred i)) (check_from n s (i + 1)))

unfoldable pub checked : List ℕ → Result Unit Fault
checked s = check_from (length s) s 0
