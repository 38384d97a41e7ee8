-- UTF-8 by the ABNF of RFC 3629, section 4.
use Rattle.std.specs.Prelude.{ℕ, zero, suc, ◌+◌, ◌<◌, Bool, true, false, ◌&&◌, cond, ◌≡◌, leb, ltb, eqb, length, take, drop, Option, Some, None}
use mathlib.Core.List.{List, [], ◌∷◌, ◌++◌, Memᴰ}

-- %xLOW-HIGH: one byte of that range
pub record Octet : Type 0 where
  pub low : ℕ
  pub high : ℕ

infix 80 ◌to◌
abbrev pub ◌to◌ : ℕ → ℕ → Octet
a to b = record { low = a; high = b }

-- %xBYTE: that byte
abbrev pub is : ℕ → Octet
is c = c to c

-- UTF8-tail = %x80-BF
abbrev pub tail : Octet
tail = 0x80 to 0xBF

-- UTF8-1 = %x00-7F
abbrev pub utf8_1 : List (List Octet)
utf8_1 = (0x00 to 0x7F ∷ []) ∷ []

-- UTF8-2 = %xC2-DF UTF8-tail
abbrev pub utf8_2 : List (List Octet)
utf8_2 = (0xC2 to 0xDF ∷ tail ∷ []) ∷ []

-- UTF8-3 = %xE0 %xA0-BF UTF8-tail / %xE1-EC 2( UTF8-tail ) / %xED %x80-9F UTF8-tail / %xEE-EF 2( UTF8-tail )
abbrev pub utf8_3 : List (List Octet)
utf8_3 =
    (is 0xE0 ∷ 0xA0 to 0xBF ∷ tail ∷ []) ∷
    (0xE1 to 0xEC ∷ tail ∷ tail ∷ []) ∷
    (is 0xED ∷ 0x80 to 0x9F ∷ tail ∷ []) ∷
    (0xEE to 0xEF ∷ tail ∷ tail ∷ []) ∷
    []

-- UTF8-4 = %xF0 %x90-BF 2( UTF8-tail ) / %xF1-F3 3( UTF8-tail ) / %xF4 %x80-8F 2( UTF8-tail )
abbrev pub utf8_4 : List (List Octet)
utf8_4 =
    (is 0xF0 ∷ 0x90 to 0xBF ∷ tail ∷ tail ∷ []) ∷
    (0xF1 to 0xF3 ∷ tail ∷ tail ∷ tail ∷ []) ∷
    (is 0xF4 ∷ 0x80 to 0x8F ∷ tail ∷ tail ∷ []) ∷
    []

-- UTF8-char = UTF8-1 / UTF8-2 / UTF8-3 / UTF8-4
abbrev pub utf8_char : List (List Octet)
utf8_char = utf8_1 ++ utf8_2 ++ utf8_3 ++ utf8_4

-- the bytes at the front of a list are of these ranges, one after the other
unfoldable pub fits : List Octet → List ℕ → Bool
fits [] s = true
fits (o ∷ os) [] = false
fits (o ∷ os) (c ∷ s) = leb o.low c && leb c o.high && fits os s

-- how many bytes the first of these forms has that the front of a list fits; 0 for none
unfoldable pub form_len : List (List Octet) → List ℕ → ℕ
form_len [] s = 0
form_len (f ∷ fs) s = cond (fits f s) (length f) (form_len fs s)

-- how many bytes the well-formed sequence at i has; 0 where none starts
abbrev pub char_len : List ℕ → ℕ → ℕ
char_len s i = form_len utf8_char (drop i s)

-- the length of a sequence, where one starts
unfoldable pub some_len : ℕ → Option ℕ
some_len zero = None
some_len (suc n) = Some (suc n)

-- taking sequence after sequence from i on, n at most: the first offset where none starts, if there is one
unfoldable pub bad_from : ℕ → List ℕ → ℕ → Option ℕ
bad_from zero s i = None
bad_from (suc n) s i = cond (ltb i (length s)) (cond (eqb (char_len s i) 0) (Some i) (bad_from n s (i + char_len s i))) None

-- the first offset where no well-formed sequence starts; a text has no more sequences than bytes
abbrev pub first_bad : List ℕ → Option ℕ
first_bad s = bad_from (length s) s 0

-- w is one well-formed sequence
pub record Char (w : List ℕ) : Type 0 where
  pub form : List Octet
  pub listed : Memᴰ form utf8_char
  pub fit : fits form w ≡ true
  pub size : length w ≡ length form

-- UTF8-octets = *( UTF8-char )
pub data Octets : List ℕ → Type 0 where
  none : Octets []
  more : {w s : List ℕ} → Char w → Octets s → Octets (w ++ s)

-- sequence after sequence stands before i, and none starts there
pub record BadAt (s : List ℕ) (i : ℕ) : Type 0 where
  pub inside : i < length s
  pub before : Octets (take i s)
  pub starts_none : (w r : List ℕ) → Char w → drop i s ≡ w ++ r → ⊥
