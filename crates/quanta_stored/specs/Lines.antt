-- What stands in a line: fields parted by one blank, numbers in decimal digits, bytes in hexadecimal digits.
use Rattle.std.specs.Prelude.{ℕ, ◌+◌, ◌-◌, ◌*◌, ◌/◌, ◌%◌, ◌<◌, Bool, cond, ◌&&◌, List, [], ◌∷◌, ◌≡◌, Option, Some, None, option_and_then, option_map, unwrap_or, fold, leb, ltb, eqb, length, take, drop, get_or}
use Rattle.std.specs.List.{position_or_len}
use Rattle.std.specs.Option.{is_none}

abbrev pub BLANK : ℕ
BLANK = 0x20

abbrev pub DASH : ℕ
DASH = 0x2D

abbrev pub STAR : ℕ
STAR = 0x2A

-- one more than the largest number
abbrev pub LIMIT : ℕ
LIMIT = 4294967296

-- the bytes before the first b
abbrev pub before : ℕ → List ℕ → ℕ
before b = position_or_len (λ x. eqb x b)

-- what stands behind so many blanks
unfoldable pub behind : ℕ → List ℕ → List ℕ
behind n [] = []
behind n (x ∷ xs) = cond (eqb n 0) (x ∷ xs) (behind (cond (eqb x BLANK) (n - 1) n) xs)

-- the field behind so many blanks
abbrev pub field_of : ℕ → List ℕ → List ℕ
field_of n xs = take (before BLANK (behind n xs)) (behind n xs)

-- what a digit stands for
unfoldable pub digit_of : ℕ → Option ℕ
digit_of b = cond (leb 48 b && leb b 57) (Some (b - 48)) (cond (leb 97 b && leb b 102) (Some (b - 87)) None)

-- a number with one digit more, below ten, where that is below the limit
unfoldable pub with_digit : ℕ → Option ℕ → Option ℕ
with_digit v None = None
with_digit v (Some d) = cond (ltb d 10 && ltb (v * 10 + d) LIMIT) (Some (v * 10 + d)) None

abbrev pub grown : Option ℕ → ℕ → Option ℕ
grown v b = option_and_then (λ n. with_digit n (digit_of b)) v

-- the number that a field is, if it is one
unfoldable pub number_of : List ℕ → Option ℕ
number_of bs = cond (eqb (length bs) 0) None (fold grown (Some 0) bs)

-- the hexadecimal digits in front
abbrev pub digits_of : List ℕ → ℕ
digits_of = position_or_len (λ b. is_none (digit_of b))

-- how often they are taken: once, or as often as the number behind a star says
unfoldable pub times_of : List ℕ → Option ℕ
times_of bs =
    cond
    (eqb (digits_of bs) (length bs))
    (Some 1)
    (cond (eqb (get_or bs (digits_of bs) 0) STAR) (number_of (drop (digits_of bs + 1) bs)) None)

-- `-` is written for no bytes
unfoldable pub is_dash : List ℕ → Bool
is_dash bs = eqb (length bs) 1 && eqb (get_or bs 0 0) DASH

-- how many bytes an even number of digits stands for
abbrev pub bytes_of : List ℕ → Option ℕ
bytes_of bs = option_map (λ t. digits_of bs / 2 * t) (times_of bs)

-- how many bytes a field of at most 65,535 digits stands for, if it is well-formed
unfoldable pub size_of : List ℕ → Option ℕ
size_of bs =
    cond
    (ltb 65535 (length bs))
    None
    (cond
    (is_dash bs)
    (Some 0)
    (cond (eqb (digits_of bs) 0) None (cond (eqb (digits_of bs % 2) 0) (bytes_of bs) None)))

-- the byte that two digits stand for; 16 is for another byte
abbrev pub digit_at : List ℕ → ℕ → ℕ
digit_at bs k = unwrap_or (digit_of (get_or bs k 0)) 16

unfoldable pub byte_at : List ℕ → ℕ → ℕ
byte_at bs j = digit_at bs (2 * j) * 16 + digit_at bs (2 * j + 1)

-- a buffer that holds the bytes of a field, again and again, up to n
abbrev pub Filled : List ℕ → ℕ → List ℕ → Type 0
Filled bs n out = (k : ℕ) → k < n → get_or out k 0 ≡ byte_at bs (k % (digits_of bs / 2))
