-- The word table: records of the mark 46 57, a length byte 1 to 255, and that many bytes that form one word.
use Rattle.std.specs.Prelude.{ℕ, zero, suc, ◌+◌, ◌≤◌, ◌≡◌, Bool, false, cond, ◌&&◌, ◌||◌, List, [], ◌∷◌, length, get_or, take, drop, eqb, leb, ltb}
use Rattle.std.specs.List.{list_all}
use Rattle.quanta_token.specs.Bytes.{word_start, word_byte}
use Rattle.quanta_token.specs.Text.{same}

-- a letter or `_`, then letters, digits and `_`
unfoldable pub is_word : List ℕ → Bool
is_word [] = false
is_word (c ∷ cs) = word_start c && list_all word_byte cs

-- the length byte of the record at i, the place after the record, and the record's word
abbrev pub size_at : List ℕ → ℕ → ℕ
size_at t i = get_or t (i + 2) 0

abbrev pub after_at : List ℕ → ℕ → ℕ
after_at t i = i + 3 + size_at t i

abbrev pub word_at : List ℕ → ℕ → List ℕ
word_at t i = take (size_at t i) (drop (i + 3) t)

-- w is the word of the record at i, which ends in the table
pub record HasWord (t : List ℕ) (i : ℕ) (w : List ℕ) : Type 0 where
  pub is : w ≡ word_at t i
  pub next : i + (3 + length w) ≡ after_at t i
  pub inside : after_at t i ≤ length t

-- a whole record stands at i: the mark, a length byte, and that many bytes that form one word (no word is empty)
unfoldable pub record_at : List ℕ → ℕ → Bool
record_at t i =
    leb (after_at t i) (length t) &&
    eqb (get_or t i 0) 0x46 &&
    eqb (get_or t (i + 1) 0) 0x57 &&
    is_word (word_at t i)

-- the offset of the first bad record at or after i, or the table's length; the first number bounds how many are looked at
unfoldable pub bad_from : ℕ → List ℕ → ℕ → ℕ
bad_from zero t i = i
bad_from (suc n) t i = cond (ltb i (length t)) (cond (record_at t i) (bad_from n t (after_at t i)) i) i

unfoldable pub bad_in : List ℕ → ℕ
bad_in t = bad_from (suc (length t)) t 0

-- the words of the records from i on, in order
unfoldable pub words_from : ℕ → List ℕ → ℕ → List (List ℕ)
words_from zero t i = []
words_from (suc n) t i = cond (leb (after_at t i) (length t)) (word_at t i ∷ words_from n t (after_at t i)) []

unfoldable pub words_in : List ℕ → List (List ℕ)
words_in t = words_from (suc (length t)) t 0

-- whether a word is among words
unfoldable pub among : List (List ℕ) → List ℕ → Bool
among [] w = false
among (x ∷ xs) w = same w x || among xs w

-- whether a record of the table holds the word
unfoldable pub held_in : List ℕ → List ℕ → Bool
held_in t w = among (words_in t) w
