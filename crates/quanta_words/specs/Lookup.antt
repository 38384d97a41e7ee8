-- What is made of a table once, so that words are looked up in it quickly.
use Rattle.std.specs.Prelude.{ℕ, ◌+◌, ◌*◌, ◌%◌, false, cond, List, ◌≡◌, eqb, length, get_or}
use Rattle.quanta_words.specs.Words.{held_in}
use Rattle.quanta_words.specs.Index.{Indexed}

-- a word's place in the sieve; that of a word of one byte is its own
abbrev pub key_of : List ℕ → ℕ
key_of w = cond (eqb (length w) 1) (1024 + get_or w 0 0) ((get_or w 0 0 * 32 + get_or w 1 0 * 5 + length w % 32) % 1024)

-- no word whose place in the sieve has 0 is in the table
abbrev pub Sifts : List ℕ → List ℕ → Type 0
Sifts t f = (w : List ℕ) → get_or f (key_of w) 0 ≡ 0 → held_in t w ≡ false

-- a sieve and an index of the table
pub record Prepared (t seen index : List ℕ) : Type 0 where
  pub sifts : Sifts t seen
  pub indexed : Indexed t index
