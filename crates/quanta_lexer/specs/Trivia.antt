-- What stands before a token: blanks, and comments from `//` to before LF.
use Rattle.std.specs.Prelude.{ℕ, suc, ◌+◌, Bool, true, false, not, ◌&&◌, List, [], ◌∷◌, drop, get_or, eqb}
use Rattle.quanta_token.specs.Bytes.{blank}

-- how many bytes at the front of a list are trivia, where the flag says that a comment is open
unfoldable pub trivia : Bool → List ℕ → ℕ
trivia inside [] = 0
trivia true (c ∷ cs) = suc (trivia (not (eqb c 0x0A)) cs)
trivia false (c ∷ cs) =
    elim (blank c) [
      | true ↦ suc (trivia false cs)
      | false ↦ elim (eqb c 0x2F && eqb (get_or cs 0 0) 0x2F) [ true ↦ suc (trivia true cs) | false ↦ 0 ]
    ]

-- the first place at or after i that is in no blank and in no comment
unfoldable pub trivia_end : List ℕ → ℕ → ℕ
trivia_end s i = i + trivia false (drop i s)

-- `//` stands at i
abbrev pub comment_at : List ℕ → ℕ → Bool
comment_at s i = eqb (get_or s i 0) 0x2F && eqb (get_or s (i + 1) 0) 0x2F
