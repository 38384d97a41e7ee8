-- The text of a token.
use Rattle.std.specs.Prelude.{ℕ, ◌+◌, ◌-◌, cond, ◌&&◌, List, [], eqb, leb, length, take, drop}
use Rattle.quanta_token.specs.TokenKind.{code, Str, Date}

-- what is taken off before a text: a quote of a Str, the `@` of a Date
unfoldable pub front : ℕ → ℕ
front k = cond (eqb k (code Str)) 1 (cond (eqb k (code Date)) 1 0)

-- what is taken off behind it: a quote of a Str
unfoldable pub back : ℕ → ℕ
back k = cond (eqb k (code Str)) 1 0

-- the part of the source from a up to e
abbrev pub part : List ℕ → ℕ → ℕ → List ℕ
part s a e = take (e - a) (drop a s)

-- empty if the start is past the end, the end past the source, or the span too short for what is taken off
unfoldable pub text_of : List ℕ → ℕ → ℕ → ℕ → List ℕ
text_of s k start end =
    cond (leb start end && leb end (length s) && leb (front k + back k) (end - start)) (part s (start + front k) (end - back k)) []
