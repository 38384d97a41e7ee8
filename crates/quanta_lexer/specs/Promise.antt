-- What a caller may rely on: where the tokens and the refusals of a reading lie.
use Rattle.std.specs.Prelude.{ℕ, ◌+◌, ◌≤◌, ◌<◌, List, [], ◌∷◌, ◌≡◌, length}
use Rattle.quanta_token.specs.TokenKind.{code, Ident, Eof}
use Rattle.quanta_token.specs.declared.edition.Edition.{Edition}
use Rattle.quanta_token.specs.declared.edition.Edition.TheVariants.{Two}
use Rattle.quanta_lexer.specs.Refusals.{bad_table, long_source, other_byte, no_day, source_limit, table_limit}
use Rattle.quanta_lexer.specs.Tokens.{Tok, tok}

-- tokens in order from i on, inside so many bytes: each of a kind before Eof has at least a byte, and Eof stands last
-- and only there
pub data InOrder (bytes : ℕ) : ℕ → List Tok → Type 0 where
  eof : {i : ℕ} (a : ℕ) → i ≤ a → a ≤ bytes → InOrder bytes i (tok (code Eof) a a ∷ [])
  more :
      {i : ℕ} (k a e : ℕ) {ts : List Tok} →
      code Ident ≤ k →
      k < code Eof →
      i ≤ a →
      a < e →
      e ≤ bytes →
      InOrder bytes e ts →
      InOrder bytes i (tok k a e ∷ ts)

-- n tokens of a source within the limit: in order, and at most bytes plus one
pub record Promised (s : List ℕ) (ts : List Tok) (n : ℕ) : Type 0 where
  pub limited : length s ≤ source_limit
  pub counted : length ts ≡ n
  pub ordered : InOrder (length s) 0 ts
  pub few : n ≤ length s + 1

-- where a refusal lies, by its number, start and end: 1 at an offset of the table; 2 to 10 inside the source; 28 there
-- too, in edition 2 only, at the 11 bytes of a Date; all within the limits
pub data Lies (ed : Edition) (s t : List ℕ) : ℕ → ℕ → ℕ → Type 0 where
  in_table : (a : ℕ) → a < length t → a ≤ table_limit → Lies ed s t bad_table a a
  in_source :
      (k a e : ℕ) → long_source ≤ k → k ≤ other_byte → a ≤ e → e ≤ length s → e ≤ source_limit → Lies ed s t k a e
  at_date : (a e : ℕ) → ed ≡ Two → e ≡ a + 11 → e ≤ length s → e ≤ source_limit → Lies ed s t no_day a e
