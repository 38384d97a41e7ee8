-- The promise, by induction over the reading.
use Prim.Native.Nat.{ℕ, zero, suc, ◌+◌, ◌≤◌, ◌<◌}
use mathlib.Core.Path.{◌≡◌, refl}
use mathlib.Core.List.{List, ◌∷◌}
use native.Mathlib.Omega.{arith}
use lib.ListN.{length}
use Rattle.quanta_token.specs.declared.edition.Edition.{Edition}
use Rattle.quanta_token.specs.TokenKind.{code, Ident, Eof}
use Rattle.quanta_lexer.specs.Promise.{InOrder, eof, more, Promised}
use Rattle.quanta_lexer.specs.Refusals.{source_limit}
use Rattle.quanta_lexer.specs.Scan.{Lexed, token_at}
use Rattle.quanta_lexer.specs.Tokens.{Tok, tok, Ending, done, refused, go_on, lex_from, lex_all}
use Rattle.quanta_lexer.specs.Trivia.{trivia_end}
use Rattle.std.specs.Prelude.{Some, None, Ok, Err}
use Rattle.quanta_lexer.proofs.ScanLaws.{Numbered, StandsAt, token_stands}
use Rattle.quanta_lexer.proofs.TriviaLaws.{skip_bounds}

-- a reading from i on that ends well has its tokens in order; one that does not is refused inside the source
abbrev Ends : Edition → ℕ → ℕ → List Tok → Ending → Type 0
Ends ed l i ts done = InOrder l i ts
Ends ed l i ts (refused k a e) = Numbered ed k a e × (a ≤ e) × (e ≤ l)

-- a token before a reading
before :
    (ed : Edition) (l i k a e : ℕ) (ts : List Tok) (x : Ending) →
    (code Ident ≤ k) × (k < code Eof) × (i ≤ a) × (a < e) × (e ≤ l) →
    Ends ed l e ts x →
    Ends ed l i (tok k a e ∷ ts) x
before ed l i k a e ts done (lo, hi, f, b, w) h = more k a e lo hi f b w h
before ed l i k a e ts (refused n b f) p h = h

module _ (ed : Edition) (s t : List ℕ) where
  -- at most n tokens from i on
  abbrev EndsFrom : ℕ → ℕ → Type 0
  EndsFrom n i = Ends ed (length s) i (lex_from ed n s t i).toks (lex_from ed n s t i).ending

  ends : (n i : ℕ) → i ≤ length s → length s < n + i → EndsFrom n i
  unfolding lex_from
  ends zero i h g = absurd (omega arith)
  ends (suc n) i h g = at (λ j l d. ends n j l d) (token_at ed s t (trivia_end s i)) (token_stands ed s t (trivia_end s i))
    where
      b : (i ≤ trivia_end s i) × (trivia_end s i ≤ length s)
      b = skip_bounds s i (trivia_end s i) h refl

      at :
          ((j : ℕ) → j ≤ length s → length s < n + j → EndsFrom n j) →
          (x : Lexed) →
          StandsAt ed s (trivia_end s i) x →
          let l = go_on (λ j. lex_from ed n s t j) (trivia_end s i) x in Ends ed (length s) i l.toks l.ending
      at ih (Ok (Some x)) w =
          let e = x.end.0 in
          before ed (length s) i x.kind x.start.0 e (lex_from ed n s t e).toks (lex_from ed n s t e).ending
          (w.3, w.4, omega (arith, b, w), omega (arith, w), w.2)
          (ih e w.2 (omega (arith, b, w)))
      at ih (Ok None) w = eof (trivia_end s i) b.0 b.1
      at ih (Err r) w = (w.3, omega (arith, w), w.2)

  all_ends : Ends ed (length s) 0 (lex_all ed s t).toks (lex_all ed s t).ending
  unfolding lex_all
  all_ends = ends (suc (length s)) 0 (omega arith) (omega arith)

  pub in_order : (lex_all ed s t).ending ≡ done → InOrder (length s) 0 (lex_all ed s t).toks
  in_order h = rw h at all_ends

  pub refused_inside :
      (k a e : ℕ) → (lex_all ed s t).ending ≡ refused k a e → Numbered ed k a e × (a ≤ e) × (e ≤ length s)
  refused_inside k a e h = rw h at all_ends

-- tokens in order are at most the bytes that are left, and one
counted : (l i : ℕ) (ts : List Tok) → i ≤ l → InOrder l i ts → length ts + i ≤ l + 1
counted l i ts h (eof a p q) = omega arith
counted l i ts h (more k a e lo hi p q r o) = let c = counted l e _ r o in omega arith

pub promised :
    (ed : Edition) (s t : List ℕ) (n : ℕ) →
    length s ≤ source_limit →
    (lex_all ed s t).ending ≡ done →
    length (lex_all ed s t).toks ≡ n →
    Promised s (lex_all ed s t).toks n
promised ed s t n l h e =
    let o = in_order ed s t h in
    let c = counted (length s) 0 (lex_all ed s t).toks (omega arith) o in
    record { limited = l; counted = e; ordered = o; few = omega arith }
