-- The laws of the records and of one turn of the reading.
use Prim.Native.Nat.{ℕ, zero, suc, ◌+◌, ◌*◌, ◌≤◌, ◌<◌}
use mathlib.Core.Path.{◌≡◌, refl, ap, sym, ◌∙◌}
use mathlib.Core.Bool.{Bool, true, false}
use mathlib.Core.List.{List, [], ◌∷◌, ◌++◌, append_assoc, append-nil}
use native.Mathlib.Omega.{arith}
use lib.ListN.{length, set, length-append}
use lib.Dec.{leb}
use borrow.Author.Tests.{le-leb, lt-leb, leb-true, leb-false}
use Rattle.quanta_token.specs.declared.edition.Edition.{Edition}
use Rattle.quanta_token.specs.TokenKind.{code, Eof}
use Rattle.quanta_lexer.specs.Trivia.{trivia_end}
use Rattle.quanta_lexer.specs.Scan.{Lexed, token_at}
use Rattle.quanta_lexer.proofs.ScanLaws.{StandsAt, token_stands}
use Rattle.quanta_lexer.specs.Tokens.{Tok, tok, done, refused, Lexing, lex_from, lex_all}
use Rattle.quanta_lexer.specs.Tokens.{read_of, put, store}
use Rattle.std.specs.Prelude.{Some, None, Ok, Err}
use Rattle.quanta_lexer.specs.declared.refusal.Refusal.{Refusal}
use Rattle.quanta_lexer.specs.declared.scan.Token.{Token}

pub length_put : (ts : List Tok) (b : List ℕ) → length (put ts b) ≡ length b
unfolding put
length_put [] b = refl
length_put (t ∷ ts) [] = refl
length_put (t ∷ ts) (x ∷ []) = refl
length_put (t ∷ ts) (x ∷ y ∷ []) = refl
length_put (t ∷ ts) (x ∷ y ∷ z ∷ b) = ap (λ (n : ℕ). suc (suc (suc n))) (length_put ts b)

pub store_room :
    (n : ℕ) (t : Tok) (b : List ℕ) →
    3 * n + 3 ≤ length b →
    store n t b ≡ set (set (set b (3 * n) t.kind) (3 * n + 1) t.start) (3 * n + 2) t.stop
unfolding store
store_room n t b h = rw (le-leb (3 * n + 3) (length b) h)

pub store_full : (n : ℕ) (t : Tok) (b : List ℕ) → length b < 3 * n + 3 → store n t b ≡ b
unfolding store
store_full n t b h = rw (lt-leb (3 * n + 3) (length b) h)

-- a store past the first record
past : (x y z : ℕ) (b : List ℕ) (i j v : ℕ) → j ≡ suc (suc (suc i)) → set (x ∷ y ∷ z ∷ b) j v ≡ x ∷ y ∷ z ∷ set b i v
past x y z b i j v e = rw e

store_past : (n : ℕ) (t : Tok) (x y z : ℕ) (b : List ℕ) → store (suc n) t (x ∷ y ∷ z ∷ b) ≡ x ∷ y ∷ z ∷ store n t b
store_past n t x y z b = at (leb (3 * n + 3) (length b)) refl
  where
    at : (r : Bool) → leb (3 * n + 3) (length b) ≡ r → store (suc n) t (x ∷ y ∷ z ∷ b) ≡ x ∷ y ∷ z ∷ store n t b
    at true e =
        let h = leb-true (3 * n + 3) (length b) e in
        let b₁ = set b (3 * n) t.kind in
        let b₂ = set b₁ (3 * n + 1) t.start in
        store_room (suc n) t (x ∷ y ∷ z ∷ b) (omega arith) ∙
        rw (
          past x y z b (3 * n) (3 * suc n) t.kind (omega arith),
          past x y z b₁ (3 * n + 1) (3 * suc n + 1) t.start (omega arith),
          past x y z b₂ (3 * n + 2) (3 * suc n + 2) t.stop (omega arith),
          store_room n t b h,
        )
    at false e =
        let h = leb-false (3 * n + 3) (length b) e in
        store_full (suc n) t (x ∷ y ∷ z ∷ b) (omega arith) ∙ rw (store_full n t b h)

-- a record after those that are there
pub put_more : (ts : List Tok) (t : Tok) (b : List ℕ) → put (ts ++ (t ∷ [])) b ≡ store (length ts) t (put ts b)
unfolding put
put_more [] t [] = sym (store_full 0 t [] (omega arith))
put_more [] t (x ∷ []) = sym (store_full 0 t (x ∷ []) (omega arith))
put_more [] t (x ∷ y ∷ []) = sym (store_full 0 t (x ∷ y ∷ []) (omega arith))
put_more [] t (x ∷ y ∷ z ∷ b) = sym (store_room 0 t (x ∷ y ∷ z ∷ b) (omega arith))
put_more (u ∷ us) t [] = sym (store_full (suc (length us)) t [] (omega arith))
put_more (u ∷ us) t (x ∷ []) = sym (store_full (suc (length us)) t (x ∷ []) (omega arith))
put_more (u ∷ us) t (x ∷ y ∷ []) = sym (store_full (suc (length us)) t (x ∷ y ∷ []) (omega arith))
put_more (u ∷ us) t (x ∷ y ∷ z ∷ b) =
    rw (put_more us t b) (sym (store_past (length us) t u.kind u.start u.stop (put us b)))

lex_more :
    (n : ℕ) (ed : Edition) (s t : List ℕ) (i at : ℕ) (x : Token) →
    at ≡ trivia_end s i →
    token_at ed s t at ≡ Ok (Some x) →
    let rest = lex_from ed n s t x.end.0 in
    lex_from ed (suc n) s t i ≡ record { toks = tok x.kind x.start.0 x.end.0 ∷ rest.toks; ending = rest.ending }
unfolding lex_from
lex_more n ed s t i at x p h = rw (← p, h)

lex_end :
    (n : ℕ) (ed : Edition) (s t : List ℕ) (i at : ℕ) →
    at ≡ trivia_end s i →
    token_at ed s t at ≡ Ok None →
    lex_from ed (suc n) s t i ≡ record { toks = tok (code Eof) at at ∷ []; ending = done }
unfolding lex_from
lex_end n ed s t i at p h = rw (← p, h)

lex_refused :
    (n : ℕ) (ed : Edition) (s t : List ℕ) (i at : ℕ) (r : Refusal) →
    at ≡ trivia_end s i →
    token_at ed s t at ≡ Err r →
    lex_from ed (suc n) s t i ≡ record { toks = []; ending = refused r.number r.start r.end }
unfolding lex_from
lex_refused n ed s t i at r p h = rw (← p, h)

-- the reading stands at i, after n tokens, with the records b: what is read is acc, and what is left is what is read
-- from i
pub record Going (ed : Edition) (s t b₀ b : List ℕ) (n i : ℕ) : Type 0 where
  pub acc : List Tok
  pub left : ℕ
  pub within : i ≤ length s
  pub counted : length acc ≡ n
  pub few : n ≤ i
  pub enough : length s < left + i
  pub rest : (lex_all ed s t).toks ≡ acc ++ (lex_from ed left s t i).toks
  pub last : (lex_all ed s t).ending ≡ (lex_from ed left s t i).ending
  pub buffer : b ≡ put acc b₀

pub going_start : (ed : Edition) (s t b : List ℕ) → Going ed s t b b 0 0
unfolding lex_all put
going_start ed s t b =
    record {
      acc = [];
      left = suc (length s);
      within = omega arith;
      counted = refl;
      few = omega arith;
      enough = omega arith;
      rest = refl;
      last = refl;
      buffer = refl;
    }

one_more : (left i l : ℕ) → l < left + i → i ≤ l → (m : ℕ) × (left ≡ suc m)
one_more zero i l h k = absurd (omega arith)
one_more (suc m) i l h k = (m, refl)

module _ (ed : Edition) (s t b₀ b : List ℕ) (n i at : ℕ) (g : Going ed s t b₀ b n i) (p : at ≡ trivia_end s i) where
  -- the reading from i, as one turn gives it
  turn :
      (r : ℕ → Lexing) →
      ((m : ℕ) → lex_from ed (suc m) s t i ≡ r m) →
      (m : ℕ) ×
      (length s < suc m + i) ×
      ((lex_all ed s t).toks ≡ g.acc ++ (r m).toks) ×
      ((lex_all ed s t).ending ≡ (r m).ending)
  turn r f =
      let o = one_more g.left i (length s) g.enough g.within in
      let q : lex_from ed g.left s t i ≡ r o.0 = ap (λ (k : ℕ). lex_from ed k s t i) o.1 ∙ f o.0 in (
        o.0,
        omega (arith, g.enough, o.1),
        g.rest ∙ ap (λ (l : Lexing). g.acc ++ l.toks) q,
        g.last ∙ ap (λ (l : Lexing). l.ending) q,
      )

  pub going_token :
      (x : Token) (b' : List ℕ) {l : Lexed} →
      (i < x.end.0) × (x.end.0 ≤ length s) →
      l ≡ token_at ed s t at →
      l ≡ Ok (Some x) →
      b' ≡ store n (tok x.kind x.start.0 x.end.0) b →
      Going ed s t b₀ b' (n + 1) x.end.0
  going_token x b' l f h w =
      let one = tok x.kind x.start.0 x.end.0 in
      let rest : ℕ → Lexing = λ m. lex_from ed m s t x.end.0 in
      let next : ℕ → Lexing = λ m. record { toks = one ∷ (rest m).toks; ending = (rest m).ending } in
      let u = turn next (λ m. lex_more m ed s t i at x p (sym f ∙ h)) in
      record {
        acc = g.acc ++ (one ∷ []);
        left = u.0;
        within = l.1;
        counted = length-append g.acc (one ∷ []) ∙ rw g.counted;
        few = omega (arith, g.few);
        enough = omega (arith, u.1);
        rest = u.2 ∙ sym (append_assoc g.acc (one ∷ []) (lex_from ed u.0 s t x.end.0).toks);
        last = u.3;
        buffer = w ∙ rw (g.buffer, ← g.counted) (sym (put_more g.acc one b₀));
      }

  pub going_end :
      (b' : List ℕ) {x : Lexed} →
      x ≡ token_at ed s t at →
      x ≡ Ok None →
      b' ≡ store n (tok (code Eof) at at) b →
      (Ok (n + 1) ≡ read_of (lex_all ed s t)) × (b' ≡ put (lex_all ed s t).toks b₀)
  unfolding read_of
  going_end b' f h w =
      let last : ℕ → Lexing = λ _. record { toks = tok (code Eof) at at ∷ []; ending = done } in
      let u = turn last (λ m. lex_end m ed s t i at p (sym f ∙ h)) in (
        rw (u.2, u.3, length-append g.acc (tok (code Eof) at at ∷ []), g.counted),
        w ∙ rw (u.2, g.buffer, ← g.counted) (sym (put_more g.acc (tok (code Eof) at at) b₀)),
      )

  pub going_refused :
      (r : Refusal) {l : Lexed} →
      l ≡ token_at ed s t at →
      l ≡ Err r →
      (Err r ≡ read_of (lex_all ed s t)) × (b ≡ put (lex_all ed s t).toks b₀)
  unfolding read_of
  going_refused r f h =
      let last : ℕ → Lexing = λ _. record { toks = []; ending = refused r.number r.start r.end } in
      let u = turn last (λ m. lex_refused m ed s t i at r p (sym f ∙ h)) in
      (rw u.3, rw (u.2, append-nil g.acc) g.buffer)

pub token_within :
    (ed : Edition) (s t : List ℕ) (at : ℕ) (x : Token) {l : Lexed} →
    l ≡ token_at ed s t at →
    l ≡ Ok (Some x) →
    StandsAt ed s at (Ok (Some x))
token_within ed s t at x f h = rw (sym f ∙ h) at (token_stands ed s t at)
