-- What each answer says of the source, by the tests that lead to it.
use Prim.Native.Nat.{ℕ, ◌+◌, ◌/◌, ◌≤◌, ◌<◌}
use mathlib.Core.Path.{◌≡◌, refl, ap, sym, ◌∙◌}
use mathlib.Core.Bool.{Bool, true, false}
use mathlib.Core.List.{List}
use mathlib.Core.Logic.{⊎_elim}
use native.Mathlib.Omega.{arith}
use lib.ListN.{length}
use lib.Dec.{ltb}
use borrow.Author.Tests.{ltb-true, ltb-false}
use Rattle.quanta_token.specs.declared.edition.Edition.{Edition}
use Rattle.quanta_token.specs.declared.edition.Edition.TheVariants.{One, Two}
use Rattle.utf8.specs.Utf8.{first_bad}
use Rattle.std.specs.Prelude.{Option, Some, None, Result, Ok, Err}
use Rattle.quanta_source.specs.Source.{checked}
use Rattle.quanta_source.specs.declared.source.Fault.{Fault}
use Rattle.quanta_source.specs.declared.source.Fault.TheVariants.{CarriageReturn, Barred}
use Rattle.quanta_words.specs.Words.{bad_in}
use Rattle.quanta_lexer.specs.Promise.{Lies, in_table, in_source, at_date}
use Rattle.quanta_lexer.specs.Refusals.{long_source, not_utf8, bare_return, barred_character, other_byte, no_day}
use Rattle.quanta_lexer.specs.Refusals.{source_limit, table_limit}
use Rattle.quanta_lexer.specs.Tokens.{Ending, done, refused, Lexing, Read, read_for, read_of, lex_all}
use Rattle.quanta_lexer.specs.Tokenizing.{or_else, well_or, clean_or, reading}
use Rattle.quanta_lexer.specs.Tokenizing.{Answer, room_for, in_room, tokenizing, token_words}
use Rattle.quanta_lexer.specs.declared.refusal.Failure.TheVariants.{Refused, Short}
use Rattle.quanta_lexer.specs.declared.refusal.Refusal.{Refusal}
use Rattle.quanta_lexer.specs.FirstNoDay.{AllDays, FirstNoDay}
use Rattle.quanta_lexer.proofs.EditionLaws.{lex_both}
use Rattle.quanta_lexer.proofs.PromiseLaws.{refused_inside}
use Rattle.quanta_lexer.proofs.TokenizingLaws.{AtWithin, bad_within, FaultWithin, checked_within}

module _ (ed : Edition) (s t : List ℕ) where
  -- n tokens up to the end of a source within the limit
  abbrev pub Whole : ℕ → Type 0
  Whole n = (length s ≤ source_limit) × ((lex_all ed s t).ending ≡ done) × (length (lex_all ed s t).toks ≡ n)

  abbrev Told : Read → Type 0
  Told (Ok n) = Whole n
  Told (Err r) = Lies ed s t r.number r.start r.end

  by_test : (b : Bool) (x y : Read) → (b ≡ true → Told x) → (b ≡ false → Told y) → Told (or_else b x y)
  unfolding or_else
  by_test true x y f g = f refl
  by_test false x y f g = g refl

  module _ (l : length s ≤ source_limit) where
    -- a byte of the source
    byte : (k i : ℕ) → i < length s → long_source ≤ k → k ≤ other_byte → Lies ed s t k i (i + 1)
    byte k i h lo hi = in_source k i (i + 1) lo hi (omega arith) (omega arith) (omega arith)

    by_bytes : (f : Option ℕ) (y : Read) → AtWithin (length s) f → Told y → Told (well_or f y)
    unfolding well_or
    by_bytes (Some i) y h g = byte not_utf8 i h (omega arith) (omega arith)
    by_bytes None y h g = g

    by_source : (f : Result Unit Fault) (y : Read) → FaultWithin (length s + 0) f → Told y → Told (clean_or f y)
    unfolding clean_or
    by_source (Err (CarriageReturn i)) y h g = byte bare_return i (omega arith) (omega arith) (omega arith)
    by_source (Err (Barred i)) y h g = byte barred_character i (omega arith) (omega arith) (omega arith)
    by_source (Ok u) y h g = g

    by_tokens : Told (read_of (lex_all ed s t))
    unfolding read_of
    by_tokens = at (lex_all ed s t).ending refl
      where
        at : (x : Ending) → (lex_all ed s t).ending ≡ x → Told (read_for (length (lex_all ed s t).toks) x)
        at done e = (l, e, refl)
        at (refused k a b) e =
            let r = refused_inside ed s t k a b e in
            ⊎_elim (λ h. in_source k a b (omega arith) h.1 r.1 r.2 (omega (arith, r)))
            (λ h. rw h.1 (at_date a b h.0 h.2 r.2 (omega (arith, r)))) r.0

  told : Told (reading ed s t)
  unfolding reading
  told =
      by_test _ _ _ (λ h. in_table table_limit (ltb-true _ _ h) (omega arith))
      (λ m.
      let short = ltb-false table_limit (length t) m in
      by_test _ _ _
      (λ h. let b = ltb-true (bad_in t) (length t) h in in_table (bad_in t) b (omega arith))
      (λ _.
      by_test _ _ _
      (λ h.
      let l = ltb-true source_limit (length s) h in
      in_source long_source source_limit source_limit (omega arith) (omega arith) (omega arith) (omega arith) (omega arith))
      (λ h.
      let l = ltb-false source_limit (length s) h in
      by_bytes l (first_bad s) _ (bad_within (length s) s 0)
      (by_source l (checked s) _ (checked_within s) (by_tokens l)))))

  module _ (words : ℕ) where
    abbrev pub Said : Answer → Type 0
    Said (Ok n) = Whole n × (n ≤ words / 3)
    Said (Err (Short n)) = Whole n × (words / 3 < n)
    Said (Err (Refused r)) = Lies ed s t r.number r.start r.end

    pub said : Said (tokenizing ed s t words)
    unfolding tokenizing
    said = at (reading ed s t) told
      where
        at : (x : Read) → Told x → Said (in_room words x)
        at (Err r) h = h
        at (Ok n) h = room (ltb (words / 3) n) refl
          where
            room : (b : Bool) → ltb (words / 3) n ≡ b → Said (room_for b n)
            room true e = (h, ltb-true _ _ e)
            room false e = (h, ltb-false _ _ e)

pub lies_small : {ed : Edition} {s t : List ℕ} {k a e : ℕ} → Lies ed s t k a e → (a ≤ source_limit) × (e ≤ source_limit)
lies_small (in_table a h l) = (omega arith, omega arith)
lies_small (in_source k a e lo hi h w l) = (omega arith, omega arith)
lies_small (at_date a e d w h l) = (omega arith, omega arith)

-- a refusal does not depend on the room
pub any_room :
    (ed : Edition) (s t : List ℕ) (words w : ℕ) {f : Refusal} →
    tokenizing ed s t words ≡ Err (Refused f) →
    tokenizing ed s t w ≡ Err (Refused f)
unfolding tokenizing
any_room ed s t words w h = at (reading ed s t) h
  where
    at : {f : Refusal} (r : Read) → in_room words r ≡ Err (Refused f) → in_room w r ≡ Err (Refused f)
    at (Err r) h = h
    at (Ok n) h = absurd (room (ltb (words / 3) n) h)
      where
        room : {f : Refusal} (b : Bool) → room_for b n ≡ Err (Refused f) → ⊥
        room true h = let z : ◌≡◌ {A = ℕ} 0 1 = cc in omega arith
        room false h = let z : ◌≡◌ {A = ℕ} 0 1 = cc in omega arith

-- edition 1 has no 28
pub lies_one : {s t : List ℕ} {k a e : ℕ} → Lies One s t k a e → k ≡ no_day → ⊥
lies_one (in_table a h l) q = omega arith
lies_one (in_source k a e lo hi h w l) q = omega arith
lies_one (at_date a e d w h l) q = let z : ◌≡◌ {A = ℕ} 0 1 = cc in omega arith

module _ (s t : List ℕ) (words : ℕ) (h : lex_all Two s t ≡ lex_all One s t) where
  pub same_answer : tokenizing Two s t words ≡ tokenizing One s t words
  unfolding tokenizing reading
  same_answer = rw h

  pub same_words : token_words Two s t words ≡ token_words One s t words
  unfolding token_words
  same_words = rw (h, same_answer)

-- a reading of edition 2 that ends well stops at no Date
pub ended_well :
    (s t : List ℕ) →
    (lex_all Two s t).ending ≡ done →
    AllDays s (lex_all One s t).toks × (lex_all Two s t ≡ lex_all One s t)
ended_well s t h = ⊎_elim (λ p. p) (λ f. absurd (never f)) (lex_both s t)
  where
    never : FirstNoDay s (lex_all One s t) (lex_all Two s t) → ⊥
    never f =
        let e = ap (λ (l : Lexing). l.ending) f.stops in
        let z : ◌≡◌ {A = ℕ} 0 1 = cc (sym h ∙ e) in omega arith
