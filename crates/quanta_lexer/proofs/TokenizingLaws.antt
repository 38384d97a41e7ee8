-- The laws of the whole reading: the places of the refusals 3 to 5, and the three answers.
use Prim.Native.Nat.{ℕ, zero, suc, ◌+◌, ◌-◌, ◌*◌, ◌/◌, ◌≤◌, ◌<◌}
use mathlib.Core.Path.{◌≡◌, refl, ap, ◌∙◌}
use mathlib.Core.Bool.{Bool, true, false, cond}
use mathlib.Core.List.{List, [], ◌∷◌, ◌++◌, append-nil}
use native.Mathlib.Omega.{arith}
use lib.ListN.{length, take, drop, replicate, length-drop, drop_of_length-le}
use lib.Seq.{take_all}
use lib.Dec.{ltb, eqb}
use borrow.Author.Tests.{lt-ltb, le-ltb, ltb-true}
use Rattle.quanta_token.specs.declared.edition.Edition.{Edition}
use Rattle.utf8.specs.Utf8.{char_len, bad_from}
use Rattle.std.specs.Prelude.{Option, Some, None, Result, Ok, Err}
use Rattle.quanta_source.specs.Source.{bare_at, barred_at, check_from, checked}
use Rattle.quanta_source.specs.declared.source.Fault.{Fault}
use Rattle.quanta_source.specs.declared.source.Fault.TheVariants.{CarriageReturn, Barred}
use Rattle.quanta_lexer.specs.Tokens.{Tok, Ending, done, refused, Lexing, records, put}
use Rattle.quanta_lexer.specs.Tokens.{Read, read_for, read_of, lex_all}
use Rattle.quanta_lexer.specs.Refusals.{refusal, bad_table, table_limit}
use Rattle.quanta_lexer.specs.Tokenizing.{reading, or_else, Written, tokenizing, token_words}
use Rattle.quanta_lexer.proofs.TokensLaws.{length_put}
use Rattle.quanta_lexer.specs.declared.refusal.Failure.TheVariants.{Refused, Short}
use Rattle.quanta_lexer.specs.declared.refusal.Refusal.{Refusal}

-- where no sequence starts a byte stands
abbrev pub AtWithin : ℕ → Option ℕ → Type 0
AtWithin l (Some k) = k < l
AtWithin l None = Unit

pub bad_within : (n : ℕ) (s : List ℕ) (i : ℕ) → AtWithin (length s) (bad_from n s i)
unfolding bad_from
bad_within zero s i = tt
bad_within (suc n) s i = at (ltb i (length s)) refl (bad_within n s (i + char_len s i))
  where
    at :
        (b : Bool) →
        ltb i (length s) ≡ b →
        AtWithin (length s) (bad_from n s (i + char_len s i)) →
        AtWithin (length s) (cond b (cond (eqb (char_len s i) 0) (Some i) (bad_from n s (i + char_len s i))) None)
    at false h ih = tt
    at true h ih = by (eqb (char_len s i) 0)
      where
        by : (b : Bool) → AtWithin (length s) (cond b (Some i) (bad_from n s (i + char_len s i)))
        by true = ltb-true _ _ h
        by false = ih

pub bad_place : (s : List ℕ) (k : ℕ) → bad_from (length s) s 0 ≡ Some k → k < length s
bad_place s k h = rw h at (bad_within (length s) s 0)

-- a byte at fault stands within the source
abbrev pub FaultWithin : ℕ → Result Unit Fault → Type 0
FaultWithin l (Err (CarriageReturn k)) = k < l
FaultWithin l (Err (Barred k)) = k < l
FaultWithin l (Ok u) = Unit

fault_within : (n : ℕ) (s : List ℕ) (i : ℕ) → FaultWithin (n + i) (check_from n s i)
unfolding check_from
fault_within zero s i = tt
fault_within (suc n) s i = at (bare_at s i) (barred_at s i) (later (check_from n s (i + 1)) (fault_within n s (i + 1)))
  where
    later : (x : Result Unit Fault) → FaultWithin (n + (i + 1)) x → FaultWithin (suc n + i) x
    later (Err (CarriageReturn k)) h = omega arith
    later (Err (Barred k)) h = omega arith
    later (Ok u) h = tt

    at :
        (b c : Bool) →
        FaultWithin (suc n + i) (check_from n s (i + 1)) →
        FaultWithin (suc n + i) (cond b (Err (CarriageReturn i)) (cond c (Err (Barred i)) (check_from n s (i + 1))))
    at true c ih = omega arith
    at false true ih = omega arith
    at false false ih = ih

pub checked_within : (s : List ℕ) → FaultWithin (length s + 0) (checked s)
unfolding checked
checked_within s = fault_within (length s) s 0

pub return_place : (s : List ℕ) (k : ℕ) → checked s ≡ Err (CarriageReturn k) → k < length s
return_place s k h =
    let w : FaultWithin (length s + 0) (Err (CarriageReturn k)) = rw h at (checked_within s) in omega arith

pub barred_place : (s : List ℕ) (k : ℕ) → checked s ≡ Err (Barred k) → k < length s
barred_place s k h = let w : FaultWithin (length s + 0) (Err (Barred k)) = rw h at (checked_within s) in omega arith

-- where tokens are counted their records are written
pub written :
    (l : Lexing) (before after : List ℕ) (r : Read) →
    r ≡ read_of l →
    after ≡ put l.toks before →
    Written l.toks before after r
unfolding read_of
written l before after r e w = rw e (at l.ending)
  where
    at : (x : Ending) → Written l.toks before after (read_for (length l.toks) x)
    at done = (refl, w)
    at (refused k a b) = tt

pub unwritten :
    (ts : List Tok) (before after : List ℕ) {r : Read} {f : Refusal} → r ≡ Err f → Written ts before after r
unwritten ts before after e = rw e tt

pub stopped_unwritten : (ts : List Tok) (before after : List ℕ) (f : Refusal) → Written ts before after (Err f)
stopped_unwritten ts before after f = tt

-- a table that is too long is refused before anything else
pub long_table :
    (ed : Edition) (s t : List ℕ) →
    table_limit < length t →
    reading ed s t ≡ Err (refusal bad_table table_limit table_limit)
unfolding reading or_else
long_table ed s t h = rw (lt-ltb _ _ h)

three : (n : ℕ) → 3 * suc n ≡ suc (suc (suc (3 * n)))
three n = omega arith

-- the front of a buffer with room is the records
front : (ts : List Tok) (b : List ℕ) → 3 * length ts ≤ length b → take (3 * length ts) (put ts b) ≡ records ts
unfolding put
front [] b h = refl
front (t ∷ ts) [] h = absurd (omega arith)
front (t ∷ ts) (x ∷ []) h = absurd (omega arith)
front (t ∷ ts) (x ∷ y ∷ []) h = absurd (omega arith)
front (t ∷ ts) (x ∷ y ∷ z ∷ b) h =
    rw (three (length ts)) (ap (λ (l : List ℕ). t.kind ∷ t.start ∷ t.stop ∷ l) (front ts b (omega arith)))

module _ (ed : Edition) (s t : List ℕ) (words : ℕ) (r : Read) (e : r ≡ reading ed s t) where
  pub is_refused : (f : Refusal) → r ≡ Err f → Err (Refused f) ≡ tokenizing ed s t words
  unfolding tokenizing
  is_refused f h = rw (← e, h)

  pub is_short : (n : ℕ) → r ≡ Ok n → words / 3 < n → Err (Short n) ≡ tokenizing ed s t words
  unfolding tokenizing
  is_short n h l = rw (← e, h, lt-ltb (words / 3) n l)

  pub is_accepted : (n : ℕ) → r ≡ Ok n → n ≤ words / 3 → Ok n ≡ tokenizing ed s t words
  unfolding tokenizing
  is_accepted n h l = rw (← e, h, le-ltb (words / 3) n l)

-- the buffer after each answer, where it had so many words
pub words_refused :
    (ed : Edition) (s t : List ℕ) (words : ℕ) (f : Refusal) {n : ℕ} →
    n ≡ words →
    Err (Refused f) ≡ tokenizing ed s t words →
    replicate n 0 ≡ token_words ed s t words
unfolding token_words
words_refused ed s t words f e r = rw (← r, e)

pub words_short :
    (ed : Edition) (s t : List ℕ) (words k : ℕ) {n : ℕ} →
    n ≡ words →
    Err (Short k) ≡ tokenizing ed s t words →
    replicate n 0 ≡ token_words ed s t words
unfolding token_words
words_short ed s t words k e r = rw (← r, e)

module _ (ed : Edition) (s t : List ℕ) (words n : ℕ) (b b' z : List ℕ) where
  -- the records, and zeros in the place of what was behind them
  pub words_accepted :
      length b' ≡ words →
      3 * n ≤ words →
      (n ≡ length (lex_all ed s t).toks) × (b' ≡ put (lex_all ed s t).toks b) →
      z ≡ replicate (length (take (length b' - 3 * n) (drop (3 * n) b'))) 0 →
      Ok n ≡ tokenizing ed s t words →
      take (3 * n) b' ++ (z ++ drop (length b' - 3 * n) (drop (3 * n) b')) ≡ token_words ed s t words
  unfolding token_words
  words_accepted l h w e r =
      let ts = (lex_all ed s t).toks in
      let lb : length b' ≡ length b = ap length w.1 ∙ length_put ts b in
      let head : take (3 * n) b' ≡ records ts = rw (w.1, w.0) (front ts b (omega (arith, w.0))) in
      let left : length (drop (3 * n) b') ≤ length b' - 3 * n = omega (arith, length-drop (3 * n) b') in
      let none : drop (length b' - 3 * n) (drop (3 * n) b') ≡ [] = drop_of_length-le (drop (3 * n) b') left in
      let size : length (take (length b' - 3 * n) (drop (3 * n) b')) ≡ words - 3 * n =
      ap length (take_all (length b' - 3 * n) (drop (3 * n) b') left) ∙ omega (arith, length-drop (3 * n) b') in
      rw (← r, head, none, append-nil z, e, size)
