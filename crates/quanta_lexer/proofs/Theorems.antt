-- What a caller may rely on: the lexer's promises, each stated of the definitions that `tokenize` is proved to compute.
use Prim.Native.Nat.{ℕ, ◌+◌, ◌-◌, ◌*◌, ◌/◌, ◌≤◌, ◌<◌}
use mathlib.Core.Path.{◌≡◌, refl}
use mathlib.Core.Bool.{false, ◌&&◌, not, cond}
use mathlib.Core.List.{List, ◌∷◌, ◌++◌}
use mathlib.Core.Logic.{◌⊎◌}
use native.Mathlib.Omega.{arith}
use lib.ListN.{length, get_or, replicate}
use lib.Dec.{eqb}
use Rattle.std.specs.Prelude.{Some, Ok, Err}
use Rattle.quanta_token.specs.Symbols.{no_kind, pair_kind, single_kind}
use Rattle.quanta_token.specs.TokenKind.{code, Date}
use Rattle.quanta_token.specs.declared.edition.Edition.{Edition}
use Rattle.quanta_token.specs.declared.edition.Edition.TheVariants.{One, Two}
use Rattle.quanta_lexer.specs.Dates.{dates, read_all, told_all}
use Rattle.quanta_lexer.specs.Days.{leap_year, day_at}
use Rattle.quanta_lexer.specs.FirstNoDay.{AllDays, FirstNoDay}
use Rattle.quanta_lexer.specs.Promise.{Promised, Lies}
use Rattle.quanta_lexer.specs.Refusals.{refusal, other_byte, no_day, source_limit}
use Rattle.quanta_lexer.specs.Scan.{token, choose, date_at, symbol_at}
use Rattle.quanta_lexer.specs.Tokens.{Tok, tok, refused, records, lex_all}
use Rattle.quanta_lexer.specs.Tokenizing.{tokenizing, token_words}
use Rattle.quanta_lexer.specs.Years.{year_days, days_of, leaps_of}
use Rattle.quanta_lexer.specs.declared.refusal.Failure.TheVariants.{Refused, Short}
use Rattle.quanta_lexer.proofs.AnswerLaws.{Said, said, lies_small, lies_one, any_room}
use Rattle.quanta_lexer.proofs.AnswerLaws.{same_answer, same_words, ended_well}
use Rattle.quanta_lexer.proofs.EditionLaws.{lex_both, same_if_days, stops_there}
use Rattle.quanta_lexer.proofs.PromiseLaws.{promised}
use Rattle.quanta_lexer.proofs.Readings as readings
use Rattle.quanta_lexer.proofs.YearLaws as years

module _ (ed : Edition) (s t : List ℕ) (words : ℕ) where
  -- accepted: n tokens in order inside the source, Eof last and only there, at most bytes plus one; and there is room
  pub accepted : (n : ℕ) → tokenizing ed s t words ≡ Ok n → Promised s (lex_all ed s t).toks n × (n ≤ words / 3)
  accepted n h =
      let q : Said ed s t words (Ok n) = rw h at (said ed s t words) in
      (promised ed s t n q.0.0 q.0.1 q.0.2, q.1)

  -- 11: so many tokens, in order inside the source, and less room
  pub short : (n : ℕ) → tokenizing ed s t words ≡ Err (Short n) → Promised s (lex_all ed s t).toks n × (words / 3 < n)
  short n h =
      let q : Said ed s t words (Err (Short n)) = rw h at (said ed s t words) in
      (promised ed s t n q.0.0 q.0.1 q.0.2, q.1)

  -- 1 lies in the table, 2 to 10 and, in edition 2 only, 28 inside the source
  pub refusals_lie : (k a e : ℕ) → tokenizing ed s t words ≡ Err (Refused (refusal k a e)) → Lies ed s t k a e
  refusals_lie k a e h = let q : Said ed s t words (Err (Refused (refusal k a e))) = rw h at (said ed s t words) in q

  -- the counts and offsets of an answer are at most the limit plus one
  pub accepted_small : (n : ℕ) → tokenizing ed s t words ≡ Ok n → n ≤ source_limit + 1
  accepted_small n h = let p = (accepted n h).0 in omega (arith, p.few, p.limited)

  pub short_small : (n : ℕ) → tokenizing ed s t words ≡ Err (Short n) → n ≤ source_limit + 1
  short_small n h = let p = (short n h).0 in omega (arith, p.few, p.limited)

  pub refusals_small :
      (k a e : ℕ) → tokenizing ed s t words ≡ Err (Refused (refusal k a e)) → (a ≤ source_limit) × (e ≤ source_limit)
  refusals_small k a e h = lies_small (refusals_lie k a e h)

  -- records at the front, zeros behind
  pub records_then_zeros :
      (n : ℕ) →
      tokenizing ed s t words ≡ Ok n →
      token_words ed s t words ≡ records (lex_all ed s t).toks ++ replicate (words - 3 * n) 0
  unfolding token_words
  records_then_zeros n h = rw h

  -- after 1 to 10 and 28 all zero
  pub zeros_after_refusal :
      (k a e : ℕ) →
      tokenizing ed s t words ≡ Err (Refused (refusal k a e)) →
      token_words ed s t words ≡ replicate words 0
  unfolding token_words
  zeros_after_refusal k a e h = rw h

  -- 1 to 10 and 28 come before 11: they are the same in any room
  pub refused_in_any_room :
      (k a e : ℕ) →
      tokenizing ed s t words ≡ Err (Refused (refusal k a e)) →
      (w : ℕ) →
      tokenizing ed s t w ≡ Err (Refused (refusal k a e))
  refused_in_any_room k a e h w = any_room ed s t words w h

  -- after 11 all zero
  pub zeros_after_short :
      (n : ℕ) → tokenizing ed s t words ≡ Err (Short n) → token_words ed s t words ≡ replicate words 0
  unfolding token_words
  zeros_after_short n h = rw h

  -- a record for each byte and one more is room enough
  pub room_enough : (n : ℕ) → 3 * (length s + 1) ≤ words → tokenizing ed s t words ≡ Err (Short n) → ⊥
  room_enough n r h = let p = short n h in let f = p.0.few in omega (arith, p.1)

-- edition 1 reads symbols as before there were editions: `@` before a date shape makes a Date
pub edition_one :
    (s : List ℕ) (i : ℕ) →
    let two = pair_kind (get_or s i 0) (get_or s (i + 1) 0) in
    let one = single_kind (get_or s i 0) in
    symbol_at One s i ≡
    choose (eqb (get_or s i 0) 0x40 && date_at s (i + 1)) (Ok (Some (token (code Date) i (i + 11))))
    (choose (not (eqb two no_kind)) (Ok (Some (token two i (i + 2))))
    (choose (not (eqb one no_kind)) (Ok (Some (token one i (i + 1))))
    (Err (refusal other_byte i (i + 1)))))
unfolding symbol_at choose
edition_one s i = refl

module _ (s t : List ℕ) where
  -- every Date is a day and both editions read the same, or edition 2 stops with 28 at the first Date that is no day
  pub both_editions :
      (AllDays s (lex_all One s t).toks × (lex_all Two s t ≡ lex_all One s t)) ⊎
      FirstNoDay s (lex_all One s t) (lex_all Two s t)
  both_editions = lex_both s t

  -- if every Date of edition 1's tokens is a day, edition 2 reads the same tokens and ends the same way
  pub same_reading : AllDays s (lex_all One s t).toks → lex_all Two s t ≡ lex_all One s t
  same_reading = same_if_days s t

  -- if a Date of edition 1's tokens is no day and all before it are, edition 2 stops at it
  pub first_no_day :
      (before : List Tok) (start stop : ℕ) (behind : List Tok) →
      (lex_all One s t).toks ≡ before ++ (tok (code Date) start stop ∷ behind) →
      AllDays s before →
      day_at s (start + 1) ≡ false →
      lex_all Two s t ≡ record { toks = before; ending = refused no_day start stop }
  first_no_day = stops_there s t

  module _ (words : ℕ) where
    -- if every Date is a day, both editions give the same answer and the same words
    pub same_answers :
        AllDays s (lex_all One s t).toks →
        (tokenizing Two s t words ≡ tokenizing One s t words) × (token_words Two s t words ≡ token_words One s t words)
    same_answers h = let e = same_reading h in (same_answer s t words e, same_words s t words e)

    -- what edition 2 accepts has only days for Dates, and edition 1 reads the same
    pub accepted_days :
        (n : ℕ) →
        tokenizing Two s t words ≡ Ok n →
        AllDays s (lex_all One s t).toks × (lex_all Two s t ≡ lex_all One s t)
    accepted_days n h =
        let q : Said Two s t words (Ok n) = rw h at (said Two s t words) in
        ended_well s t q.0.1

    -- edition 1 never refuses by 28
    pub no_28_in_one : (a e : ℕ) → tokenizing One s t words ≡ Err (Refused (refusal no_day a e)) → ⊥
    no_28_in_one a e h = lies_one (refusals_lie One s t words no_day a e h) refl

-- a year has 365 days, and a leap year 366
pub year_days_lem : (y : ℕ) → year_days y ≡ cond (leap_year y) 366 365
year_days_lem = years.year_days_lem

-- any 400 years have 97 leap years and 146,097 days
pub leaps_in_400_years : (y : ℕ) → leaps_of 400 y ≡ 97
leaps_in_400_years = years.leaps_400

pub days_in_400_years : (y : ℕ) → days_of 400 y ≡ 146097
days_in_400_years = years.days_400

-- each date of the table is read in edition 2 as the table tells: a Date that is a day, or 28
pub days : read_all dates ≡ told_all dates
days = readings.days
