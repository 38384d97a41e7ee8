-- What the two editions read: at a place, from a place on, and the first Date that is no day.
use Prim.Native.Nat.{ℕ, zero, suc, ◌+◌}
use mathlib.Core.Path.{◌≡◌, refl, ap, ap₂, sym, ◌∙◌}
use mathlib.Core.Bool.{Bool, true, false, ◌&&◌, not, true≢false}
use mathlib.Core.List.{List, [], ◌∷◌, ◌++◌}
use mathlib.Core.Logic.{◌⊎◌, ⊎_elim, inl, inr}
use native.Mathlib.Omega.{arith}
use lib.ListN.{length, get_or}
use lib.Dec.{eqb, ltb}
use borrow.Author.Tests.{eqb-false, not-true}
use Rattle.quanta_token.specs.Bytes.{digit, word_start}
use Rattle.quanta_token.specs.Keywords.{keywords, word_kind}
use Rattle.quanta_token.specs.Symbols.{pairs, singles, no_kind, pair_kind, single_kind}
use Rattle.quanta_token.specs.Text.{Spelled, kind_if, kind_in, same}
use Rattle.quanta_token.specs.TokenKind.{code, Ident, Date}
use Rattle.quanta_token.specs.declared.edition.Edition.TheVariants.{One, Two}
use Rattle.quanta_token.proofs.BoolLaws.{both}
use Rattle.quanta_lexer.specs.Days.{day_at}
use Rattle.quanta_lexer.specs.FirstNoDay.{AllDays, FirstNoDay}
use Rattle.quanta_lexer.specs.Refusals.{refusal, no_day}
use Rattle.quanta_lexer.specs.Scan.{Lexed, token, choose, word_at, date_at, number_at, string_at, symbol_at, token_at}
use Rattle.quanta_lexer.specs.Tokens.{Tok, tok, refused, Lexing, go_on, lex_from, lex_all}
use Rattle.quanta_lexer.specs.Trivia.{trivia_end}
use Rattle.std.specs.Prelude.{Some, None, Ok, Err}

-- none of the texts spells a Date
dateless : List Spelled → Bool
dateless [] = true
dateless (e ∷ es) = not (eqb e.kind (code Date)) && dateless es

no_date_in :
    (es : List Spelled) (w : List ℕ) (other : ℕ) →
    dateless es ≡ true →
    (other ≡ code Date → ⊥) →
    kind_in es w other ≡ code Date →
    ⊥
unfolding kind_if dateless
no_date_in [] w other h o = o
no_date_in (e ∷ es) w other h o =
    let p = both (not (eqb e.kind (code Date))) (dateless es) h in
    at (same w e.text) refl (eqb-false e.kind (code Date) (not-true _ p.0)) (no_date_in es w other p.1 o)
  where
    at :
        (b : Bool) →
        same w e.text ≡ b →
        (e.kind ≡ code Date → ⊥) →
        (kind_in es w other ≡ code Date → ⊥) →
        kind_in (e ∷ es) w other ≡ code Date →
        ⊥
    at true q here rest = rw (q, kind_if) here
    at false q here rest = rw (q, kind_if) rest

word_no_date : (w : List ℕ) → word_kind w ≡ code Date → ⊥
unfolding word_kind dateless
word_no_date w = no_date_in keywords w (code Ident) refl (λ h. omega arith)

pair_no_date : (c d : ℕ) → pair_kind c d ≡ code Date → ⊥
unfolding pair_kind dateless
pair_no_date c d = no_date_in pairs (c ∷ d ∷ []) no_kind refl (λ h. omega arith)

single_no_date : (c : ℕ) → single_kind c ≡ code Date → ⊥
unfolding single_kind dateless
single_no_date c = no_date_in singles (c ∷ []) no_kind refl (λ h. omega arith)

-- a Date is a day
abbrev DayIf : List ℕ → Lexed → Type 0
DayIf s (Ok (Some x)) = x.kind ≡ code Date → day_at s (x.start.0 + 1) ≡ true
DayIf s (Ok None) = Unit
DayIf s (Err r) = Unit

-- a Date at i, and its refusal
abbrev date_from : ℕ → Lexed
date_from i = Ok (Some (token (code Date) i (i + 11)))

abbrev no_day_from : ℕ → Lexed
no_day_from i = Err (refusal no_day i (i + 11))

-- what edition 1 and edition 2 find at i: the same, any Date of it a day; or a Date that is no day, and 28
data Both (s : List ℕ) (i : ℕ) : Lexed → Lexed → Type 0 where
  alike : (x : Lexed) → DayIf s x → Both s i x x
  apart : day_at s (i + 1) ≡ false → Both s i (date_from i) (no_day_from i)

module _ (s : List ℕ) (i : ℕ) where
  day_if : (b : Bool) (x y : Lexed) → DayIf s x → DayIf s y → DayIf s (choose b x y)
  unfolding choose
  day_if true x y f g = f
  day_if false x y f g = g

  either : (b : Bool) {x y x' y' : Lexed} → Both s i x x' → Both s i y y' → Both s i (choose b x y) (choose b x' y')
  unfolding choose
  either true f g = f
  either false f g = g

  word_day : (t : List ℕ) → DayIf s (word_at s t i)
  unfolding word_at
  word_day t = day_if _ _ _ tt (λ h. absurd (word_no_date _ h))

  number_day : DayIf s (number_at s i)
  unfolding number_at
  number_day = day_if _ _ _ tt (day_if _ _ _ tt (λ h. absurd (omega arith)))

  string_day : DayIf s (string_at s i)
  unfolding string_at
  string_day = day_if _ _ _ (λ h. absurd (omega arith)) tt

  date_both :
      (b : Bool) →
      day_at s (i + 1) ≡ b →
      Both s i (choose true (date_from i) (no_day_from i)) (choose b (date_from i) (no_day_from i))
  unfolding choose
  date_both true h = alike (date_from i) (λ _. h)
  date_both false h = apart h

  symbol_both : Both s i (symbol_at One s i) (symbol_at Two s i)
  unfolding symbol_at
  symbol_both =
      either (eqb (get_or s i 0) 0x40 && date_at s (i + 1)) (date_both (day_at s (i + 1)) refl)
      (alike _
      (day_if _ _ _ (λ h. absurd (pair_no_date (get_or s i 0) (get_or s (i + 1) 0) h))
      (day_if _ _ _ (λ h. absurd (single_no_date (get_or s i 0) h)) tt)))

  token_both : (t : List ℕ) → Both s i (token_at One s t i) (token_at Two s t i)
  unfolding token_at
  token_both t =
      either (ltb i (length s))
      (either (word_start (get_or s i 0)) (alike (word_at s t i) (word_day t))
      (either (digit (get_or s i 0)) (alike (number_at s i) number_day)
      (either (eqb (get_or s i 0) 0x22) (alike (string_at s i) string_day) symbol_both)))
      (alike (Ok None) tt)

-- the second reading is the first, whose Dates are days; or it stops at the first that is none
abbrev Reads : List ℕ → Lexing → Lexing → Type 0
Reads s one two = (AllDays s one.toks × (two ≡ one)) ⊎ FirstNoDay s one two

-- a reading behind one token more
abbrev after : Tok → Lexing → Lexing
after t l = record { toks = t ∷ l.toks; ending = l.ending }

turn :
    (s : List ℕ) (one two : ℕ → Lexing) →
    ((k : ℕ) → Reads s (one k) (two k)) →
    (i : ℕ) (x y : Lexed) →
    Both s i x y →
    Reads s (go_on one i x) (go_on two i y)
turn s one two ih i _ _ (alike (Ok (Some x)) d) = ⊎_elim same later (ih x.end.0)
  where
    same :
        AllDays s (one x.end.0).toks × (two x.end.0 ≡ one x.end.0) →
        Reads s (go_on one i (Ok (Some x))) (go_on two i (Ok (Some x)))
    same p = inl ((d, p.0), ap (after (tok x.kind x.start.0 x.end.0)) p.1)

    later : FirstNoDay s (one x.end.0) (two x.end.0) → Reads s (go_on one i (Ok (Some x))) (go_on two i (Ok (Some x)))
    later f =
        inr
        (record {
          before = tok x.kind x.start.0 x.end.0 ∷ f.before;
          start = f.start;
          stop = f.stop;
          behind = f.behind;
          stands = ap (λ (ts : List Tok). tok x.kind x.start.0 x.end.0 ∷ ts) f.stands;
          days = (d, f.days);
          is_no_day = f.is_no_day;
          stops = ap (after (tok x.kind x.start.0 x.end.0)) f.stops;
        })
turn s one two ih i _ _ (alike (Ok None) d) = inl (((λ h. absurd (omega arith)), tt), refl)
turn s one two ih i _ _ (alike (Err r) d) = inl (tt, refl)
turn s one two ih i _ _ (apart h) =
    inr
    (record {
      before = [];
      start = i;
      stop = i + 11;
      behind = (one (i + 11)).toks;
      stands = refl;
      days = tt;
      is_no_day = h;
      stops = refl;
    })

from_both : (n : ℕ) (s t : List ℕ) (i : ℕ) → Reads s (lex_from One n s t i) (lex_from Two n s t i)
unfolding lex_from
from_both zero s t i = inl (tt, refl)
from_both (suc n) s t i =
    let j = trivia_end s i in
    turn s (λ e. lex_from One n s t e) (λ e. lex_from Two n s t e) (λ k. from_both n s t k) j _ _ (token_both s j t)

pub lex_both : (s t : List ℕ) → Reads s (lex_all One s t) (lex_all Two s t)
unfolding lex_all
lex_both s t = from_both (suc (length s)) s t 0

-- a Date among days is a day
day_among :
    (s : List ℕ) (b : List Tok) (x : Tok) (c : List Tok) →
    AllDays s (b ++ (x ∷ c)) →
    x.kind ≡ code Date →
    day_at s (x.start + 1) ≡ true
day_among s [] x c h = h.0
day_among s (y ∷ b) x c h = day_among s b x c h.1

-- not both a day and none
clash : {b c : Bool} → b ≡ true → c ≡ false → b ≡ c → ⊥
clash t f e = true≢false (sym t ∙ e ∙ f)

pub same_if_days : (s t : List ℕ) → AllDays s (lex_all One s t).toks → lex_all Two s t ≡ lex_all One s t
same_if_days s t h = ⊎_elim (λ p. p.1) (λ f. absurd (never f)) (lex_both s t)
  where
    never : FirstNoDay s (lex_all One s t) (lex_all Two s t) → ⊥
    never f =
        let d = day_among s f.before (tok (code Date) f.start f.stop) f.behind (rw f.stands at h) refl in
        clash d f.is_no_day refl

-- a Date that is no day
abbrev NoDay : List ℕ → Tok → Type 0
NoDay s x = (x.kind ≡ code Date) × (day_at s (x.start + 1) ≡ false)

-- a day is no such Date
unlike : (s : List ℕ) (x y : Tok) → y ≡ x → (y.kind ≡ code Date → day_at s (y.start + 1) ≡ true) → NoDay s x → ⊥
unlike s x y e d n =
    clash (d (ap (λ (t : Tok). t.kind) e ∙ n.0)) n.1 (ap (λ (t : Tok). day_at s (t.start + 1)) e)

-- a list has one first Date that is no day
one_first :
    (s : List ℕ) (b b' : List Tok) (x x' : Tok) (c c' : List Tok) →
    b ++ (x ∷ c) ≡ b' ++ (x' ∷ c') →
    AllDays s b →
    AllDays s b' →
    NoDay s x →
    NoDay s x' →
    (b ≡ b') × (x ≡ x')
one_first s [] [] x x' c c' e d d' n n' = (refl, (cc))
one_first s [] (y ∷ b') x x' c c' e d d' n n' = absurd (unlike s x y (cc) d'.0 n)
one_first s (y ∷ b) [] x x' c c' e d d' n n' = absurd (unlike s x' y (cc) d.0 n')
one_first s (y ∷ b) (z ∷ b') x x' c c' e d d' n n' =
    let rest : b ++ (x ∷ c) ≡ b' ++ (x' ∷ c') = cc in
    let q = one_first s b b' x x' c c' rest d.1 d'.1 n n' in
    let front : y ≡ z = cc in
    (ap₂ (λ (t : Tok) (ts : List Tok). t ∷ ts) front q.0, q.1)

pub stops_there :
    (s t : List ℕ) (b : List Tok) (a e : ℕ) (c : List Tok) →
    (lex_all One s t).toks ≡ b ++ (tok (code Date) a e ∷ c) →
    AllDays s b →
    day_at s (a + 1) ≡ false →
    lex_all Two s t ≡ record { toks = b; ending = refused no_day a e }
stops_there s t b a e c h d n = ⊎_elim (λ p. absurd (never p.0)) at (lex_both s t)
  where
    never : AllDays s (lex_all One s t).toks → ⊥
    never p = clash (day_among s b (tok (code Date) a e) c (rw h at p) refl) n refl

    at :
        FirstNoDay s (lex_all One s t) (lex_all Two s t) →
        lex_all Two s t ≡ record { toks = b; ending = refused no_day a e }
    at f =
        let x = tok (code Date) f.start f.stop in
        let y = tok (code Date) a e in
        let e = sym f.stands ∙ h in
        let q = one_first s f.before b x y f.behind c e f.days d (refl, f.is_no_day) (refl, n) in
        let stopped : List Tok → Tok → Lexing =
        λ ts k. record { toks = ts; ending = refused no_day k.start k.stop } in
        f.stops ∙ ap₂ stopped q.0 q.1
