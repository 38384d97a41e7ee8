-- What it means that tokens stand at the front of a list where pairs may be taken in halves.
-- Assumes nothing.
use mathlib.Core.Path.{◌≡◌, refl, ap, ◌∙◌, subst}
use mathlib.Core.Bool.{Bool, true, false, not, ◌&&◌}
use mathlib.Core.List.{List, [], ◌∷◌, ◌++◌}
use Prim.Native.Nat.{ℕ, suc, ◌+◌, ◌≤◌}
use native.Mathlib.Omega.{arith}
use lib.Dec.{T, eqb, eqb→eq, eqb_refl}
use lib.ListN.{length}
use Rattle.grammar.specs.Grammar.{Tok, head, next, Grammar, Tree, Terms, middle, front, back}
use Rattle.grammar.specs.Grammar.{Spells, done, whole, halved}
use Rattle.grammar.specs.Reader.{weigh, bulk}
use Rattle.grammar.specs.Facts.{Among, here, there, bit, full, seated, placed, shut, Spaced}
use Rattle.grammar.proofs.Table.{both, and_intro, yes_not}

-- the middle of two parts
pub record Parted (G : Grammar) (ts us vs r : List Tok) : Type 0 where
  pub mid : List Tok
  pub first : Spells G ts us mid
  pub second : Spells G mid vs r

pub weigh_one : (b : Bool) (n : ℕ) → suc n ≤ weigh b n
weigh_one true n = omega arith
weigh_one false n = omega arith

pub weigh_two : (b : Bool) (n : ℕ) → T b → weigh b n ≡ suc (suc n)
weigh_two true n t = refl
weigh_two false n t = absurd t

pub weigh_half : (b : Bool) (n : ℕ) → T (not b) → weigh b n ≡ suc n
weigh_half true n t = absurd t
weigh_half false n t = refl

pub bit_one : (b : Bool) → bit b ≤ 1
bit_one true = omega arith
bit_one false = omega arith

pub not_self : (h : ℕ) → bit (not (eqb h h)) ≡ 0
not_self h = go (eqb h h) (eqb_refl h)
  where
    go : (b : Bool) → T b → bit (not b) ≡ 0
    go true t = refl
    go false t = absurd t

pub not_self_and : (h : ℕ) (c : Bool) → bit (not (eqb h h) && c) ≡ 0
not_self_and h c = go (eqb h h) (eqb_refl h)
  where
    go : (b : Bool) → T b → bit (not b && c) ≡ 0
    go true t = refl
    go false t = absurd t

pub bit_and : (a b : Bool) → bit (a && b) ≤ bit b
bit_and true b = omega arith
bit_and false true = omega arith
bit_and false false = omega arith

some_not : (us : List Tok) (l : Tok) → ◌≡◌ {A = List Tok} (us ++ (l ∷ [])) [] → ⊥
some_not [] l e = let n : ◌≡◌ {A = ℕ} 0 1 = cc in omega arith
some_not (u ∷ us) l e = let n : ◌≡◌ {A = ℕ} 0 1 = cc in omega arith

-- the first is no half
abbrev pub Begun : ℕ → List Tok → Type 0
Begun h [] = Unit {0}
Begun h (t ∷ ts) = T (eqb t.kind h) → ⊥

pub begun_append : (h : ℕ) (xs ys : List Tok) → Begun h xs → Begun h ys → Begun h (xs ++ ys)
begun_append h [] ys p q = q
begun_append h (x ∷ xs) ys p q = p

-- no pair stands in a list
abbrev pub single : ℕ → List Tok → Bool
single p [] = true
single p (t ∷ ts) = not (eqb t.kind p) && single p ts

shut_rest : (z : ℕ) (t : Tok) (ts : List Tok) → T (shut z (t ∷ ts))
    → (T (eqb t.kind z) → ts ≡ []) × ((T (eqb t.kind z) → ⊥) → T (shut z ts))
shut_rest z t [] h = (λ e. refl, λ n. absurd (n h))
shut_rest z t (u ∷ ts) h =
    let l = both (not (eqb t.kind z)) (shut z (u ∷ ts)) h in
    (λ e. absurd (yes_not (eqb t.kind z) l.0 e), λ n. l.1)

shut_back : (h z : ℕ) → T (not (eqb h z)) → (t : Tok) (ts : List Tok) → T (shut z ts) → T (shut z (back h t ∷ ts))
shut_back k z n t [] h = absurd h
shut_back k z n t (u ∷ ts) h = and_intro (not (eqb k z)) (shut z (u ∷ ts)) n h

no_pair : (p z : ℕ) → T (not (eqb p z)) → (t : Tok) → T (eqb t.kind p) → T (eqb t.kind z) → ⊥
no_pair p z n t e f = yes_not (eqb p z) n (subst (λ (k : ℕ). T (eqb k z)) (eqb→eq t.kind p e) f)

among_back : (h : ℕ) {u t : Tok} {ts : List Tok} → (T (eqb u.kind h) → ⊥) → Among u (back h t ∷ ts)
    → Among u (t ∷ ts)
among_back h {t = t} n a = go {x = back h t} {w = t} (eqb_refl h) n a
  where
    go : {u x w : Tok} {xs : List Tok} → T (eqb x.kind h) → (T (eqb u.kind h) → ⊥) → Among u (x ∷ xs)
        → Among u (w ∷ xs)
    go e n here = absurd (n e)
    go e n (there a) = there a

-- .. and is not the half in front either
among_behind : (h : ℕ) {u : Tok} (t : Tok) {us ts : List Tok} → (T (eqb u.kind h) → ⊥) → Among u (front h t ∷ us)
    → (Among u us → Among u ts) → Among u ts
among_behind h t n a f = go {x = front h t} (eqb_refl h) n a f
  where
    go : {u x : Tok} {us ts : List Tok} → T (eqb x.kind h) → (T (eqb u.kind h) → ⊥) → Among u (x ∷ us)
        → (Among u us → Among u ts) → Among u ts
    go e n here f = absurd (n e)
    go e n (there a) f = f a

pub single_rest : (p : ℕ) (xs ys : List Tok) → T (single p (xs ++ ys)) → T (single p ys)
single_rest p [] ys h = h
single_rest p (x ∷ xs) ys h = single_rest p xs ys (both (not (eqb x.kind p)) (single p (xs ++ ys)) h).1

module _ {G : Grammar} where
  -- each token whole
  pub spells_self : (us r : List Tok) → Spells G (us ++ r) us r
  spells_self [] r = done
  spells_self (u ∷ us) r = whole (spells_self us r)

  -- one part behind the other
  pub spells_join : {ts us m : List Tok} {vs r : List Tok} → Spells G ts us m → Spells G m vs r
      → Spells G ts (us ++ vs) r
  spells_join done k = k
  spells_join (whole h) k = whole (spells_join h k)
  spells_join (halved e h) k = halved e (spells_join h k)

  pub spells_part : {ts r : List Tok} (us vs : List Tok) → Spells G ts (us ++ vs) r → Parted G ts us vs r
  spells_part [] vs h = record { mid = _; first = done; second = h }
  spells_part (u ∷ us) vs (whole {ts = ts} h) =
      let l = spells_part {ts = ts} us vs h in record { mid = l.mid; first = whole l.first; second = l.second }
  spells_part (u ∷ us) vs (halved {t = t} {ts = ts} e h) =
      let l = spells_part {ts = back G.half t ∷ ts} us vs h in record { mid = l.mid; first = halved e l.first; second = l.second }

  -- a condition sees a pair as it sees a half
  pub alike : (C : Terms G) (s : G.Symbol) (d : Tree G s) {ts us r : List Tok} → Spells G ts us r
      → C.suits s d (next ts) ≡ C.suits s d (next (us ++ r))
  alike C s d done = refl
  alike C s d (whole h) = refl
  alike C s d (halved {t = t} e h) = ap (λ (k : ℕ). C.suits s d k) (eqb→eq t.kind G.pair e) ∙ C.even s d

  -- each token that is spelled takes one off, where a pair counts twice
  pub spells_bulk : T (not (eqb G.half G.pair)) → {ts us r : List Tok} → Spells G ts us r
      → length us + bulk G.pair r ≤ bulk G.pair ts
  spells_bulk n done = omega arith
  spells_bulk n (whole {t = t} {ts = ts} h) =
      let l = spells_bulk n h in omega (arith, weigh_one (eqb t.kind G.pair) (bulk G.pair ts))
  spells_bulk n (halved {t = t} {ts = ts} e h) =
      let l = spells_bulk n h in
      let m = bulk G.pair ts in
      omega (arith, weigh_two (eqb t.kind G.pair) m e, weigh_half (eqb G.half G.pair) m n)

  -- .. and each that is no half takes a token away
  pub spells_length : {ts us r : List Tok} → Spells G ts us r → full G.half us + length r ≤ length ts
  spells_length done = omega arith
  spells_length (whole {t = t} h) = let l = spells_length h in omega (arith, bit_one (not (eqb t.kind G.half)))
  spells_length (halved e h) = let l = spells_length h in omega (arith, not_self G.half)

  pub spells_seated : (n : ℕ) {ts us r : List Tok} → Spells G ts us r → seated G.half n us + placed n r ≤ placed n ts
  spells_seated n done = omega arith
  spells_seated n (whole {t = t} h) =
      let l = spells_seated n h in omega (arith, bit_and (not (eqb t.kind G.half)) (eqb t.place n))
  spells_seated n (halved {t = t} e h) =
      let l = spells_seated n h in omega (arith, not_self_and G.half (eqb t.place n))

  -- a token that is spelled and is no half is one of those that stand there
  pub spells_among : {u : Tok} {ts us r : List Tok} → (T (eqb u.kind G.half) → ⊥) → Spells G ts us r
      → Among u us → Among u ts
  spells_among n done a = elim a [ ]
  spells_among n (whole s) here = here
  spells_among n (whole s) (there a) = there (spells_among n s a)
  spells_among n (halved {t = t} e s) a = among_behind G.half t n a (λ b. among_back G.half n (spells_among n s b))

  -- what begins with no half begins with the token that stands there
  pub spells_head : {ts us r : List Tok} → Spells G ts us r → Begun G.half us → head ts ≡ head (us ++ r)
  spells_head done n = refl
  spells_head (whole h) n = refl
  spells_head (halved e h) n = absurd (n (eqb_refl G.half))

  -- halves stand in order where their pair does
  pub spells_spaced : (lo hi : ℕ) {ts us r : List Tok} → Spells G ts us r → Spaced lo hi ts → Spaced lo hi (us ++ r)
  spells_spaced lo hi done x = x
  spells_spaced lo hi (whole {t = t} h) x = (x.0, x.1, spells_spaced t.stop hi h x.2)
  spells_spaced lo hi (halved {t = t} e h) x =
      (x.0, omega arith, spells_spaced (middle t) hi h (omega arith, omega (arith, x.1), x.2))

  -- where no pair stands, a list is its parts
  pub spells_single : {ts us r : List Tok} → Spells G ts us r → T (single G.pair ts) → us ++ r ≡ ts
  spells_single done x = refl
  spells_single (whole {t = t} {ts = ts} h) x =
      ap {B = List Tok} (t ∷◌) (spells_single h (both (not (eqb t.kind G.pair)) (single G.pair ts) x).1)
  spells_single (halved {t = t} {ts = ts} e h) x =
      absurd (yes_not (eqb t.kind G.pair) (both (not (eqb t.kind G.pair)) (single G.pair ts) x).0 e)

  spells_nil : {us r : List Tok} → Spells G [] us r → us ≡ []
  spells_nil done = refl

  spells_none : (us : List Tok) (l : Tok) {r : List Tok} → Spells G [] (us ++ (l ∷ [])) r → ⊥
  spells_none us l h = some_not us l (spells_nil h)

  -- a token of a kind that only the last one has, and that is neither a pair's nor a half's, is the last
  module _ (z : ℕ) (p : T (not (eqb G.pair z))) (n : T (not (eqb G.half z))) where
    pub spells_shut : {ts r : List Tok} (us : List Tok) (l : Tok) → l.kind ≡ z → Spells G ts (us ++ (l ∷ [])) r
        → T (shut z ts) → r ≡ []
    spells_shut [] l e (whole {ts = ts} done) h = (shut_rest z l ts h).0 (rw e (eqb_refl z))
    spells_shut [] l e (halved {t = t} f k) h = absurd (yes_not (eqb G.half z) n (rw e (eqb_refl z)))
    spells_shut {r = r} (u ∷ us) l e (whole {ts = ts} k) h =
        spells_shut {ts = ts} us l e k
        ((shut_rest z u ts h).1
        (λ t. spells_none us l (subst (λ (x : List Tok). Spells G x (us ++ (l ∷ [])) r) ((shut_rest z u ts h).0 t) k)))
    spells_shut (u ∷ us) l e (halved {t = t} {ts = ts} f k) h =
        spells_shut {ts = back G.half t ∷ ts} us l e k (shut_back G.half z n t ts ((shut_rest z t ts h).1 (no_pair G.pair z p t f)))
