-- The reader's equation: the depth that it starts with is enough, so that reading is one step over reading.
-- Assumes nothing.
use mathlib.Core.Path.{◌≡◌, refl, ap, ◌∙◌}
use mathlib.Core.Bool.{Bool, true, false, not, ◌&&◌, ◌||◌}
use mathlib.Core.List.{List, [], ◌∷◌}
use Prim.Native.Nat.{ℕ, zero, suc, ◌+◌, ◌-◌, ◌*◌, ◌≤◌, ◌<◌}
use native.Mathlib.Omega.{arith}
use lib.Dec.{T, eqb, leb, ltb, leb→le}
use lib.ListN.{length, length-append}
use Rattle.grammar.specs.Grammar.{Tok, next, Item, Items, one, sub, Grammar, has, Tree, node, Forest, end, leaf, down, Tolls, fare, yield, yields, Terms, front, back, Spells}
use Rattle.grammar.specs.Reader.{Res, got, bad, Refusal, Choice, use', refuse, Plan, pick, Reads, put_leaf, put_down, on_tok, on_head, cut_if, bulk, on_suit, on_tree, parts, paid, act, step, deep, read}
use Rattle.grammar.proofs.Sets.{solid, rank}
use Rattle.grammar.proofs.Halves.{spells_bulk, weigh_one, weigh_two, weigh_half}
use Rattle.grammar.proofs.Sound.{Fine, deep_fine}
use Rattle.grammar.specs.Names.{Names}
use Rattle.grammar.proofs.Table.{both, or_cases, yes_not, every_symbol, at_symbol, every_rule, at_rule}

-- a depth that is enough for a symbol: ranks fall until a token is taken
abbrev pub need : {S : Type 0} → ℕ → (S → ℕ) → S → List Tok → ℕ
need p R s ts = R s + 64 * bulk p ts

-- these parts spell at least one token
abbrev pub firm : {S : Type 0} → (S → Bool) → List (Item S) → Bool
firm S [] = false
firm S (one c ∷ is) = true
firm S (sub s ∷ is) = S s || firm S is

abbrev pub after : Bool → ℕ → ℕ
after true r = 64
after false r = r

-- the symbols of a production that may begin where it begins have a rank below r, and all others one below 64
abbrev pub falls : {S : Type 0} → (S → Bool) → (S → ℕ) → ℕ → List (Item S) → Bool
falls S R r [] = true
falls S R r (one c ∷ is) = falls S R 64 is
falls S R r (sub s ∷ is) = ltb (R s) r && falls S R (after (S s) r) is

abbrev pub ranks : (G : Grammar) → Names G → (s : G.Symbol) → G.Rule s → Bool
ranks G N s p = (not (solid N s) || firm (solid N) (G.parts s p)) && falls (solid N) (rank N) (rank N s) (G.parts s p)

abbrev pub ranked : (G : Grammar) → Names G → Bool
ranked G N = not (eqb G.half G.pair) && (every_symbol N (λ s. ltb (rank N s) 64) && every_rule N (ranks G N))

module _ (G : Grammar) (N : Names G) (low : T (ranked G N)) where
  differ : T (not (eqb G.half G.pair))
  differ =
      (both (not (eqb G.half G.pair)) (every_symbol N (λ s. ltb (rank N s) 64) && every_rule N (ranks G N)) low).0

  sorted : T (every_symbol N (λ s. ltb (rank N s) 64)) × T (every_rule N (ranks G N))
  sorted =
      both (every_symbol N (λ s. ltb (rank N s) 64)) (every_rule N (ranks G N))
      (both (not (eqb G.half G.pair)) (every_symbol N (λ s. ltb (rank N s) 64) && every_rule N (ranks G N)) low).1

  bounded : (s : G.Symbol) → rank N s < 64
  bounded s = leb→le (suc (rank N s)) 64 (at_symbol N (λ s. ltb (rank N s) 64) sorted.0 s)

  ranked_at : (s : G.Symbol) (p : G.Rule s) → T (not (solid N s) || firm (solid N) (G.parts s p)) × T (falls (solid N) (rank N) (rank N s) (G.parts s p))
  ranked_at s p = both (not (solid N s) || firm (solid N) (G.parts s p)) (falls (solid N) (rank N) (rank N s) (G.parts s p)) (at_rule N (ranks G N) sorted.1 s p)

  mutual
    unfolding yield

    pub full : {s : G.Symbol} (d : Tree G s) → T (solid N s) → 1 ≤ length (yield d)
    full (node {s = s} p f) h = fulls f (or_cases (not (solid N s)) (firm (solid N) (G.parts s p)) (ranked_at s p).0 (λ n. absurd (yes_not (solid N s) n h)) (λ x. x))

    fulls : {is : Items G} (f : Forest G is) → T (firm (solid N) is) → 1 ≤ length (yields f)
    fulls end h = absurd h
    fulls (leaf t k f) h = omega arith
    fulls (down {s = s} {is = is} d f) h =
        or_cases (solid N s) (firm (solid N) is) h
        (λ x. let l = full d x in omega (arith, length-append (yield d) (yields f))) (λ x. let l = fulls f x in omega (arith, length-append (yield d) (yields f)))

-- what goes on alike gives the same
module _ {G : Grammar} (W : Tolls G) (C : Terms G) (P : Plan G) where
  pub tok_agree : (c : List ℕ) {is : Items G} (t : Tok) (ts : List Tok) (b : Bool) (h : T b → T (has c t.kind))
      → (k k' : List Tok → Res (Forest G is)) → k ts ≡ k' ts → on_tok P {c = c} t ts b h k ≡ on_tok P t ts b h k'
  tok_agree c t ts true h k k' e = ap (put_leaf t (h tt)) e
  tok_agree c t ts false h k k' e = refl

  suit_agree : {s : G.Symbol} {is : Items G} (x : Refusal) (b : Bool) (d : Tree G s) (r : List Tok)
      → (k k' : List Tok → Res (Forest G is)) → k r ≡ k' r → on_suit x b d r k ≡ on_suit x b d r k'
  suit_agree x true d r k k' e = ap (put_down d) e
  suit_agree x false d r k k' e = refl

  pub tree_agree : {s : G.Symbol} {is : Items G} (a : ℕ) (ts : List Tok) (q : Res (Tree G s)) → Fine G W C P a ts q
      → (k k' : List Tok → Res (Forest G is))
      → ((d : Tree G s) (r : List Tok) → Spells G ts (yield d) r → k r ≡ k' r) → on_tree C P q k ≡ on_tree C P q k'
  tree_agree {s} a ts (got d r) p k k' h = suit_agree (P.unsuited s d) (C.suits s d (next r)) d r k k' (h d r p.0)
  tree_agree a ts (bad e) p k k' h = refl

module _ (G : Grammar) (N : Names G) (W : Tolls G) (C : Terms G) (P : Plan G) where
  abbrev R : G.Symbol → ℕ
  R = rank N

  abbrev S : G.Symbol → Bool
  S = solid N

  -- what is left behind a phrase, by whether its symbol is solid
  left : (s : G.Symbol) (r : ℕ) (ts q : List Tok) (d : Tree G s) → T (ranked G N) → (b : Bool) → (T b → T (S s)) → Spells G ts (yield d) q → after b r + 64 * bulk G.pair q ≤ r + 64 * bulk G.pair ts
  left s r ts q d low true h e = let l = full G N low d (h tt) in omega (arith, spells_bulk (differ G N low) e)
  left s r ts q d low false h e = omega (arith, spells_bulk (differ G N low) e)

  module _ (low : T (ranked G N)) (rec rec' : Reads G) (B : ℕ) (same : (s : G.Symbol) (a : ℕ) (ts : List Tok) → need G.pair R s ts < B → rec s a ts ≡ rec' s a ts) (fine : (s : G.Symbol) (a : ℕ) (ts : List Tok) → Fine G W C P a ts (rec s a ts)) where
    cut_agree : (c : List ℕ) {is : Items G} (x : Tok) (ts : List Tok) (b : Bool) → (T b → T (eqb x.kind G.pair))
        → (k k' : List Tok → Res (Forest G is))
        → ((q : List Tok) → 64 + 64 * bulk G.pair q ≤ 64 * bulk G.pair (x ∷ ts) → k q ≡ k' q)
        → on_head P {c = c} (cut_if G.half b x ts) k ≡ on_head P (cut_if G.half b x ts) k'
    cut_agree c x ts true e k k' h =
        tok_agree W C P c (front G.half x) (back G.half x ∷ ts) (has c G.half) (λ y. y) k k'
        (h (back G.half x ∷ ts)
        (let n = bulk G.pair ts in
        let w = weigh_half (eqb G.half G.pair) n (differ G N low) in
        omega (arith, weigh_two (eqb x.kind G.pair) n (e tt))))
    cut_agree c x ts false e k k' h =
        tok_agree W C P c x ts (has c x.kind) (λ y. y) k k'
        (h ts (omega (arith, weigh_one (eqb x.kind G.pair) (bulk G.pair ts))))

    parts_agree : (is : Items G) (r a : ℕ) (ts : List Tok) → T (falls S R r is) → r + 64 * bulk G.pair ts ≤ B → parts C P rec is a ts ≡ parts C P rec' is a ts
    parts_agree [] r a ts t h = refl
    parts_agree (one c ∷ is) r a [] t h = refl
    parts_agree (one c ∷ is) r a (x ∷ ts) t h =
        cut_agree c x ts (has c G.half && eqb x.kind G.pair)
        (λ y. (both (has c G.half) (eqb x.kind G.pair) y).1) (parts C P rec is a) (parts C P rec' is a)
        (λ q l. parts_agree is 64 a q t (omega arith))
    parts_agree (sub s ∷ is) r a ts t h =
        let l = both (ltb (R s) r) (falls S R (after (S s) r) is) t in
        let u = leb→le (suc (R s)) r l.0 in
        tree_agree W C P a ts (rec s a ts) (fine s a ts) (parts C P rec is a) (parts C P rec' is a)
        (λ d q e. let v = left s r ts q d low (S s) (λ x. x) e in parts_agree is (after (S s) r) a q l.1 (omega arith))
        ∙ ap (λ q. on_tree C P q (parts C P rec' is a)) (same s a ts (omega arith))

    act_agree : (s : G.Symbol) (c : Choice (G.Rule s)) (a : ℕ) (ts : List Tok) → need G.pair R s ts ≤ B → act W C P rec s c a ts ≡ act W C P rec' s c a ts
    act_agree s (use' p) a ts h = ap (λ r. paid P p (W s p) (leb (fare (W s p)) a) r ts) (parts_agree (G.parts s p) (R s) (a - fare (W s p)) ts (ranked_at G N low s p).1 h)
    act_agree s (refuse n) a ts h = refl

  module _ (low : T (ranked G N)) where
    stable : (n m : ℕ) (s : G.Symbol) (a : ℕ) (ts : List Tok) → need G.pair R s ts < n → need G.pair R s ts < m → deep G W C P n s a ts ≡ deep G W C P m s a ts
    unfolding deep
    stable zero m s a ts h k = absurd (omega arith)
    stable (suc n) zero s a ts h k = absurd (omega arith)
    stable (suc n) (suc m) s a ts h k =
        act_agree low (deep G W C P n) (deep G W C P m) (need G.pair R s ts) (λ s' a' ts' l. stable n m s' a' ts' (omega arith) (omega arith)) (deep_fine G W C P n)
        s (pick (P.guides s) (next ts)) a ts (omega arith)

    pub fix : (s : G.Symbol) (a : ℕ) (ts : List Tok) → read G W C P s a ts ≡ step G W C P (read G W C P) s a ts
    unfolding deep read
    fix s a ts =
        let b = bounded G N low s in
        let n : ℕ = 63 + 64 * bulk G.pair ts in
        stable (64 + 64 * bulk G.pair ts) (suc n) s a ts (omega arith) (omega arith)
        ∙ act_agree low (deep G W C P n) (read G W C P) (need G.pair R s ts)
        (λ s' a' ts' l. stable n (64 + 64 * bulk G.pair ts') s' a' ts' (omega arith) (let b' = bounded G N low s' in omega arith))
        (deep_fine G W C P n) s (pick (P.guides s) (next ts)) a ts (omega arith)
