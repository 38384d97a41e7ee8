-- What the reader gives is a derivation of what it took, within the allowance, that meets the conditions.
-- Assumes nothing.
use mathlib.Core.Path.{◌≡◌, refl, subst}
use mathlib.Core.Bool.{Bool, true, false, ◌&&◌}
use mathlib.Core.List.{List, [], ◌∷◌, ◌++◌}
use Prim.Native.Nat.{ℕ, zero, suc, ◌+◌, ◌-◌, ◌*◌, ◌≤◌, zero-le}
use native.Mathlib.Omega.{arith}
use lib.Dec.{T, eqb, leb, leb→le}
use Rattle.grammar.specs.Grammar.{Tok, next, Items, one, sub, Grammar, has, Tree, node, Forest, end, leaf, down, Tolls, fare, yield, yields, measure, measures, Terms, Lawful, Lawfuls, front, back, Spells, done, whole, halved}
use Rattle.grammar.specs.Reader.{Res, got, bad, Refusal, Choice, use', refuse, Plan, pick, Reads, put_leaf, put_down, on_tok, on_head, cut_if, bulk, on_suit, on_tree, parts, paid, act, deep, read}
use Rattle.grammar.proofs.Table.{both}
use Rattle.grammar.proofs.Halves.{spells_join, alike}

-- tokens that a condition sees alike
module _ {G : Grammar} (C : Terms G) where
  abbrev pub Like : List Tok → List Tok → Type 0
  Like r r' = (s : G.Symbol) (d : Tree G s) → C.suits s d (next r) ≡ C.suits s d (next r')

  pub like_append : (us r r' : List Tok) → Like r r' → Like (us ++ r) (us ++ r')
  like_append [] r r' h = h
  like_append (u ∷ us) r r' h = λ s d. refl

  mutual
    unfolding Lawful

    pub lawful_like : {s : G.Symbol} (d : Tree G s) (r r' : List Tok) → Like r r' → Lawful C d r → Lawful C d r'
    lawful_like (node p f) r r' h l = lawfuls_like f r r' h l

    lawfuls_like : {is : Items G} (f : Forest G is) (r r' : List Tok) → Like r r' → Lawfuls C f r → Lawfuls C f r'
    lawfuls_like end r r' h l = tt
    lawfuls_like (leaf t k f) r r' h l = lawfuls_like f r r' h l
    lawfuls_like (down {s = s} d f) r r' h l =
        let k = like_append (yields f) r r' h in
        (subst T (k s d) l.0, lawful_like d (yields f ++ r) (yields f ++ r') k l.1, lawfuls_like f r r' h l.2)

module _ (G : Grammar) (W : Tolls G) (C : Terms G) (P : Plan G) where
  -- an answer's derivation spells what was taken, keeps to the allowance, and meets the conditions where it stands
  abbrev pub Fine : {s : G.Symbol} → ℕ → List Tok → Res (Tree G s) → Type 0
  Fine a ts (got d r) = Spells G ts (yield d) r × (measure W d ≤ a) × Lawful C d r
  Fine a ts (bad e) = Unit {0}

  abbrev pub Fines : {is : Items G} → ℕ → List Tok → Res (Forest G is) → Type 0
  Fines a ts (got f r) = Spells G ts (yields f) r × (measures W f ≤ a) × Lawfuls C f r
  Fines a ts (bad e) = Unit {0}

  leaf_fine : (c : List ℕ) {is : Items G} (a : ℕ) (t : Tok) (ts : List Tok) (h : T (has c t.kind)) (r : Res (Forest G is)) → Fines a ts r → Fines {is = one c ∷ is} a (t ∷ ts) (put_leaf t h r)
  unfolding yield measure Lawful
  leaf_fine c a t ts h (got f r) p = (whole p.0, p.1, p.2)
  leaf_fine c a t ts h (bad e) p = tt

  tok_fine : (c : List ℕ) {is : Items G} (a : ℕ) (t : Tok) (ts : List Tok) (b : Bool) (h : T b → T (has c t.kind)) (k : List Tok → Res (Forest G is)) → Fines a ts (k ts) → Fines {is = one c ∷ is} a (t ∷ ts) (on_tok P t ts b h k)
  tok_fine c a t ts true h k p = leaf_fine c a t ts (h tt) (k ts) p
  tok_fine c a t ts false h k p = tt

  half_leaf : (c : List ℕ) {is : Items G} (a : ℕ) (t : Tok) (ts : List Tok) → T (eqb t.kind G.pair)
      → (h : T (has c G.half)) (r : Res (Forest G is)) → Fines a (back G.half t ∷ ts) r
      → Fines {is = one c ∷ is} a (t ∷ ts) (put_leaf (front G.half t) h r)
  unfolding yield measure Lawful
  half_leaf c a t ts e h (got f r) p = (halved e p.0, p.1, p.2)
  half_leaf c a t ts e h (bad x) p = tt

  half_fine : (c : List ℕ) {is : Items G} (a : ℕ) (t : Tok) (ts : List Tok) → T (eqb t.kind G.pair)
      → (b : Bool) (h : T b → T (has c G.half)) (k : List Tok → Res (Forest G is))
      → Fines a (back G.half t ∷ ts) (k (back G.half t ∷ ts))
      → Fines {is = one c ∷ is} a (t ∷ ts) (on_tok P (front G.half t) (back G.half t ∷ ts) b h k)
  half_fine c a t ts e true h k p = half_leaf c a t ts e (h tt) (k (back G.half t ∷ ts)) p
  half_fine c a t ts e false h k p = tt

  cut_fine : (c : List ℕ) {is : Items G} (a : ℕ) (t : Tok) (ts : List Tok) (b : Bool)
      → (T b → T (eqb t.kind G.pair)) → (k : List Tok → Res (Forest G is)) → ((r : List Tok) → Fines a r (k r))
      → Fines {is = one c ∷ is} a (t ∷ ts) (on_head P (cut_if G.half b t ts) k)
  cut_fine c a t ts true e k p = half_fine c a t ts (e tt) (has c G.half) (λ x. x) k (p (back G.half t ∷ ts))
  cut_fine c a t ts false e k p = tok_fine c a t ts (has c t.kind) (λ x. x) k (p ts)

  down_fine : {s : G.Symbol} {is : Items G} (a : ℕ) (ts r : List Tok) (d : Tree G s) → Fine a ts (got d r) → T (C.suits s d (next r)) → (q : Res (Forest G is)) → Fines a r q → Fines {is = sub s ∷ is} a ts (put_down d q)
  unfolding yield measure Lawful
  down_fine {s} a ts r d h u (got f r') p =
      let l = lawful_like C d r (yields f ++ r') (λ s d. alike C s d p.0) h.2 in
      (spells_join h.0 p.0, omega (arith, p.1, h.1), (subst T (alike C s d p.0) u, l, p.2))
  down_fine a ts r d h u (bad x) p = tt

  suit_fine : {s : G.Symbol} {is : Items G} (a : ℕ) (ts r : List Tok) (d : Tree G s) (x : Refusal) → Fine a ts (got d r) → (b : Bool) → (T b → T (C.suits s d (next r))) → (k : List Tok → Res (Forest G is)) → Fines a r (k r) → Fines {is = sub s ∷ is} a ts (on_suit x b d r k)
  suit_fine a ts r d x h true u k p = down_fine a ts r d h (u tt) (k r) p
  suit_fine a ts r d x h false u k p = tt

  tree_fine : {s : G.Symbol} {is : Items G} (a : ℕ) (ts : List Tok) (q : Res (Tree G s)) → Fine a ts q → (k : List Tok → Res (Forest G is)) → ((r : List Tok) → Fines a r (k r)) → Fines {is = sub s ∷ is} a ts (on_tree C P q k)
  tree_fine {s} a ts (got d r) p k h = suit_fine a ts r d (P.unsuited s d) p (C.suits s d (next r)) (λ x. x) k (h r)
  tree_fine a ts (bad x) p k h = tt

  pub parts_fine : (rec : Reads G) → ((s : G.Symbol) (a : ℕ) (ts : List Tok) → Fine a ts (rec s a ts)) → (is : Items G) (a : ℕ) (ts : List Tok) → Fines a ts (parts C P rec is a ts)
  unfolding yield measure Lawful
  parts_fine rec h [] a ts = (done, zero-le, tt)
  parts_fine rec h (one c ∷ is) a [] = tt
  parts_fine rec h (one c ∷ is) a (t ∷ ts) = cut_fine c a t ts (has c G.half && eqb t.kind G.pair) (λ x. (both (has c G.half) (eqb t.kind G.pair) x).1) (parts C P rec is a) (parts_fine rec h is a)
  parts_fine rec h (sub s ∷ is) a ts = tree_fine a ts (rec s a ts) (h s a ts) (parts C P rec is a) (parts_fine rec h is a)

  paid_fine : (s : G.Symbol) (p : G.Rule s) (a : ℕ) (ts : List Tok) (r : Res (Forest G (G.parts s p))) → Fines (a - fare (W s p)) ts r → (b : Bool) → (T b → fare (W s p) ≤ a) → Fine {s = s} a ts (paid P p (W s p) b r ts)
  unfolding yield measure Lawful
  paid_fine s p a ts (got f r) q true h = let m = h tt in (q.0, omega arith, q.2)
  paid_fine s p a ts (bad e) q true h = tt
  paid_fine s p a ts r q false h = tt

  act_fine : (rec : Reads G) → ((s : G.Symbol) (a : ℕ) (ts : List Tok) → Fine a ts (rec s a ts)) → (s : G.Symbol) (c : Choice (G.Rule s)) (a : ℕ) (ts : List Tok) → Fine a ts (act W C P rec s c a ts)
  act_fine rec h s (use' p) a ts = paid_fine s p a ts (parts C P rec (G.parts s p) (a - fare (W s p)) ts) (parts_fine rec h (G.parts s p) (a - fare (W s p)) ts) (leb (fare (W s p)) a) (leb→le (fare (W s p)) a)
  act_fine rec h s (refuse n) a ts = tt

  pub deep_fine : (n : ℕ) (s : G.Symbol) (a : ℕ) (ts : List Tok) → Fine a ts (deep G W C P n s a ts)
  unfolding deep
  deep_fine zero s a ts = tt
  deep_fine (suc n) s a ts = act_fine (deep G W C P n) (deep_fine n) s (pick (P.guides s) (next ts)) a ts

  -- soundness
  pub sound : (s : G.Symbol) (a : ℕ) (ts : List Tok) → Fine a ts (read G W C P s a ts)
  unfolding read
  sound s a ts = deep_fine (64 + 64 * bulk G.pair ts) s a ts

  pub sound_at : (s : G.Symbol) (a : ℕ) (ts : List Tok) (d : Tree G s) (r : List Tok) → read G W C P s a ts ≡ got d r → Spells G ts (yield d) r × (measure W d ≤ a) × Lawful C d r
  sound_at s a ts d r e = subst (λ q. Fine a ts q) e (sound s a ts)
