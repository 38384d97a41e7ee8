-- The place of a refusal where no pair stands (R-14): the tokens before the marked one begin a sentence, with it none.
-- Assumes nothing.
use mathlib.Core.Path.{◌≡◌, refl, ap, sym, ◌∙◌, subst}
use mathlib.Core.Bool.{Bool, true, false, not, ◌&&◌}
use mathlib.Core.List.{List, [], ◌∷◌, ◌++◌, append_assoc, append-nil}
use Prim.Native.Nat.{ℕ, zero, suc, ◌+◌, ◌-◌, ◌*◌, ◌≤◌, max}
use native.Mathlib.Omega.{arith}
use lib.Dec.{T, eqb, leb, leb→le}
use Rattle.grammar.specs.Grammar.{Tok, head, next, Items, one, sub, Grammar, has, Tree, node, Forest, leaf, down, Tolls, fare, yield, yields, measure, Terms, Spells}
use Rattle.grammar.specs.Reader.{Res, got, bad, Refusal, Choice, use', refuse, Plan, pick, miss, Reads, put_leaf, put_down, put_node, on_tok, on_head, cut, cut_if, bulk, on_suit, on_tree, parts, paid, act, deep, read}
use Rattle.grammar.specs.Facts.{Same, Grown}
use Rattle.grammar.specs.Names.{Names}
use Rattle.grammar.proofs.Table.{both}
use Rattle.grammar.proofs.Halves.{single, single_rest, spells_self, spells_single}
use Rattle.grammar.proofs.Sound.{Fine, Fines, parts_fine, deep_fine}
use Rattle.grammar.proofs.Fix.{ranked}
use Rattle.grammar.proofs.Steps.{takes_it, refuses_it}
use Rattle.grammar.proofs.Complete.{Sets, predictive, complete}
use Rattle.grammar.proofs.Seeds.{bare, lawful, filled, sprouts, all_filled, Growns, seed, seeds}

same_head : (r r' : List Tok) → Same r r' → head r ≡ head r'
same_head [] [] h = refl
same_head [] (t ∷ ts) h = absurd h
same_head (t ∷ ts) [] h = absurd h
same_head (t ∷ ts) (t' ∷ ts') h = h

same_append : (xs r r' : List Tok) → Same r r' → Same (xs ++ r) (xs ++ r')
same_append [] r r' h = h
same_append (t ∷ xs) r r' h = refl

-- `loud`: the refusals of a token; that of the allowance and those of the condition are not among them
module _ (G : Grammar) (W : Tolls G) (C : Terms G) (P : Plan G) (N : Names G) (low : T (ranked G N)) (ok : T (sprouts G N)) (loud : ℕ → Bool) (calm : T (loud P.limit) → ⊥) (quiet : (s : G.Symbol) (d : Tree G s) → T (loud (P.unsuited s d).number) → ⊥) where
  -- reading without the condition
  abbrev easy : Reads G
  easy = read G W (bare G) P

  abbrev easies : (is : Items G) → ℕ → List Tok → Res (Forest G is)
  easies is = parts (bare G) P easy is

  -- where a reading stops: it stops so before whatever begins with the same token, and what is before begins a derivation
  pub record Stop (X : Type 0) (run : ℕ → List Tok → Res X) (Gr : List Tok → Type 0) (a : ℕ) (ts : List Tok) (e : Refusal) : Type 0 where
    pub before : List Tok
    pub rest : List Tok
    pub cut : before ++ rest ≡ ts
    pub here : e.at ≡ head rest
    pub again : (a' : ℕ) (r : List Tok) → a ≤ a' → Same rest r → run a' (before ++ r) ≡ bad e
    pub grown : Gr before

  abbrev Loc : {s : G.Symbol} → ℕ → List Tok → Res (Tree G s) → Type 0
  Loc {s} a ts (got d r) =
      T (single G.pair ts) → (a' : ℕ) (r' : List Tok) → a ≤ a' → Same r r' → easy s a' (yield d ++ r') ≡ got d r'
  Loc {s} a ts (bad e) = T (single G.pair ts) → T (loud e.number) → Stop (Tree G s) (easy s) (Grown G s) a ts e

  abbrev Locs : {is : Items G} → ℕ → List Tok → Res (Forest G is) → Type 0
  Locs {is} a ts (got f r) =
      T (single G.pair ts) → (a' : ℕ) (r' : List Tok) → a ≤ a' → Same r r' → easies is a' (yields f ++ r') ≡ got f r'
  Locs {is} a ts (bad e) =
      T (single G.pair ts) → T (loud e.number) → Stop (Forest G is) (easies is) (Growns G is) a ts e

  taken : (c : List ℕ) {is : Items G} (t : Tok) (ts : List Tok) (b : Bool) (h : T b → T (has c t.kind)) (q : T b) (k : List Tok → Res (Forest G is)) (r : Res (Forest G is)) → k ts ≡ r → on_tok P {c = c} t ts b h k ≡ put_leaf t (h q) r
  taken c t ts true h q k r e = ap (put_leaf t (h tt)) e
  taken c t ts false h q k r e = absurd q

  missed : (c : List ℕ) {is : Items G} (t : Tok) (ts : List Tok) (b : Bool) (h : T b → T (has c t.kind)) → b ≡ false → (k : List Tok → Res (Forest G is)) → on_tok P {c = c} t ts b h k ≡ bad (miss P c (t ∷ ts))
  missed c t ts true h e k = let z : ◌≡◌ {A = ℕ} 0 1 = cc in absurd (omega arith)
  missed c t ts false h e k = refl

  -- where no pair stands, nothing is cut
  flat : (c : List ℕ) {is : Items G} (t : Tok) (ts : List Tok) (a b : Bool) → T (not b)
      → (k : List Tok → Res (Forest G is))
      → on_head P {c = c} (cut_if G.half (a && b) t ts) k ≡ on_tok P t ts (has c t.kind) (λ x. x) k
  flat c t ts true true n k = absurd n
  flat c t ts true false n k = refl
  flat c t ts false b n k = refl

  uncut : (c : List ℕ) {is : Items G} (t : Tok) (ts : List Tok) → T (not (eqb t.kind G.pair))
      → (k : List Tok → Res (Forest G is))
      → on_head P {c = c} (cut G c (t ∷ ts)) k ≡ on_tok P t ts (has c t.kind) (λ x. x) k
  uncut c t ts n k = flat c t ts (has c G.half) (eqb t.kind G.pair) n k

  parted : (t : Tok) (ts : List Tok) → T (single G.pair (t ∷ ts))
      → T (not (eqb t.kind G.pair)) × T (single G.pair ts)
  parted t ts n = both (not (eqb t.kind G.pair)) (single G.pair ts) n

  leaf_loc : (c : List ℕ) {is : Items G} (a : ℕ) (t : Tok) (ts : List Tok) (h : T (has c t.kind)) (q : Res (Forest G is)) → Locs a ts q → Locs {is = one c ∷ is} a (t ∷ ts) (put_leaf t h q)
  unfolding yield
  leaf_loc c {is} a t ts h (got f r) l = λ n a' r' p s. uncut c t (yields f ++ r') (parted t ts n).0 (easies is a') ∙ taken c t (yields f ++ r') (has c t.kind) (λ x. x) h (easies is a') (got f r') (l (parted t ts n).1 a' r' p s)
  leaf_loc c {is} a t ts h (bad e) l = λ m n. let x = l (parted t ts m).1 n in record {
    before = t ∷ x.before;
    rest = x.rest;
    cut = ap {B = List Tok} (t ∷◌) x.cut;
    here = x.here;
    again = λ a' r p s. uncut c t (x.before ++ r) (parted t ts m).0 (easies is a') ∙ taken c t (x.before ++ r) (has c t.kind) (λ y. y) h (easies is a') (bad e) (x.again a' r p s);
    grown = let g = x.grown in record { trees = leaf t h g.trees; more = g.more; spells = ap {B = List Tok} (t ∷◌) g.spells };
  }

  tok_loc : (c : List ℕ) {is : Items G} (a : ℕ) (t : Tok) (ts : List Tok) (b : Bool) (h : T b → T (has c t.kind)) → has c t.kind ≡ b → (k : List Tok → Res (Forest G is)) → Forest G (one c ∷ is) → Locs a ts (k ts) → Locs {is = one c ∷ is} a (t ∷ ts) (on_tok P t ts b h k)
  tok_loc c a t ts true h e k g l = leaf_loc c a t ts (h tt) (k ts) l
  tok_loc c {is} a t ts false h e k g l = λ m n. record { before = []; rest = t ∷ ts; cut = refl; here = refl; again = go (parted t ts m).0; grown = record { trees = g; more = yields g; spells = refl } }
    where
      go : T (not (eqb t.kind G.pair)) → (a' : ℕ) (r : List Tok) → a ≤ a' → Same (t ∷ ts) r
          → easies (one c ∷ is) a' r ≡ bad (miss P c (t ∷ ts))
      go n a' [] p s = absurd s
      go n a' (t' ∷ r) p s =
          rw (← s) (uncut c t r n (easies is a') ∙ missed c t r (has c t.kind) (λ x. x) e (easies is a'))

  left_single : {s : G.Symbol} (d : Tree G s) (ts r : List Tok) → Spells G ts (yield d) r → T (single G.pair ts)
      → T (single G.pair r)
  left_single d ts r x n =
      single_rest G.pair (yield d) r (subst (λ (l : List Tok). T (single G.pair l)) (sym (spells_single x n)) n)

  down_loc : {s : G.Symbol} {is : Items G} (a : ℕ) (ts r : List Tok) (d : Tree G s) → Fine G W C P a ts (got d r) → Loc a ts (got d r) → (q : Res (Forest G is)) → Fines G W C P a r q → Locs a r q → Locs {is = sub s ∷ is} a ts (put_down d q)
  unfolding yield
  down_loc {s} {is} a ts r d h m (got f r₁) p l = λ n a' r' q e.
      let z = left_single d ts r h.0 n in
      rw append_assoc
      (ap (λ x. on_tree (bare G) P x (easies is a')) (m n a' (yields f ++ r') q (subst (λ x. Same x (yields f ++ r')) (spells_single p.0 z) (same_append (yields f) r₁ r' e)))
      ∙ ap (put_down d) (l z a' r' q e))
  down_loc {s} {is} a ts r d h m (bad e) p l =
      λ o n. let x = l (left_single d ts r h.0 o) n in let g = x.grown in record {
        before = yield d ++ x.before;
        rest = x.rest;
        cut = append_assoc (yield d) x.before x.rest ∙ ap (yield d ++◌) x.cut ∙ spells_single h.0 o;
        here = x.here;
        again = λ a' r' q e.
            let t = subst (λ y. Same y (x.before ++ r')) x.cut (same_append x.before x.rest r' e) in
            rw append_assoc
            (ap (λ x. on_tree (bare G) P x (easies is a')) (m o a' (x.before ++ r') q t)
            ∙ ap (put_down d) (x.again a' r' q e));
        grown = record {
          trees = down d g.trees;
          more = g.more;
          spells = ap (yield d ++◌) g.spells ∙ sym (append_assoc (yield d) x.before g.more);
        };
      }

  suit_loc : {s : G.Symbol} {is : Items G} (a : ℕ) (ts r : List Tok) (d : Tree G s) → Fine G W C P a ts (got d r) → Loc a ts (got d r) → (b : Bool) (k : List Tok → Res (Forest G is)) → Fines G W C P a r (k r) → Locs a r (k r) → Locs {is = sub s ∷ is} a ts (on_suit (P.unsuited s d) b d r k)
  suit_loc a ts r d h m true k p l = down_loc a ts r d h m (k r) p l
  suit_loc {s} a ts r d h m false k p l = λ o n. absurd (quiet s d n)

  tree_loc : {s : G.Symbol} {is : Items G} (a : ℕ) (ts : List Tok) (q : Res (Tree G s)) → Fine G W C P a ts q → Loc a ts q → Forest G is → (k : List Tok → Res (Forest G is)) → ((r : List Tok) → Fines G W C P a r (k r)) → ((r : List Tok) → Locs a r (k r)) → Locs {is = sub s ∷ is} a ts (on_tree C P q k)
  unfolding yield
  tree_loc {s} a ts (got d r) h m z k p l = suit_loc a ts r d h m (C.suits s d (next r)) k (p r) (l r)
  tree_loc {s} {is} a ts (bad e) h m z k p l = λ o n. let x = m o n in let g = x.grown in record {
    before = x.before;
    rest = x.rest;
    cut = x.cut;
    here = x.here;
    again = λ a' r' q e. ap (λ y. on_tree (bare G) P y (easies is a')) (x.again a' r' q e);
    grown = record {
      trees = down g.tree z;
      more = g.more ++ yields z;
      spells = ap (◌++ yields z) g.spells ∙ append_assoc x.before g.more (yields z);
    };
  }

  -- what is said of a list without pairs is said where the reading is the same there
  stand : {is : Items G} (q q' : Res (Forest G is)) (ts : List Tok) (a : ℕ) → (T (single G.pair ts) → q ≡ q')
      → Locs a ts q' → Locs a ts q
  stand (got f r) q' ts a e l = λ n. subst (λ x. Locs a ts x) (sym (e n)) l n
  stand (bad x) q' ts a e l = λ n. subst (λ x. Locs a ts x) (sym (e n)) l n

  filled_one : (c : List ℕ) (is : Items G) → T (filled {S = G.Symbol} (one c ∷ is)) → T (filled is)
  filled_one [] is t = absurd t
  filled_one (k ∷ c) is t = t

  module _ (rec : Reads G) (fine : (s : G.Symbol) (a : ℕ) (ts : List Tok) → Fine G W C P a ts (rec s a ts)) (loc : (s : G.Symbol) (a : ℕ) (ts : List Tok) → Loc a ts (rec s a ts)) where
    parts_loc : (is : Items G) → T (filled is) → (a : ℕ) (ts : List Tok) → Locs a ts (parts C P rec is a ts)
    unfolding yield
    parts_loc [] t a ts = λ n a' r' p s. refl
    parts_loc (one c ∷ is) t a [] = λ o n. record { before = []; rest = []; cut = refl; here = refl; again = go; grown = let z = seeds G N ok (one c ∷ is) t in record { trees = z; more = yields z; spells = refl } }
      where
        go : (a' : ℕ) (r : List Tok) → a ≤ a' → Same [] r → easies (one c ∷ is) a' r ≡ bad (miss P c [])
        go a' [] p s = refl
        go a' (x ∷ r) p s = absurd s
    parts_loc (one c ∷ is) t a (x ∷ ts) =
        stand (parts C P rec (one c ∷ is) a (x ∷ ts)) (on_tok P x ts (has c x.kind) (λ y. y) (parts C P rec is a))
        (x ∷ ts) a (λ n. uncut c x ts (parted x ts n).0 (parts C P rec is a))
        (tok_loc c a x ts (has c x.kind) (λ y. y) refl (parts C P rec is a) (seeds G N ok (one c ∷ is) t)
        (parts_loc is (filled_one c is t) a ts))
    parts_loc (sub s ∷ is) t a ts =
        tree_loc a ts (rec s a ts) (fine s a ts) (loc s a ts) (seeds G N ok is t) (parts C P rec is a) (parts_fine G W C P rec fine is a) (parts_loc is t a)

    -- one step of the other reading
    by : (s : G.Symbol) (p : G.Rule s) (a : ℕ) (ts : List Tok) (q : Res (Forest G (G.parts s p))) → pick (P.guides s) (next ts) ≡ use' p → fare (W s p) ≤ a → easies (G.parts s p) (a - fare (W s p)) ts ≡ q → easy s a ts ≡ put_node p q
    by s p a ts q c h e = takes_it G W (bare G) P N low s p a ts c h ∙ ap (put_node p) e

    paid_loc : (s : G.Symbol) (p : G.Rule s) (a : ℕ) (ts : List Tok) → pick (P.guides s) (next ts) ≡ use' p → (r : Res (Forest G (G.parts s p))) → Fines G W C P (a - fare (W s p)) ts r → Locs (a - fare (W s p)) ts r → (b : Bool) → (T b → fare (W s p) ≤ a) → Loc {s = s} a ts (paid P p (W s p) b r ts)
    unfolding yield
    paid_loc s p a ts c (got f r) q l true h = λ o a' r' m e.
        let u = h tt in
        let n : next (yields f ++ r') ≡ next ts = ap (λ t. t.kind) (sym (same_head (yields f ++ r) (yields f ++ r') (same_append (yields f) r r' e))) ∙ ap next (spells_single q.0 o) in
        by s p a' (yields f ++ r') (got f r') (rw n c) (omega arith) (l o (a' - fare (W s p)) r' (omega arith) e)
    paid_loc s p a ts c (bad e) q l true h = λ o n. let x = l o n in let g = x.grown in let u = h tt in record {
      before = x.before;
      rest = x.rest;
      cut = x.cut;
      here = x.here;
      again = λ a' r' m y.
          let n : next (x.before ++ r') ≡ next ts = ap (λ t. t.kind) (sym (same_head (x.before ++ x.rest) (x.before ++ r') (same_append x.before x.rest r' y))) ∙ ap next x.cut in
          by s p a' (x.before ++ r') (bad e) (rw n c) (omega arith) (x.again (a' - fare (W s p)) r' (omega arith) y);
      grown = record {
        tree = node p g.trees;
        more = g.more;
        spells = g.spells;
      };
    }
    paid_loc s p a ts c r q l false h = λ o n. absurd (calm n)

    act_loc : (s : G.Symbol) (c : Choice (G.Rule s)) (a : ℕ) (ts : List Tok) → pick (P.guides s) (next ts) ≡ c → Loc a ts (act W C P rec s c a ts)
    act_loc s (use' p) a ts e =
        paid_loc s p a ts e (parts C P rec (G.parts s p) (a - fare (W s p)) ts) (parts_fine G W C P rec fine (G.parts s p) (a - fare (W s p)) ts) (parts_loc (G.parts s p) (all_filled G N ok s p) (a - fare (W s p)) ts)
        (leb (fare (W s p)) a) (leb→le (fare (W s p)) a)
    act_loc s (refuse n) a ts e = λ o l. record {
      before = [];
      rest = ts;
      cut = refl;
      here = refl;
      again = λ a' r p y.
          refuses_it G W (bare G) P N low s n a' r (ap (λ t. pick (P.guides s) t.kind) (sym (same_head ts r y)) ∙ e)
          ∙ ap (λ t. bad (record { number = n; at = t; wanted = 0 })) (sym (same_head ts r y));
      grown = let z = seed G N ok s in record { tree = z; more = yield z; spells = refl };
    }

  deep_loc : (n : ℕ) (s : G.Symbol) (a : ℕ) (ts : List Tok) → Loc a ts (deep G W C P n s a ts)
  unfolding deep
  deep_loc zero s a ts = λ o n. absurd (calm n)
  deep_loc (suc n) s a ts = act_loc (deep G W C P n) (deep_fine G W C P n) (deep_loc n) s (pick (P.guides s) (next ts)) a ts refl

  -- a loud refusal stops where what is before begins a derivation, and stops so before whatever begins with the marked token
  pub place : (s : G.Symbol) (a : ℕ) (ts : List Tok) (e : Refusal) → read G W C P s a ts ≡ bad e → T (single G.pair ts) → T (loud e.number) → Stop (Tree G s) (easy s) (Grown G s) a ts e
  unfolding read
  place s a ts e q = subst (λ r. Loc a ts r) q (deep_loc (64 + 64 * bulk G.pair ts) s a ts)

  -- so no sentence begins with what is before and the marked token
  module _ (A B : Sets G) (ll : T (predictive G N P A B)) where
    pub none : (s : G.Symbol) (a : ℕ) (ts : List Tok) (e : Refusal) (x : Stop (Tree G s) (easy s) (Grown G s) a ts e) → T (has (B s) 0) → (d : Tree G s) (v : List Tok) → Same x.rest v → yield d ≡ x.before ++ v → ⊥
    none s a ts e x z d v y q =
        let a' : ℕ = max a (measure W d) in
        let c : easy s a' (yield d) ≡ got d [] = rw append-nil at (complete G W (bare G) P A B N low ll d a' (spells_self (yield d) []) (omega arith) (lawful d []) z) in
        let b : easy s a' (x.before ++ v) ≡ bad e = x.again a' v (omega arith) y in
        let w : easy s a' (yield d) ≡ easy s a' (x.before ++ v) = ap (easy s a') q in
        let n : ◌≡◌ {A = ℕ} 0 1 = cc in
        absurd (omega arith)
