-- Reading and recording in one, step by step: what a production leaves on top of x, part by part. No derivation is named.
-- Assumes nothing.
use mathlib.Core.Path.{◌≡◌, refl, ap, sym, subst, ◌∙◌}
use mathlib.Core.Bool.{Bool, true, false, cond, not, ◌&&◌, ◌||◌}
use mathlib.Core.List.{List, [], ◌∷◌, ◌++◌}
use Prim.Native.Nat.{ℕ, ◌-◌, ◌≤◌, ◌<◌}
use native.Mathlib.Omega.{arith}
use lib.Dec.{T, eqb→eq}
use Rattle.grammar.specs.Grammar.{Tok, head, next, Item, Items, one, sub, has, Grammar, Tree, node, Forest, end, leaf, down, yield, yields, Tolls, fare}
use Rattle.grammar.specs.Names.{Names}
use Rattle.grammar.specs.Records.{Acc, Way, pass, fold, Reach, Step, make, plus, start, Mark, Outs, fresh, leave, beside, bring, finish, first_mark, rest, walk, walks}
use Rattle.grammar.specs.Reader.{Res, got, bad, Refusal, use', refuse, Plan, Condition, terms, pick, miss, refusal, spot, put_leaf, put_down, put_node, on_tok, on_head, cut, on_suit, on_tree, parts, read}
use Rattle.grammar.specs.Fused.{Outcome, left, refused, walked, reads}
use Rattle.grammar.proofs.Table.{folds, both, or_cases, yes_not, tokened, every_rule, at_rule}
use Rattle.grammar.proofs.Sets.{first}
use Rattle.grammar.proofs.Halves.{Begun, begun_append, spells_head}
use Rattle.grammar.proofs.Sound.{Fines, parts_fine, sound}
use Rattle.grammar.proofs.Fix.{ranked}
use Rattle.grammar.proofs.Steps.{takes_it, too_deep, refuses_it}

-- what comes after what is left, unless it is a refusal
abbrev pub onward : Outcome → (Acc → List Tok → Outcome) → Outcome
onward (left y r) k = k y r
onward (refused e) k = refused e

pub onward_left : (o : Outcome) → onward o (λ y r. left y r) ≡ o
onward_left (left y r) = refl
onward_left (refused e) = refl

pub onward_onward : (o : Outcome) (f g : Acc → List Tok → Outcome) → onward (onward o f) g ≡ onward o (λ y r. onward (f y r) g)
onward_onward (left y r) f g = refl
onward_onward (refused e) f g = refl

-- a phrase that leaves y suits the next kind, or not
abbrev pub fits : {G : Grammar} → Condition G → G.Symbol → Acc → ℕ → Bool
fits K s y k = elim (K.minds s) [ true ↦ K.suits y k | false ↦ true ]

abbrev pub on_fit : Bool → Refusal → Outcome → Outcome
on_fit true e o = o
on_fit false e o = refused e

-- no production folds a phrase under the condition; one that takes its first token's span has a token
abbrev pub calm : {S : Type 0} → (S → Bool) → List Mark → List (Item S) → Bool
calm M ms [] = true
calm M ms (one c ∷ is) = calm M (rest ms) is
calm M ms (sub s ∷ is) = (not (folds (first_mark ms).phrase) || not (M s)) && calm M (rest ms) is

abbrev starting : List Step → Bool
starting [] = false
starting (make k ∷ ss) = starting ss
starting (plus n ∷ ss) = starting ss
starting (start ∷ ss) = true

abbrev starts : List Mark → Bool
starts [] = false
starts (m ∷ ms) = starting m.steps || starts ms

-- the parts begin with no half; U: nor does the symbol
abbrev mild : {S : Type 0} → ℕ → (S → Bool) → List (Item S) → Bool
mild h U [] = true
mild h U (one c ∷ is) = not (has c h)
mild h U (sub s ∷ is) = U s && mild h U is

abbrev soft : {G : Grammar} → Names G → G.Symbol → Bool
soft {G} N s = not (has (first N s) G.half)

abbrev softly : {G : Grammar} → Names G → (s : G.Symbol) → G.Rule s → Bool
softly {G} N s p = not (soft N s) || mild G.half (soft N) (G.parts s p)

abbrev fusible : {G : Grammar} → Names G → Outs G → Condition G → (s : G.Symbol) → G.Rule s → Bool
fusible {G} N O K s p = calm K.minds (O.marks s p) (G.parts s p) && (not (starts (O.marks s p)) || (tokened (G.parts s p) && mild G.half (soft N) (G.parts s p)))

unfoldable pub fuses : (G : Grammar) → Names G → Outs G → Condition G → Bool
fuses G N O K = every_rule N (fusible N O K) && every_rule N (softly N)

module _ {G : Grammar} (N : Names G) (ok : T (every_rule N (softly N))) where
  mutual
    unfolding yield

    soft_begun : {s : G.Symbol} (d : Tree G s) → T (soft N s) → Begun G.half (yield d)
    soft_begun (node {s = s} p f) h =
        mild_begun f
        (or_cases (not (soft N s)) (mild G.half (soft N) (G.parts s p)) (at_rule N (softly N) ok s p)
        (λ n. absurd (yes_not (soft N s) n h)) (λ x. x))

    mild_begun : {is : Items G} (f : Forest G is) → T (mild G.half (soft N) is) → Begun G.half (yields f)
    mild_begun end h = tt
    mild_begun (leaf {c = c} t k f) h =
        λ e. yes_not (has c G.half) h (subst (λ (i : ℕ). T (has c i)) (eqb→eq t.kind G.half e) k)
    mild_begun (down {s = s} {is = is} d f) h =
        let l = both (soft N s) (mild G.half (soft N) is) h in
        begun_append G.half (yield d) (yields f) (soft_begun d l.0) (mild_begun f l.1)

-- where no span of the first token is taken, the first token does not matter
neither : (a b : Bool) → T (not (a || b)) → T (not a) × T (not b)
neither true b t = absurd t
neither false b t = (tt, t)

finish_first : {G : Grammar} (O : Outs G) (t t' : Tok) (ss : List Step) (c : Acc) → T (not (starting ss)) → finish O t ss c ≡ finish O t' ss c
finish_first O t t' [] c h = refl
finish_first O t t' (make k ∷ ss) c h = finish_first O t t' ss _ h
finish_first O t t' (plus n ∷ ss) c h = finish_first O t t' ss _ h
finish_first O t t' (start ∷ ss) c h = absurd h

first_steps : (ms : List Mark) → T (not (starts ms)) → T (not (starting (first_mark ms).steps)) × T (not (starts (rest ms)))
first_steps [] h = (tt, tt)
first_steps (m ∷ ms) h = neither (starting m.steps) (starts ms) h

walks_first : {G : Grammar} (O : Outs G) {is : Items G} (t t' : Tok) (ms : List Mark) (f : Forest G is) (c : Acc) → T (not (starts ms)) → walks O t ms f c ≡ walks O t' ms f c
unfolding walk
walks_first O t t' ms end c h = refl
walks_first O t t' ms (leaf x y f) c h =
    let l = first_steps ms h in
    ap (walks O t (rest ms) f) (finish_first O t t' (first_mark ms).steps (leave O (first_mark ms).token (first_mark ms).reach x c) l.0) ∙ walks_first O t t' (rest ms) f _ l.1
walks_first O t t' ms (down d f) c h =
    let l = first_steps ms h in
    ap (walks O t (rest ms) f) (finish_first O t t' (first_mark ms).steps (bring (first_mark ms).phrase (first_mark ms).reach (λ x. walk O d x) c) l.0) ∙ walks_first O t t' (rest ms) f _ l.1

-- and where a production has a token, its first one is the first that is read
head_append : (xs ys zs : List Tok) → (head (ys ++ zs) ≡ head ys) → head ((xs ++ ys) ++ zs) ≡ head (xs ++ ys)
head_append [] ys zs h = h
head_append (x ∷ xs) ys zs h = refl

tokened_head : {G : Grammar} {is : Items G} (f : Forest G is) (r : List Tok) → T (tokened is) → head (yields f ++ r) ≡ head (yields f)
unfolding yield
tokened_head end r t = absurd t
tokened_head (leaf x h f) r t = refl
tokened_head (down d f) r t = head_append (yield d) (yields f) r (tokened_head f r t)

-- a token of these kinds at the front, and on with it and what is behind it; or it is missing
abbrev pub on_cut : {G : Grammar} → Plan G → List ℕ → List Tok → (Tok → List Tok → Outcome) → Outcome
on_cut P c [] k = refused (miss P c [])
on_cut P c (t ∷ ts) k = cond (has c t.kind) (k t ts) (refused (miss P c (t ∷ ts)))

module _ (G : Grammar) (W : Tolls G) (K : Condition G) (P : Plan G) (O : Outs G) where
  abbrev phrase : G.Symbol → ℕ → List Tok → Acc → Outcome
  phrase = reads G W (terms O K) P O

  -- a phrase beside what is left so far, or on top of it
  abbrev by : Way → Reach → G.Symbol → ℕ → List Tok → Acc → (Acc → List Tok → Outcome) → Outcome
  by pass r s a ts x k = onward (phrase s a ts fresh) (λ y q. on_fit (fits K s y (next q)) (K.refusal y) (k (beside r x y) q))
  by fold r s a ts x k = onward (phrase s a ts x) k

  -- the parts of a production whose first token is t₀, one after the other
  abbrev pub go : Tok → List Mark → Items G → ℕ → List Tok → Acc → Outcome
  go t₀ ms [] a ts x = left x ts
  go t₀ ms (one c ∷ is) a ts x = on_cut P c (cut G c ts) (λ t r. go t₀ (rest ms) is a r (finish O t₀ (first_mark ms).steps (leave O (first_mark ms).token (first_mark ms).reach t x)))
  go t₀ ms (sub s ∷ is) a ts x = by (first_mark ms).phrase (first_mark ms).reach s a ts x (λ y r. go t₀ (rest ms) is a r (finish O t₀ (first_mark ms).steps y))

  abbrev walked_all : {is : Items G} → Tok → List Mark → Res (Forest G is) → Acc → Outcome
  walked_all t₀ ms (got f r) x = left (walks O t₀ ms f x) r
  walked_all t₀ ms (bad e) x = refused e

  leaf_all : (c : List ℕ) {is : Items G} (t₀ : Tok) (ms : List Mark) (t : Tok) (h : T (has c t.kind)) (q : Res (Forest G is)) (x : Acc)
      → walked_all t₀ ms (put_leaf {c = c} t h q) x ≡ walked_all t₀ (rest ms) q (finish O t₀ (first_mark ms).steps (leave O (first_mark ms).token (first_mark ms).reach t x))
  unfolding walk
  leaf_all c t₀ ms t h (got f r) x = refl
  leaf_all c t₀ ms t h (bad e) x = refl

  tok_all : (c : List ℕ) (is : Items G) (t₀ : Tok) (ms : List Mark) (t : Tok) (ts : List Tok) (x : Acc) (k : List Tok → Res (Forest G is)) (o : Outcome) (b : Bool) (g : T b → T (has c t.kind))
      → walked_all t₀ (rest ms) (k ts) (finish O t₀ (first_mark ms).steps (leave O (first_mark ms).token (first_mark ms).reach t x)) ≡ o
      → walked_all t₀ ms (on_tok P {c = c} t ts b g k) x ≡ cond b o (refused (miss P c (t ∷ ts)))
  tok_all c is t₀ ms t ts x k o true g ih = leaf_all c t₀ ms t (g tt) (k ts) x ∙ ih
  tok_all c is t₀ ms t ts x k o false g ih = refl

  head_all : (c : List ℕ) (is : Items G) (t₀ : Tok) (ms : List Mark) (ts : List Tok) (x : Acc)
      → (k : List Tok → Res (Forest G is)) (o : Tok → List Tok → Outcome)
      → ((t : Tok) (r : List Tok) → walked_all t₀ (rest ms) (k r)
      (finish O t₀ (first_mark ms).steps (leave O (first_mark ms).token (first_mark ms).reach t x)) ≡ o t r)
      → walked_all t₀ ms (on_head P {c = c} ts k) x ≡ on_cut P c ts o
  head_all c is t₀ ms [] x k o ih = refl
  head_all c is t₀ ms (t ∷ ts) x k o ih = tok_all c is t₀ ms t ts x k (o t ts) (has c t.kind) (λ y. y) (ih t ts)

  down_all : {s : G.Symbol} {is : Items G} (t₀ : Tok) (ms : List Mark) (d : Tree G s) (q : Res (Forest G is)) (x : Acc)
      → walked_all t₀ ms (put_down d q) x ≡ walked_all t₀ (rest ms) q (finish O t₀ (first_mark ms).steps (bring (first_mark ms).phrase (first_mark ms).reach (λ y. walk O d y) x))
  unfolding walk
  down_all t₀ ms d (got f r) x = refl
  down_all t₀ ms d (bad e) x = refl

  suit_all : {s : G.Symbol} {is : Items G} (t₀ : Tok) (ms : List Mark) (d : Tree G s) (r : List Tok) (k : List Tok → Res (Forest G is)) (x : Acc) (o : Outcome) (e e' : Refusal) (b : Bool) → e ≡ e'
      → walked_all t₀ (rest ms) (k r) (finish O t₀ (first_mark ms).steps (bring (first_mark ms).phrase (first_mark ms).reach (λ y. walk O d y) x)) ≡ o
      → walked_all t₀ ms (on_suit e b d r k) x ≡ on_fit b e' o
  suit_all t₀ ms d r k x o e e' true u ih = down_all t₀ ms d (k r) x ∙ ih
  suit_all t₀ ms d r k x o e e' false u ih = ap refused u

  unminded : (s : G.Symbol) (b : Bool) (y : Acc) (k : ℕ) (e : Refusal) (o : Outcome) → T (not b) → on_fit (elim b [ true ↦ K.suits y k | false ↦ true ]) e o ≡ o
  unminded s true y k e o h = absurd h
  unminded s false y k e o h = refl

  by_got : (w : Way) (r : Reach) (s : G.Symbol) (a : ℕ) (ts : List Tok) (d : Tree G s) (q : List Tok) (x : Acc) (k : Acc → List Tok → Outcome) → T (not (folds w) || not (K.minds s))
      → read G W (terms O K) P s a ts ≡ got d q
      → on_fit (fits K s (walk O d fresh) (next q)) (K.refusal (walk O d fresh)) (k (bring w r (λ y. walk O d y) x) q) ≡ by w r s a ts x k
  unfolding reads
  by_got pass r s a ts d q x k h e = ap (λ z. onward (walked O z fresh) (λ y q. on_fit (fits K s y (next q)) (K.refusal y) (k (beside r x y) q))) (sym e)
  by_got fold r s a ts d q x k h e = unminded s (K.minds s) (walk O d fresh) (next q) (K.refusal (walk O d fresh)) (k (walk O d x) q) h ∙ ap (λ z. onward (walked O z x) k) (sym e)

  by_bad : (w : Way) (r : Reach) (s : G.Symbol) (a : ℕ) (ts : List Tok) (e : Refusal) (x : Acc) (k : Acc → List Tok → Outcome) → read G W (terms O K) P s a ts ≡ bad e → refused e ≡ by w r s a ts x k
  unfolding reads
  by_bad pass r s a ts e x k q = ap (λ z. onward (walked O z fresh) (λ y q. on_fit (fits K s y (next q)) (K.refusal y) (k (beside r x y) q))) (sym q)
  by_bad fold r s a ts e x k q = ap (λ z. onward (walked O z x) k) (sym q)

  module _ (un : (s : G.Symbol) (d : Tree G s) → P.unsuited s d ≡ K.refusal (walk O d fresh)) where
    sub_all : (s : G.Symbol) (is : Items G) (t₀ : Tok) (ms : List Mark) (a : ℕ) (ts : List Tok) (x : Acc) (q : Res (Tree G s)) → read G W (terms O K) P s a ts ≡ q → (k : List Tok → Res (Forest G is)) (k' : Acc → List Tok → Outcome)
        → ((r : List Tok) (y : Acc) → walked_all t₀ (rest ms) (k r) (finish O t₀ (first_mark ms).steps y) ≡ k' y r) → T (not (folds (first_mark ms).phrase) || not (K.minds s))
        → walked_all t₀ ms (on_tree (terms O K) P q k) x ≡ by (first_mark ms).phrase (first_mark ms).reach s a ts x k'
    sub_all s is t₀ ms a ts x (got d r) e k k' ih h =
        suit_all t₀ ms d r k x _ (P.unsuited s d) (K.refusal (walk O d fresh)) (fits K s (walk O d fresh) (next r)) (un s d) (ih r (bring (first_mark ms).phrase (first_mark ms).reach (λ y. walk O d y) x))
        ∙ by_got (first_mark ms).phrase (first_mark ms).reach s a ts d r x k' h e
    sub_all s is t₀ ms a ts x (bad z) e k k' ih h = by_bad (first_mark ms).phrase (first_mark ms).reach s a ts z x k' e

    fuse : (is : Items G) (t₀ : Tok) (ms : List Mark) (a : ℕ) (ts : List Tok) (x : Acc) → T (calm K.minds ms is) → walked_all t₀ ms (parts (terms O K) P (read G W (terms O K) P) is a ts) x ≡ go t₀ ms is a ts x
    unfolding walk
    fuse [] t₀ ms a ts x h = refl
    fuse (one c ∷ is) t₀ ms a ts x h = head_all c is t₀ ms (cut G c ts) x (parts (terms O K) P (read G W (terms O K) P) is a) _ (λ t r. fuse is t₀ (rest ms) a r _ h)
    fuse (sub s ∷ is) t₀ ms a ts x h =
        let z = both (not (folds (first_mark ms).phrase) || not (K.minds s)) (calm K.minds (rest ms) is) h in
        sub_all s is t₀ ms a ts x (read G W (terms O K) P s a ts) refl (parts (terms O K) P (read G W (terms O K) P) is a) _ (λ r y. fuse is t₀ (rest ms) a r (finish O t₀ (first_mark ms).steps y) z.1) z.0

    node_all : (N : Names G) → T (every_rule N (softly N)) → (s : G.Symbol) (p : G.Rule s) (a : ℕ) (ts : List Tok) (q : Res (Forest G (G.parts s p))) (x : Acc) → T (not (starts (O.marks s p)) || (tokened (G.parts s p) && mild G.half (soft N) (G.parts s p))) → Fines G W (terms O K) P a ts q
        → walked O (put_node {s = s} p q) x ≡ walked_all (head ts) (O.marks s p) q x
    unfolding walk
    node_all N soften s p a ts (got f r) x h l =
        ap (λ z. left z r)
        (or_cases (not (starts (O.marks s p))) (tokened (G.parts s p) && mild G.half (soft N) (G.parts s p)) h
        (λ n. walks_first O (head (yields f)) (head ts) (O.marks s p) f x n)
        (λ n. let m = both (tokened (G.parts s p)) (mild G.half (soft N) (G.parts s p)) n in
        ap (λ t. walks O t (O.marks s p) f x)
        (sym (tokened_head f r m.0) ∙ sym (spells_head l.0 (mild_begun N soften f m.1)))))
    node_all N soften s p a ts (bad e) x h l = refl

    module _ (N : Names G) (low : T (ranked G N)) (ok : T (fuses G N O K)) where
      oks : T (every_rule N (fusible N O K)) × T (every_rule N (softly N))
      unfolding fuses
      oks = both (every_rule N (fusible N O K)) (every_rule N (softly N)) ok

      fusible_at : (s : G.Symbol) (p : G.Rule s) → T (calm K.minds (O.marks s p) (G.parts s p)) × T (not (starts (O.marks s p)) || (tokened (G.parts s p) && mild G.half (soft N) (G.parts s p)))
      fusible_at s p = both (calm K.minds (O.marks s p) (G.parts s p)) (not (starts (O.marks s p)) || (tokened (G.parts s p) && mild G.half (soft N) (G.parts s p))) (at_rule N (fusible N O K) oks.0 s p)

      -- the three ways that a step can go
      pub takes : (s : G.Symbol) (p : G.Rule s) (a : ℕ) (ts : List Tok) (x : Acc) → pick (P.guides s) (next ts) ≡ use' p → fare (W s p) ≤ a → phrase s a ts x ≡ go (head ts) (O.marks s p) (G.parts s p) (a - fare (W s p)) ts x
      unfolding reads
      takes s p a ts x c h =
          let l = fusible_at s p in
          let b = a - fare (W s p) in
          ap (λ (q : Res (Tree G s)). walked O q x) (takes_it G W (terms O K) P N low s p a ts c h)
          ∙ node_all N oks.1 s p b ts (parts (terms O K) P (read G W (terms O K) P) (G.parts s p) b ts) x l.1 (parts_fine G W (terms O K) P (read G W (terms O K) P) (sound G W (terms O K) P) (G.parts s p) b ts)
          ∙ fuse (G.parts s p) (head ts) (O.marks s p) b ts x l.0

      pub spent : (s : G.Symbol) (p : G.Rule s) (a : ℕ) (ts : List Tok) (x : Acc) → pick (P.guides s) (next ts) ≡ use' p → a < fare (W s p) → phrase s a ts x ≡ refused (refusal P.limit (spot (W s p) ts))
      unfolding reads
      spent s p a ts x c h = ap (λ (q : Res (Tree G s)). walked O q x) (too_deep G W (terms O K) P N low s p a ts c h)

      pub refuses : (s : G.Symbol) (n a : ℕ) (ts : List Tok) (x : Acc) → pick (P.guides s) (next ts) ≡ refuse n → phrase s a ts x ≡ refused (refusal n ts)
      unfolding reads
      refuses s n a ts x c = ap (λ (q : Res (Tree G s)). walked O q x) (refuses_it G W (terms O K) P N low s n a ts c)

  -- what is left comes from a derivation, and a refusal from the reader
  pub record Comes (s : G.Symbol) (a : ℕ) (ts : List Tok) (x y : Acc) (r : List Tok) : Type 0 where
    pub tree : Tree G s
    pub reading : read G W (terms O K) P s a ts ≡ got tree r
    pub leaving : walk O tree x ≡ y

  pub comes : (s : G.Symbol) (a : ℕ) (ts : List Tok) (x y : Acc) (r : List Tok) → phrase s a ts x ≡ left y r → Comes s a ts x y r
  unfolding reads
  comes s a ts x y r e = by_result (read G W (terms O K) P s a ts) refl e
    where
      by_result : (q : Res (Tree G s)) → read G W (terms O K) P s a ts ≡ q → walked O q x ≡ left y r → Comes s a ts x y r
      by_result (got d r') e z = let u : r' ≡ r = cc in record { tree = d; reading = rw u at e; leaving = cc }
      by_result (bad x) e z = let n : ◌≡◌ {A = ℕ} 0 1 = cc in absurd (omega arith)

  pub fails : (s : G.Symbol) (a : ℕ) (ts : List Tok) (x : Acc) (e : Refusal) → phrase s a ts x ≡ refused e → read G W (terms O K) P s a ts ≡ bad e
  unfolding reads
  fails s a ts x e q = by_result (read G W (terms O K) P s a ts) q
    where
      by_result : (q : Res (Tree G s)) → walked O q x ≡ refused e → q ≡ bad e
      by_result (got d r) z = let n : ◌≡◌ {A = ℕ} 0 1 = cc in absurd (omega arith)
      by_result (bad y) z = let u : y ≡ e = cc in ap bad u
