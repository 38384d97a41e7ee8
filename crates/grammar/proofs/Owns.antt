-- Each token is the own token of at most one record, and each record's own token is one of the derivation's.
-- Assumes nothing.
use mathlib.Core.Path.{◌≡◌, refl, subst}
use mathlib.Core.Bool.{Bool, true, false, not, ◌&&◌, ◌||◌}
use mathlib.Core.List.{List, [], ◌∷◌, ◌++◌}
use Prim.Native.Nat.{ℕ, suc, ◌+◌, ◌≤◌, ◌<◌}
use native.Mathlib.Nat.{le_trans}
use native.Mathlib.Omega.{arith}
use lib.Dec.{T, eqb, eqb→eq}
use lib.ListN.{length}
use Rattle.grammar.specs.Grammar.{Tok, head, has, Item, Items, one, sub, Grammar, Tree, node, Forest, end, leaf, down, yield, yields, Spells}
use Rattle.grammar.specs.Records.{Rec, Row, none, put, glue, records, Leaf, nothing, own, word, Way, pass, fold, Reach, Step, make, plus, start, Mark, Outs, Acc, fresh, leave, bring, finish, first_mark, rest, walk, walks, nodes}
use Rattle.grammar.specs.Facts.{bit, hit, seated, placed, owning, Counted}
use Rattle.grammar.specs.Names.{Names}
use Rattle.grammar.proofs.Sets.{pure}
use Rattle.grammar.proofs.Halves.{spells_seated}
use Rattle.grammar.proofs.Table.{folds, both, or_cases, yes_not, every_rule, at_rule}

owning_append : (n : ℕ) (xs ys : List Rec) → owning n (xs ++ ys) ≡ owning n xs + owning n ys
owning_append n [] ys = omega arith
owning_append n (x ∷ xs) ys = let p = owning_append n xs ys in omega arith

seated_append : (h n : ℕ) (xs ys : List Tok) → seated h n (xs ++ ys) ≡ seated h n xs + seated h n ys
seated_append h n [] ys = omega arith
seated_append h n (x ∷ xs) ys = let p = seated_append h n xs ys in omega arith

abbrev row_owns : ℕ → Row → ℕ
row_owns n none = 0
row_owns n (put b r ks) = row_owns n b + row_owns n ks + hit r.own n

row_records : (n : ℕ) (x : Row) → owning n (records x) ≡ row_owns n x
unfolding records
row_records n none = refl
row_records n (put b r ks) =
    let p = row_records n b in
    let q = row_records n ks in
    omega (arith, owning_append n (records b) (records ks ++ (r ∷ [])), owning_append n (records ks) (r ∷ []))

row_glue : (n : ℕ) (x y : Row) → row_owns n (glue x y) ≡ row_owns n x + row_owns n y
row_glue n x none = omega arith
row_glue n x (put b r ks) = let p = row_glue n x b in omega arith

-- a token waits for its record; the records so far, and the token that waits
abbrev pend : ℕ → Bool → Tok → ℕ
pend n true t = hit t.place n
pend n false t = 0

abbrev held : ℕ → Bool → Acc → ℕ
held n b c = row_owns n c.row + pend n b c.mine

-- whether one waits: behind a token, and behind steps; a record takes the token that waits
abbrev arms : Bool → Leaf → Bool
arms b nothing = b
arms b own = true
arms b word = b

abbrev waits : Bool → List Step → Bool
waits b [] = b
waits b (make k ∷ ss) = waits false ss
waits b (plus n ∷ ss) = waits b ss
waits b (start ∷ ss) = waits b ss

abbrev takes : Bool → List Step → Bool
takes b [] = true
takes b (make k ∷ ss) = b && takes false ss
takes b (plus n ∷ ss) = takes b ss
takes b (start ∷ ss) = takes b ss

-- a token that a record may own is no half
abbrev solitary : Leaf → Bool → Bool
solitary nothing b = true
solitary own b = not b
solitary word b = not b

-- each record of a production takes a token that waits; on top of one that waits only pure symbols are folded; e: one must wait at the end
abbrev pub flow : {S : Type 0} → ℕ → (S → Bool) → Bool → Bool → List Mark → List (Item S) → Bool
flow z U e b ms [] = not e || b
flow z U e b ms (one c ∷ is) = solitary (first_mark ms).token (has c z) && (takes (arms b (first_mark ms).token) (first_mark ms).steps && flow z U e (waits (arms b (first_mark ms).token) (first_mark ms).steps) (rest ms) is)
flow z U e b ms (sub s ∷ is) = (not b || (not (folds (first_mark ms).phrase) || U s)) && (takes b (first_mark ms).steps && flow z U e (waits b (first_mark ms).steps) (rest ms) is)

abbrev pub flows : (G : Grammar) → Outs G → (G.Symbol → Bool) → (s : G.Symbol) → G.Rule s → Bool
flows G O U s p = flow G.half U false false (O.marks s p) (G.parts s p) && (not (U s) || flow G.half U true true (O.marks s p) (G.parts s p))

unfoldable pub owned : (G : Grammar) → Names G → Outs G → Bool
owned G N O = every_rule N (flows G O (pure N O))

whole_bit : (b c : Bool) → T (not b) → bit (not b && c) ≡ bit c
whole_bit true c n = absurd n
whole_bit false c n = refl

no_half : (c : List ℕ) (h : ℕ) (t : Tok) → T (has c t.kind) → T (not (has c h)) → T (not (eqb t.kind h))
no_half c h t k n =
    go (eqb t.kind h) (λ e. yes_not (has c h) n (subst (λ (i : ℕ). T (has c i)) (eqb→eq t.kind h e) k))
  where
    go : (b : Bool) → (T b → ⊥) → T (not b)
    go true f = f tt
    go false f = tt

leave_owns : {G : Grammar} (O : Outs G) (n : ℕ) (x : Leaf) (r : Reach) (b : Bool) (k : List ℕ) (t : Tok) (c : Acc) → T (has k t.kind) → T (solitary x (has k G.half)) → held n (arms b x) (leave O x r t c) ≤ held n b c + bit (not (eqb t.kind G.half) && eqb t.place n)
leave_owns O n nothing r b k t c h s = omega arith
leave_owns {G} O n own r b k t c h s =
    omega (arith, whole_bit (eqb t.kind G.half) (eqb t.place n) (no_half k G.half t h s))
leave_owns {G} O n word r b k t c h s =
    omega (arith, whole_bit (eqb t.kind G.half) (eqb t.place n) (no_half k G.half t h s))

finish_owns : {G : Grammar} (O : Outs G) (n : ℕ) (t₀ : Tok) (ss : List Step) (b : Bool) (c : Acc) → T (takes b ss) → held n (waits b ss) (finish O t₀ ss c) ≤ held n b c
finish_owns O n t₀ [] b c t = omega arith
finish_owns O n t₀ (make k ∷ ss) true c t = le_trans (finish_owns O n t₀ ss false _ t) (omega arith)
finish_owns O n t₀ (make k ∷ ss) false c t = absurd t
finish_owns O n t₀ (plus m ∷ ss) b c t = finish_owns O n t₀ ss b _ t
finish_owns O n t₀ (start ∷ ss) b c t = finish_owns O n t₀ ss b _ t

module _ (n : ℕ) (g : Acc → Acc) (b : Bool) (m : ℕ) (alone : (c : Acc) → held n false (g c) ≤ held n false c + m) where
  bring_owns : (w : Way) (r : Reach) → (T (folds w) → (c : Acc) → held n b (g c) ≤ held n b c + m) → (c : Acc) → held n b (bring w r g c) ≤ held n b c + m
  bring_owns pass r h c = omega (arith, row_glue n c.row (g fresh).row, alone fresh)
  bring_owns fold r h c = h tt c

at_end : (n : ℕ) (e b : Bool) (c : Acc) → T (not e || b) → held n e c ≤ held n b c
at_end n true true c t = omega arith
at_end n true false c t = absurd t
at_end n false b c t = omega arith

module _ (G : Grammar) (N : Names G) (O : Outs G) (ok : T (owned G N O)) where
  abbrev U : G.Symbol → Bool
  U = pure N O

  flow_at : (s : G.Symbol) (p : G.Rule s) → T (flow G.half U false false (O.marks s p) (G.parts s p)) × T (not (U s) || flow G.half U true true (O.marks s p) (G.parts s p))
  unfolding owned
  flow_at s p = both (flow G.half U false false (O.marks s p) (G.parts s p)) (not (U s) || flow G.half U true true (O.marks s p) (G.parts s p)) (at_rule N (flows G O U) ok s p)

  flow_from : (s : G.Symbol) (p : G.Rule s) (b : Bool) → (T b → T (U s)) → T (flow G.half U b b (O.marks s p) (G.parts s p))
  flow_from s p true h = or_cases (not (U s)) (flow G.half U true true (O.marks s p) (G.parts s p)) (flow_at s p).1 (λ x. absurd (yes_not (U s) x (h tt))) (λ x. x)
  flow_from s p false h = (flow_at s p).0

  folded : (b f u : Bool) → T (not b || (not f || u)) → T f → T b → T u
  folded true true u t x y = t
  folded true false u t x y = absurd x
  folded false f u t x y = absurd y

  mutual
    unfolding walk yield

    walk_owns : {s : G.Symbol} (d : Tree G s) (n : ℕ) (b : Bool) (c : Acc) → (T b → T (U s)) → held n b (walk O d c) ≤ held n b c + seated G.half n (yield d)
    walk_owns (node {s = s} p f) n b c h = walks_owns (head (yields f)) (O.marks s p) f n b b c (flow_from s p b h)

    walks_owns : {is : Items G} (t₀ : Tok) (ms : List Mark) (f : Forest G is) (n : ℕ) (e b : Bool) (c : Acc) → T (flow G.half U e b ms is) → held n e (walks O t₀ ms f c) ≤ held n b c + seated G.half n (yields f)
    walks_owns t₀ ms end n e b c t = let p = at_end n e b c t in omega arith
    walks_owns t₀ ms (leaf {c = k} {is = is} x h f) n e b c t =
        let m = (first_mark ms).token in
        let r = (first_mark ms).reach in
        let ss = (first_mark ms).steps in
        let y = both (solitary m (has k G.half))
        (takes (arms b m) ss && flow G.half U e (waits (arms b m) ss) (rest ms) is) t in
        let l = both (takes (arms b m) ss) (flow G.half U e (waits (arms b m) ss) (rest ms) is) y.1 in
        let p = leave_owns O n m r b k x c h y.0 in
        let q = finish_owns O n t₀ ss (arms b m) (leave O m r x c) l.0 in
        let z = walks_owns t₀ (rest ms) f n e (waits (arms b m) ss) (finish O t₀ ss (leave O m r x c)) l.1 in
        omega arith
    walks_owns t₀ ms (down {s = s} {is = is} d f) n e b c t =
        let w = (first_mark ms).phrase in
        let r = (first_mark ms).reach in
        let ss = (first_mark ms).steps in
        let k = both (not b || (not (folds w) || U s)) (takes b ss && flow G.half U e (waits b ss) (rest ms) is) t in
        let l = both (takes b ss) (flow G.half U e (waits b ss) (rest ms) is) k.1 in
        let p = bring_owns n (λ x. walk O d x) b (seated G.half n (yield d)) (λ c. walk_owns d n false c (λ x. absurd x)) w r (λ x c. walk_owns d n b c (folded b (folds w) (U s) k.0 x)) c in
        let q = finish_owns O n t₀ ss b (bring w r (λ x. walk O d x) c) l.0 in
        let z = walks_owns t₀ (rest ms) f n e (waits b ss) (finish O t₀ ss (bring w r (λ x. walk O d x) c)) l.1 in
        omega (arith, seated_append G.half n (yield d) (yields f))

  -- a place is owned at most as often as it occurs
  pub owns : {s : G.Symbol} (d : Tree G s) (n : ℕ) → owning n (nodes O d) ≤ seated G.half n (yield d)
  unfolding nodes
  owns d n = omega (arith, row_records n (walk O d fresh).row, walk_owns d n false fresh (λ x. absurd x))

hit_le : (b : Bool) → bit b ≤ 1
hit_le true = omega arith
hit_le false = omega arith

hit_no : (b : Bool) → (T b → ⊥) → bit b ≡ 0
hit_no true h = absurd (h tt)
hit_no false h = refl

hit_yes : (b : Bool) → 1 ≤ bit b → T b
hit_yes true h = tt
hit_yes false h = absurd (omega arith)

-- tokens that are counted have places of their own, and among them those below their number
counted_below : (k n : ℕ) (ts : List Tok) → Counted k ts → n < k → placed n ts ≡ 0
counted_below k n [] c h = refl
counted_below k n (t ∷ ts) c h =
    let p = counted_below (suc k) n ts c.1 (omega arith) in
    let q = hit_no (eqb t.place n) (λ e. let z = eqb→eq t.place n e in let y = c.0 in omega arith) in
    omega arith

pub counted_once : (k n : ℕ) (ts : List Tok) → Counted k ts → placed n ts ≤ 1
counted_once k n [] c = omega arith
counted_once k n (t ∷ ts) c = go (eqb t.place n) (eqb→eq t.place n) (counted_once (suc k) n ts c.1)
  where
    go : (b : Bool) → (T b → t.place ≡ n) → placed n ts ≤ 1 → bit b + placed n ts ≤ 1
    go true e p = let z = e tt in let y = c.0 in let w = counted_below (suc k) n ts c.1 (omega arith) in omega arith
    go false e p = omega arith

pub counted_in : (k n : ℕ) (ts : List Tok) → Counted k ts → 1 ≤ placed n ts → (k ≤ n) × (n < k + length ts)
counted_in k n [] c h = absurd (omega arith)
counted_in k n (t ∷ ts) c h = go (eqb t.place n) (eqb→eq t.place n) h (counted_in (suc k) n ts c.1)
  where
    go : (b : Bool) → (T b → t.place ≡ n) → 1 ≤ bit b + placed n ts → (1 ≤ placed n ts → (suc k ≤ n) × (n < suc k + length ts)) → (k ≤ n) × (n < k + suc (length ts))
    go true e p q = let z = e tt in let y = c.0 in omega arith
    go false e p q = let z = q (omega arith) in omega arith

module _ (G : Grammar) (N : Names G) (O : Outs G) (ok : T (owned G N O)) where
  -- in a list that is counted from 0
  pub distinct : {s : G.Symbol} (d : Tree G s) {ts r : List Tok} → Spells G ts (yield d) r → Counted 0 ts → (n : ℕ)
      → owning n (nodes O d) ≤ 1
  distinct d {ts} x c n = omega (arith, owns G N O ok d n, spells_seated n x, counted_once 0 n ts c)

  pub inside : {s : G.Symbol} (d : Tree G s) {ts r : List Tok} → Spells G ts (yield d) r → Counted 0 ts → (n : ℕ) → 1 ≤ owning n (nodes O d) → n < length ts
  inside d {ts} x c n h =
      let p = counted_in 0 n ts c (omega (arith, owns G N O ok d n, spells_seated n x)) in omega arith
