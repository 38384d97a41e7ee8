-- Laws of the measure.
-- Assumes nothing.
use mathlib.Core.Path.{◌≡◌, refl, ◌∙◌}
use mathlib.Core.Bool.{Bool, true, false, not, ◌&&◌, ◌||◌}
use mathlib.Core.List.{List, [], ◌∷◌, ◌++◌, append-nil}
use Prim.Native.Nat.{ℕ, suc, ◌+◌, max}
use native.Mathlib.Omega.{arith}
use lib.Dec.{T, eqb, eqb→eq}
use Rattle.grammar.specs.Grammar.{Item, Items, one, sub, Grammar, Tree, node, Forest, end, leaf, down, Tolls, fare, measure, measures}
use Rattle.grammar.specs.Facts.{most, overs, rising, Phrase, sizes, outermost, outermosts}
use Rattle.grammar.specs.Names.{Names}
use Rattle.grammar.proofs.Table.{both, or_cases, yes_not, every_rule, at_rule}

-- each of a chain's links takes 1 for itself and all behind it
abbrev pub chained : List ℕ → ℕ
chained [] = 0
chained (x ∷ xs) = 1 + max x (chained xs)

chain_rising : (i y : ℕ) (xs : List ℕ) → max (i + y) (rising (suc i) xs) ≡ max (i + y) (i + chained xs)
chain_rising i y [] = omega arith
chain_rising i y (x ∷ xs) = let p = chain_rising (suc i) x xs in omega arith

-- so the first is counted as it is, and each other with its place
pub head_rising : (x : ℕ) (xs : List ℕ) → max x (chained xs) ≡ rising 0 (x ∷ xs)
head_rising x xs = let p = chain_rising 0 x xs in omega arith

pub links_rising : (xs : List ℕ) → chained xs ≡ rising 1 xs
links_rising xs = let p = chain_rising 0 0 xs in omega arith

-- where no production counts outside the phrases of U: X holds the symbols outside
abbrev pub closed : {S : Type 0} → (S → Bool) → (S → Bool) → List (Item S) → Bool
closed U X [] = true
closed U X (one c ∷ is) = closed U X is
closed U X (sub s ∷ is) = (U s || X s) && closed U X is

abbrev pub outside : (G : Grammar) → Tolls G → (G.Symbol → Bool) → (G.Symbol → Bool) → (s : G.Symbol) → G.Rule s → Bool
outside G W U X s p = not (X s) || (eqb (fare (W s p)) 0 && closed U X (G.parts s p))

module _ (G : Grammar) (N : Names G) (W : Tolls G) (U X : G.Symbol → Bool) (ok : T (every_rule N (outside G W U X))) where
  most_phrases : (xs ys : List (Phrase G)) → most (sizes G W (xs ++ ys)) ≡ max (most (sizes G W xs)) (most (sizes G W ys))
  most_phrases [] ys = omega arith
  most_phrases (x ∷ xs) ys = let p = most_phrases xs ys in omega arith

  -- outside them a production costs nothing
  costless : (s : G.Symbol) (p : G.Rule s) → T (X s) → (fare (W s p) ≡ 0) × T (closed U X (G.parts s p))
  costless s p v =
      let t = or_cases (not (X s)) (eqb (fare (W s p)) 0 && closed U X (G.parts s p)) (at_rule N (outside G W U X) ok s p) (λ n. absurd (yes_not (X s) n v)) (λ x. x) in
      let l = both (eqb (fare (W s p)) 0) (closed U X (G.parts s p)) t in
      (eqb→eq (fare (W s p)) 0 l.0, l.1)

  one_phrase : {s : G.Symbol} (p : G.Rule s) (f : Forest G (G.parts s p)) (b : Bool) → T (b || X s) → (T (closed U X (G.parts s p)) → measures W f ≡ most (sizes G W (outermosts U f)))
      → measure W (node p f) ≡ most (sizes G W (elim b as (λ z. List (Phrase G)) [ true ↦ (s, node p f) ∷ [] | false ↦ outermosts U f ]))
  unfolding measure
  one_phrase p f true h k = omega arith
  one_phrase {s} p f false h k = let c = costless s p h in let e = k c.1 in omega (arith, c.0)

  mutual
    unfolding outermost measure

    pub outer_measure : {s : G.Symbol} (d : Tree G s) → T (U s || X s) → measure W d ≡ most (sizes G W (outermost U d))
    outer_measure (node {s = s} p f) h = one_phrase p f (U s) h (λ c. outer_measures f c)

    outer_measures : {is : Items G} (f : Forest G is) → T (closed U X is) → measures W f ≡ most (sizes G W (outermosts U f))
    outer_measures end c = refl
    outer_measures (leaf t h f) c = outer_measures f c
    outer_measures (down {s = s} {is = is} d f) c =
        let l = both (U s || X s) (closed U X is) c in
        let p = outer_measure d l.0 in
        let q = outer_measures f l.1 in
        omega (arith, most_phrases (outermost U d) (outermosts U f))

-- the outermost phrases of a phrase: itself, or those of its parts
module _ (G : Grammar) (U : G.Symbol → Bool) where
  found : {s : G.Symbol} (d : Tree G s) → T (U s) → ◌≡◌ {A = List (Phrase G)} (outermost U d) ((s, d) ∷ [])
  unfolding outermost
  found (node {s = s} p f) h = go (U s) h
    where
      go : (b : Bool) → T b → ◌≡◌ {A = List (Phrase G)} (elim b as (λ z. List (Phrase G)) [ true ↦ (s, node p f) ∷ [] | false ↦ outermosts U f ]) ((s, node p f) ∷ [])
      go true h = refl
      go false h = absurd h

  passed : {s : G.Symbol} (p : G.Rule s) (f : Forest G (G.parts s p)) → T (not (U s)) → outermost U (node p f) ≡ outermosts U f
  unfolding outermost
  passed {s} p f h = go (U s) h
    where
      go : (b : Bool) → T (not b) → elim b as (λ z. List (Phrase G)) [ true ↦ (s, node p f) ∷ [] | false ↦ outermosts U f ] ≡ outermosts U f
      go true h = absurd h
      go false h = refl

-- parts with no phrase; with one, of K; with one of U and then one of K
abbrev pub void : {S : Type 0} → List (Item S) → Bool
void [] = true
void (one c ∷ is) = void is
void (sub s ∷ is) = false

abbrev pub lone : {S : Type 0} → (S → Bool) → List (Item S) → Bool
lone K [] = false
lone K (one c ∷ is) = lone K is
lone K (sub s ∷ is) = K s && void is

abbrev pub pair : {S : Type 0} → (S → Bool) → (S → Bool) → List (Item S) → Bool
pair U K [] = false
pair U K (one c ∷ is) = pair U K is
pair U K (sub s ∷ is) = U s && lone K is

-- a production of a chain: nothing, or an operand of U and the chain behind it, with a toll
abbrev pub chains : (G : Grammar) → Tolls G → (G.Symbol → Bool) → (G.Symbol → Bool) → (s : G.Symbol) → G.Rule s → Bool
chains G W U K s p = not (K s) || (not (U s) && ((eqb (fare (W s p)) 0 && void (G.parts s p)) || (eqb (fare (W s p)) 1 && pair U K (G.parts s p))))

module _ (G : Grammar) (N : Names G) (W : Tolls G) (U K : G.Symbol → Bool) (ok : T (every_rule N (chains G W U K))) where
  void_forest : {is : Items G} (f : Forest G is) → T (void is) → (measures W f ≡ 0) × (outermosts U f ≡ [])
  unfolding outermost measure
  void_forest end t = (refl, refl)
  void_forest (leaf x h f) t = void_forest f t
  void_forest (down d f) t = absurd t

  abbrev Link : (s : G.Symbol) → G.Rule s → Bool
  Link s p = (eqb (fare (W s p)) 0 && void (G.parts s p)) || (eqb (fare (W s p)) 1 && pair U K (G.parts s p))

  link : (s : G.Symbol) (p : G.Rule s) → T (K s) → T (not (U s)) × T (Link s p)
  link s p k = both (not (U s)) (Link s p) (or_cases (not (K s)) (not (U s) && Link s p) (at_rule N (chains G W U K) ok s p) (λ n. absurd (yes_not (K s) n k)) (λ x. x))

  mutual
    unfolding outermost measure

    chain_tree : {s : G.Symbol} (d : Tree G s) → T (K s) → measure W d ≡ chained (sizes G W (outermost U d))
    chain_tree (node {s = s} p f) k =
        let l = link s p k in
        rw (passed G U p f l.0)
        (or_cases (eqb (fare (W s p)) 0 && void (G.parts s p)) (eqb (fare (W s p)) 1 && pair U K (G.parts s p)) l.1
        (λ x. let y = both (eqb (fare (W s p)) 0) (void (G.parts s p)) x in let v = void_forest f y.1 in rw v.1 (omega (arith, eqb→eq (fare (W s p)) 0 y.0, v.0)))
        (λ x. let y = both (eqb (fare (W s p)) 1) (pair U K (G.parts s p)) x in omega (arith, eqb→eq (fare (W s p)) 1 y.0, pair_forest f y.1)))

    chain_forest : {is : Items G} (f : Forest G is) → T (lone K is) → measures W f ≡ chained (sizes G W (outermosts U f))
    chain_forest end t = absurd t
    chain_forest (leaf x h f) t = chain_forest f t
    chain_forest (down {s = s} {is = is} d f) t =
        let l = both (K s) (void is) t in
        let v = void_forest f l.1 in
        let c = chain_tree d l.0 in
        rw (v.1, append-nil) (omega (arith, v.0))

    pair_forest : {is : Items G} (f : Forest G is) → T (pair U K is) → 1 + measures W f ≡ chained (sizes G W (outermosts U f))
    pair_forest end t = absurd t
    pair_forest (leaf x h f) t = pair_forest f t
    pair_forest (down {s = s} {is = is} d f) t =
        let l = both (U s) (lone K is) t in
        let c = chain_forest f l.1 in
        rw (found G U d l.0) (omega arith)

  -- the links of a chain: link j, the first being 1, takes j and its operand's measure
  pub links_law : {s : G.Symbol} (d : Tree G s) → T (K s) → measure W d ≡ rising 1 (sizes G W (outermost U d))
  links_law d k = chain_tree d k ∙ links_rising (sizes G W (outermost U d))

  off : (n : ℕ) (xs : List ℕ) → 1 + n ≡ chained xs → n ≡ rising 0 xs
  off n [] e = absurd (omega arith)
  off n (x ∷ xs) e = let h = head_rising x xs in omega arith

  -- a level: an operand and a chain; operand i, from 0, with i
  pub level_law : {s : G.Symbol} (p : G.Rule s) (f : Forest G (G.parts s p)) → T (not (U s)) → fare (W s p) ≡ 0 → T (pair U K (G.parts s p)) → measure W (node p f) ≡ rising 0 (sizes G W (outermost U (node p f)))
  unfolding measure
  level_law p f u z t = rw (passed G U p f u) (let e = off (measures W f) (sizes G W (outermosts U f)) (pair_forest f t) in omega arith)

-- a list of arguments: those of U count 1 more
abbrev pub pays : (G : Grammar) → Tolls G → (G.Symbol → Bool) → (G.Symbol → Bool) → (s : G.Symbol) → G.Rule s → Bool
pays G W U X s p = not (X s) || (not (U s) && ((eqb (fare (W s p)) 0 && closed X X (G.parts s p)) || (eqb (fare (W s p)) 1 && lone U (G.parts s p))))

module _ (G : Grammar) (N : Names G) (W : Tolls G) (U X : G.Symbol → Bool) (ok : T (every_rule N (pays G W U X))) where
  overs_append : (xs ys : List (Phrase G)) → overs (sizes G W (xs ++ ys)) ≡ max (overs (sizes G W xs)) (overs (sizes G W ys))
  overs_append [] ys = omega arith
  overs_append (x ∷ []) [] = omega arith
  overs_append (x ∷ []) (y ∷ ys) = omega arith
  overs_append (x ∷ (x' ∷ xs)) ys = let p = overs_append (x' ∷ xs) ys in omega arith

  abbrev Pay : (s : G.Symbol) → G.Rule s → Bool
  Pay s p = (eqb (fare (W s p)) 0 && closed X X (G.parts s p)) || (eqb (fare (W s p)) 1 && lone U (G.parts s p))

  pay : (s : G.Symbol) (p : G.Rule s) → T (X s) → T (not (U s)) × T (Pay s p)
  pay s p k = both (not (U s)) (Pay s p) (or_cases (not (X s)) (not (U s) && Pay s p) (at_rule N (pays G W U X) ok s p) (λ n. absurd (yes_not (X s) n k)) (λ x. x))

  self : (b : Bool) → T (b || b) → T b
  self true t = tt
  self false t = t

  void_pay : {is : Items G} (f : Forest G is) → T (void is) → (measures W f ≡ 0) × (outermosts U f ≡ [])
  unfolding outermost measure
  void_pay end t = (refl, refl)
  void_pay (leaf x h f) t = void_pay f t
  void_pay (down d f) t = absurd t

  lone_pay : {is : Items G} (f : Forest G is) → T (lone U is) → 1 + measures W f ≡ overs (sizes G W (outermosts U f))
  unfolding outermost measure
  lone_pay end t = absurd t
  lone_pay (leaf x h f) t = lone_pay f t
  lone_pay (down {s = s} {is = is} d f) t =
      let l = both (U s) (void is) t in
      let v = void_pay f l.1 in
      rw (v.1, found G U d l.0) (omega (arith, v.0))

  mutual
    unfolding outermost measure

    pub pays_law : {s : G.Symbol} (d : Tree G s) → T (X s) → measure W d ≡ overs (sizes G W (outermost U d))
    pays_law (node {s = s} p f) k =
        let l = pay s p k in
        rw (passed G U p f l.0)
        (or_cases (eqb (fare (W s p)) 0 && closed X X (G.parts s p)) (eqb (fare (W s p)) 1 && lone U (G.parts s p)) l.1
        (λ x. let y = both (eqb (fare (W s p)) 0) (closed X X (G.parts s p)) x in omega (arith, eqb→eq (fare (W s p)) 0 y.0, pays_laws f y.1))
        (λ x. let y = both (eqb (fare (W s p)) 1) (lone U (G.parts s p)) x in omega (arith, eqb→eq (fare (W s p)) 1 y.0, lone_pay f y.1)))

    pays_laws : {is : Items G} (f : Forest G is) → T (closed X X is) → measures W f ≡ overs (sizes G W (outermosts U f))
    pays_laws end c = refl
    pays_laws (leaf t h f) c = pays_laws f c
    pays_laws (down {s = s} {is = is} d f) c =
        let l = both (X s || X s) (closed X X is) c in
        let p = pays_law d (self (X s) l.0) in
        let q = pays_laws f l.1 in
        omega (arith, overs_append (outermost U d) (outermosts U f))
