-- A token of some kinds that only begins phrases of some symbols: there the phrase, and so the token, can be put for another.
-- Assumes nothing.
use mathlib.Core.Path.{◌≡◌, refl, ap, sym, ◌∙◌}
use mathlib.Core.Bool.{Bool, true, false, not, ◌&&◌, ◌||◌}
use mathlib.Core.List.{List, [], ◌∷◌, ◌++◌, append_assoc}
use Prim.Native.Nat.{ℕ}
use native.Mathlib.Omega.{arith}
use lib.Dec.{T}
use Rattle.grammar.specs.Grammar.{Tok, Item, Items, one, sub, Grammar, has, Tree, node, Forest, end, leaf, down, yield, yields}
use Rattle.grammar.specs.Facts.{Grown}
use Rattle.grammar.specs.Names.{Names}
use Rattle.grammar.proofs.Table.{both, every, all_at, or_cases, yes_not, every_rule, at_rule}
use Rattle.grammar.proofs.Seeds.{Growns}

-- no token of these parts has such a kind; only the first one may
abbrev pub clean : {S : Type 0} → (ℕ → Bool) → List (Item S) → Bool
clean B [] = true
clean B (one c ∷ is) = every (λ k. not (B k)) c && clean B is
clean B (sub s ∷ is) = clean B is

abbrev pub fronted : {S : Type 0} → (ℕ → Bool) → List (Item S) → Bool
fronted B [] = false
fronted B (one c ∷ is) = clean B is
fronted B (sub s ∷ is) = false

abbrev pub begun : (G : Grammar) → (ℕ → Bool) → (G.Symbol → Bool) → (s : G.Symbol) → G.Rule s → Bool
begun G B K s p = clean B (G.parts s p) || (K s && fronted B (G.parts s p))

-- where a token stands in a joined list: in the first, or in the second
data Where (ds fs x : List Tok) (t : Tok) (y : List Tok) : Type 0 where
  in_first : (y₁ : List Tok) → ds ≡ x ++ (t ∷ y₁) → Where ds fs x t y
  in_second : (x₂ : List Tok) → x ≡ ds ++ x₂ → fs ≡ x₂ ++ (t ∷ y) → Where ds fs x t y

pub cons : {a b : Tok} {xs ys : List Tok} → a ≡ b → xs ≡ ys → ◌≡◌ {A = List Tok} (a ∷ xs) (b ∷ ys)
cons p q = cc

pub tops : {a b : Tok} {xs ys : List Tok} → ◌≡◌ {A = List Tok} (a ∷ xs) (b ∷ ys) → a ≡ b
tops p = cc

pub tails : {a b : Tok} {xs ys : List Tok} → ◌≡◌ {A = List Tok} (a ∷ xs) (b ∷ ys) → xs ≡ ys
tails p = cc

look : (ds fs x : List Tok) (t : Tok) (y : List Tok) → ds ++ fs ≡ x ++ (t ∷ y) → Where ds fs x t y
look [] fs x t y e = in_second x refl e
look (d ∷ ds) fs [] t y e = in_first ds (cons (tops e) refl)
look (d ∷ ds) fs (u ∷ x) t y e = go (tops e) (look ds fs x t y (tails e))
  where
    go : d ≡ u → Where ds fs x t y → Where (d ∷ ds) fs (u ∷ x) t y
    go h (in_first y₁ p) = in_first y₁ (cons h p)
    go h (in_second x₂ p q) = in_second x₂ (cons (sym h) p) q

empty_not : (x : List Tok) (t : Tok) (y : List Tok) → ◌≡◌ {A = List Tok} [] (x ++ (t ∷ y)) → ⊥
empty_not [] t y e = let n : ◌≡◌ {A = ℕ} 0 1 = cc in omega arith
empty_not (u ∷ x) t y e = let n : ◌≡◌ {A = ℕ} 0 1 = cc in omega arith

module _ (G : Grammar) (N : Names G) (B : ℕ → Bool) (K : G.Symbol → Bool) (ok : T (every_rule N (begun G B K))) (z i : Tok) (other : (s : G.Symbol) → T (K s) → Grown G s (z ∷ (i ∷ []))) where
  abbrev new : List Tok → List Tok
  new x = x ++ (z ∷ (i ∷ []))

  not_here : (c : List ℕ) (u t : Tok) → u ≡ t → T (every (λ k. not (B k)) c) → T (has c u.kind) → T (B t.kind) → ⊥
  not_here c u t p e h b = yes_not (B u.kind) (all_at (λ k. not (B k)) c u.kind e h) (rw p b)

  put_leaf_lem : {c : List ℕ} {is : Items G} (u w : Tok) (h : T (has c u.kind)) (x : List Tok) → u ≡ w → Growns G is x → Growns G (one c ∷ is) (w ∷ x)
  unfolding yield
  put_leaf_lem u w h x e g = record { trees = leaf u h g.trees; more = g.more; spells = cons e g.spells }

  put_first : {s : G.Symbol} {is : Items G} (f : Forest G is) (x : List Tok) → Grown G s x → Growns G (sub s ∷ is) x
  unfolding yield
  put_first f x g = record { trees = down g.tree f; more = g.more ++ yields f; spells = ap (◌++ yields f) g.spells ∙ append_assoc x g.more (yields f) }

  put_second : {s : G.Symbol} {is : Items G} (d : Tree G s) (x x₂ : List Tok) → x ≡ yield d ++ x₂ → Growns G is (new x₂) → Growns G (sub s ∷ is) (new x)
  unfolding yield
  put_second d x x₂ e g = record {
    trees = down d g.trees;
    more = g.more;
    spells = ap (yield d ++◌) g.spells ∙ sym (append_assoc (yield d) (new x₂) g.more) ∙ ap (◌++ g.more) (sym (append_assoc (yield d) x₂ (z ∷ (i ∷ []))) ∙ ap (◌++ (z ∷ (i ∷ []))) (sym e));
  }

  -- the token is the first of all, or can be put for another further on
  data Front (is : Items G) (x : List Tok) : Type 0 where
    at_front : x ≡ [] → Front is x
    further : Growns G is (new x) → Front is x

  close : {s : G.Symbol} (p : G.Rule s) (x : List Tok) → T (K s) → Front (G.parts s p) x → Grown G s (new x)
  unfolding yield
  close {s} p x k (at_front e) = rw e (other s k)
  close p x k (further g) = record { tree = node p g.trees; more = g.more; spells = g.spells }

  either : {s : G.Symbol} {is : Items G} (d : Tree G s) (f : Forest G is) (x : List Tok) (t : Tok) (y : List Tok) → Where (yield d) (yields f) x t y
      → ((y₁ : List Tok) → yield d ≡ x ++ (t ∷ y₁) → Grown G s (new x)) → ((x₂ : List Tok) → yields f ≡ x₂ ++ (t ∷ y) → Growns G is (new x₂)) → Growns G (sub s ∷ is) (new x)
  either d f x t y (in_first y₁ p) g h = put_first f (new x) (g y₁ p)
  either d f x t y (in_second x₂ p q) g h = put_second d x x₂ p (h x₂ q)

  mutual
    unfolding yield

    pub swap : {s : G.Symbol} (d : Tree G s) (x : List Tok) (t : Tok) (y : List Tok) → T (B t.kind) → yield d ≡ x ++ (t ∷ y) → Grown G s (new x)
    swap (node {s = s} p f) x t y b e =
        or_cases (clean B (G.parts s p)) (K s && fronted B (G.parts s p)) (at_rule N (begun G B K) ok s p)
        (λ c. let g = swaps f x t y b c e in record { tree = node p g.trees; more = g.more; spells = g.spells })
        (λ c. let l = both (K s) (fronted B (G.parts s p)) c in close p x l.0 (fronts f x t y b l.1 e))

    swaps : {is : Items G} (f : Forest G is) (x : List Tok) (t : Tok) (y : List Tok) → T (B t.kind) → T (clean B is) → yields f ≡ x ++ (t ∷ y) → Growns G is (new x)
    swaps end x t y b c e = absurd (empty_not x t y e)
    swaps (leaf {c = k} {is = is} u h f) [] t y b c e = absurd (not_here k u t (tops e) (both (every (λ k. not (B k)) k) (clean B is) c).0 h b)
    swaps (leaf {c = k} {is = is} u h f) (w ∷ x) t y b c e = put_leaf_lem u w h (new x) (tops e) (swaps f x t y b (both (every (λ k. not (B k)) k) (clean B is) c).1 (tails e))
    swaps (down d f) x t y b c e = either d f x t y (look (yield d) (yields f) x t y e) (λ y₁ p. swap d x t y₁ b p) (λ x₂ q. swaps f x₂ t y b c q)

    fronts : {is : Items G} (f : Forest G is) (x : List Tok) (t : Tok) (y : List Tok) → T (B t.kind) → T (fronted B is) → yields f ≡ x ++ (t ∷ y) → Front is x
    fronts end x t y b c e = absurd c
    fronts (leaf u h f) [] t y b c e = at_front refl
    fronts (leaf u h f) (w ∷ x) t y b c e = further (put_leaf_lem u w h (new x) (tops e) (swaps f x t y b c (tails e)))
    fronts (down d f) x t y b c e = absurd c
