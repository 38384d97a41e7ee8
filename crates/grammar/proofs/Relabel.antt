-- Kinds that a grammar does not tell apart: with others in their place a derivation leaves the same records.
-- Assumes nothing.
use mathlib.Core.Path.{◌≡◌, refl, ap, sym, ◌∙◌, subst}
use mathlib.Core.Bool.{Bool, true, false, ◌&&◌}
use mathlib.Core.List.{List, [], ◌∷◌, ◌++◌}
use Prim.Native.Nat.{ℕ, ◌+◌, max}
use lib.Dec.{T}
use Rattle.grammar.specs.Grammar.{Tok, no_tok, head, next, Item, Items, one, sub, has, Grammar, Tree, node, Forest}
use Rattle.grammar.specs.Grammar.{end, leaf, down, Tolls, fare, yield, yields, measure, measures, Lawful, Lawfuls}
use Rattle.grammar.specs.Names.{Names}
use Rattle.grammar.specs.Records.{none, put, Leaf, nothing, own, word, Way, pass, fold, Reach, widen, Step}
use Rattle.grammar.specs.Records.{make, plus, start, span_of, Mark, Outs, leaf_kind, flag_of, Rec, made, Acc}
use Rattle.grammar.specs.Records.{fresh, leave, beside, bring, finish, first_mark, rest, walk, walks}
use Rattle.grammar.specs.Records.{nodes, records}
use Rattle.grammar.specs.Reader.{Condition, terms}
use Rattle.grammar.proofs.Table.{both, every, all_at, every_rule, at_rule}

-- a token, and tokens, with another kind
abbrev pub relabel : (ℕ → ℕ) → Tok → Tok
relabel f t = record { place = t.place; kind = f t.kind; start = t.start; stop = t.stop }

abbrev pub relabels : (ℕ → ℕ) → List Tok → List Tok
relabels f [] = []
relabels f (t ∷ ts) = relabel f t ∷ relabels f ts

pub relabels_append : (f : ℕ → ℕ) (xs ys : List Tok) → relabels f (xs ++ ys) ≡ relabels f xs ++ relabels f ys
relabels_append f [] ys = refl
relabels_append f (x ∷ xs) ys = ap {B = List Tok} (relabel f x ∷◌) (relabels_append f xs ys)

-- each set that has a kind has the other
abbrev pub kept : {S : Type 0} → (ℕ → ℕ) → List (Item S) → Bool
kept f [] = true
kept f (one c ∷ is) = every (λ k. has c (f k)) c && kept f is
kept f (sub s ∷ is) = kept f is

module _ {G : Grammar} (N : Names G) (f : ℕ → ℕ) (ok : T (every_rule N (λ s p. kept f (G.parts s p)))) where
  pub kept_at : (s : G.Symbol) (p : G.Rule s) → T (kept f (G.parts s p))
  kept_at s p = at_rule N (λ s p. kept f (G.parts s p)) ok s p

  unfoldable mutual
    pub renew : {s : G.Symbol} → Tree G s → Tree G s
    renew (node {s = s} p g) = node p (renews g (kept_at s p))

    renews : {is : Items G} → Forest G is → T (kept f is) → Forest G is
    renews end h = end
    renews (leaf {c = c} {is = is} t k g) h =
        let l = both (every (λ k. has c (f k)) c) (kept f is) h in
        leaf (relabel f t) (all_at (λ k. has c (f k)) c t.kind l.0 k) (renews g l.1)
    renews (down d g) h = down (renew d) (renews g h)

  mutual
    unfolding yield renew

    pub renew_yield : {s : G.Symbol} (d : Tree G s) → yield (renew d) ≡ relabels f (yield d)
    renew_yield (node {s = s} p g) = renews_yield g (kept_at s p)

    renews_yield : {is : Items G} (g : Forest G is) (h : T (kept f is)) → yields (renews g h) ≡ relabels f (yields g)
    renews_yield end h = refl
    renews_yield (leaf {c = c} {is = is} t k g) h =
        ap {B = List Tok} (relabel f t ∷◌) (renews_yield g (both (every (λ k. has c (f k)) c) (kept f is) h).1)
    renews_yield (down d g) h =
        let p = renew_yield d in
        let q = renews_yield g h in
        ap (◌++ yields (renews g h)) p ∙ ap (relabels f (yield d) ++◌) q ∙ sym (relabels_append f (yield d) (yields g))

  module _ (W : Tolls G) where
    mutual
      unfolding measure renew

      pub renew_measure : {s : G.Symbol} (d : Tree G s) → measure W (renew d) ≡ measure W d
      renew_measure (node {s = s} p g) =
          ap (λ n. fare (W s p) + n) (renews_measure g (kept_at s p))

      renews_measure : {is : Items G} (g : Forest G is) (h : T (kept f is)) → measures W (renews g h) ≡ measures W g
      renews_measure end h = refl
      renews_measure (leaf {c = c} {is = is} t k g) h =
          renews_measure g (both (every (λ k. has c (f k)) c) (kept f is) h).1
      renews_measure (down d g) h =
          let p = renew_measure d in
          let q = renews_measure g h in
          ap (λ n. max n (measures W (renews g h))) p ∙ ap (λ n. max (measure W d) n) q

  -- where the records do not tell the kinds apart either
  module _ (O : Outs G) (leafs : (k : ℕ) → leaf_kind O.leafs (f k) ≡ leaf_kind O.leafs k)
      (flags : (r k : ℕ) → flag_of O.flags r (f k) ≡ flag_of O.flags r k) (zero : f 0 ≡ 0) where
    abbrev pub recast : Acc → Acc
    recast c = record { row = c.row; reach = c.reach; mine = relabel f c.mine; sum = c.sum }

    no_tok_lem : relabel f no_tok ≡ no_tok
    no_tok_lem = ap (λ (k : ℕ). record { place = 0; kind = k; start = 0; stop = 0 }) zero

    head_relabel : (ts : List Tok) → head (relabels f ts) ≡ relabel f (head ts)
    head_relabel [] = sym no_tok_lem
    head_relabel (t ∷ ts) = refl

    pub recast_fresh : recast fresh ≡ fresh
    recast_fresh = ap (λ (t : Tok). record { row = none; reach = fresh.reach; mine = t; sum = 0 }) no_tok_lem

    leave_recast : (x : Leaf) (r : Reach) (t : Tok) (c : Acc)
        → leave O x r (relabel f t) (recast c) ≡ recast (leave O x r t c)
    leave_recast nothing r t c = refl
    leave_recast own r t c = refl
    leave_recast word r t c =
        ap
        (λ (k : ℕ). record {
          row = put c.row (leaf_of k) none;
          reach = widen r c.reach (span_of t);
          mine = relabel f c.mine;
          sum = c.sum;
        })
        (leafs t.kind)
      where
        leaf_of : ℕ → Rec
        leaf_of k = record { kind = k; flag = 0; own = t.place; start = t.start; stop = t.stop; count = 0 }

    made_recast : (k : ℕ) (c : Acc) → made O k (recast c) ≡ made O k c
    made_recast k c =
        let m = made O k c in
        ap
        (λ (n : ℕ). record {
          kind = k;
          flag = n + c.sum;
          own = c.mine.place;
          start = m.start;
          stop = m.stop;
          count = m.count;
        })
        (flags k c.mine.kind)

    finish_recast : (t : Tok) (ss : List Step) (c : Acc)
        → finish O (relabel f t) ss (recast c) ≡ recast (finish O t ss c)
    finish_recast t [] c = refl
    finish_recast t (make k ∷ ss) c =
        ap (λ (r : Rec). finish O (relabel f t) ss (over r no_tok)) (made_recast k c)
        ∙ ap (λ (z : Tok). finish O (relabel f t) ss (over (made O k c) z)) (sym no_tok_lem)
        ∙ finish_recast t ss (over (made O k c) no_tok)
      where
        over : Rec → Tok → Acc
        over r z = record { row = put none r c.row; reach = c.reach; mine = z; sum = 0 }
    finish_recast t (plus n ∷ ss) c = finish_recast t ss _
    finish_recast t (start ∷ ss) c = finish_recast t ss _

    bring_recast : (w : Way) (r : Reach) (g g' : Acc → Acc) → ((c : Acc) → g' (recast c) ≡ recast (g c)) → (c : Acc)
        → bring w r g' (recast c) ≡ recast (bring w r g c)
    bring_recast pass r g g' h c =
        ap (λ (x : Acc). beside r (recast c) (g' x)) (sym recast_fresh)
        ∙ ap (λ (x : Acc). beside r (recast c) x) (h fresh)
    bring_recast fold r g g' h c = h c

    mutual
      unfolding walk renew

      pub renew_walk : {s : G.Symbol} (d : Tree G s) (c : Acc) → walk O (renew d) (recast c) ≡ recast (walk O d c)
      renew_walk (node {s = s} p g) c =
          ap (λ (t : Tok). walks O t (O.marks s p) (renews g (kept_at s p)) (recast c))
          (ap head (renews_yield g (kept_at s p)) ∙ head_relabel (yields g))
          ∙ renews_walk (head (yields g)) (O.marks s p) g (kept_at s p) c

      renews_walk : {is : Items G} (t₀ : Tok) (ms : List Mark) (g : Forest G is) (h : T (kept f is)) (c : Acc)
          → walks O (relabel f t₀) ms (renews g h) (recast c) ≡ recast (walks O t₀ ms g c)
      renews_walk t₀ ms end h c = refl
      renews_walk t₀ ms (leaf {c = cs} {is = is} t k g) h c =
          let m = first_mark ms in
          let l = both (every (λ k. has cs (f k)) cs) (kept f is) h in
          ap (λ (x : Acc). walks O (relabel f t₀) (rest ms) (renews g l.1) x)
          (ap (finish O (relabel f t₀) m.steps) (leave_recast m.token m.reach t c)
          ∙ finish_recast t₀ m.steps (leave O m.token m.reach t c))
          ∙ renews_walk t₀ (rest ms) g l.1 (finish O t₀ m.steps (leave O m.token m.reach t c))
      renews_walk t₀ ms (down d g) h c =
          let m = first_mark ms in
          ap (λ (x : Acc). walks O (relabel f t₀) (rest ms) (renews g h) x)
          (ap (finish O (relabel f t₀) m.steps)
          (bring_recast m.phrase m.reach (λ x. walk O d x) (λ x. walk O (renew d) x) (λ x. renew_walk d x) c)
          ∙ finish_recast t₀ m.steps (bring m.phrase m.reach (λ x. walk O d x) c))
          ∙ renews_walk t₀ (rest ms) g h (finish O t₀ m.steps (bring m.phrase m.reach (λ x. walk O d x) c))

    pub renew_fresh : {s : G.Symbol} (d : Tree G s) → walk O (renew d) fresh ≡ recast (walk O d fresh)
    renew_fresh d = ap (λ (x : Acc). walk O (renew d) x) (sym recast_fresh) ∙ renew_walk d fresh

    pub renew_nodes : {s : G.Symbol} (d : Tree G s) → nodes O (renew d) ≡ nodes O d
    unfolding nodes
    renew_nodes d = ap (λ (x : Acc). records x.row) (renew_fresh d)

    -- and the condition does not
    module _ (K : Condition G) (fair : (x : Acc) (k : ℕ) → K.suits (recast x) (f k) ≡ K.suits x k) where
      next_relabel : (ts : List Tok) → next (relabels f ts) ≡ f (next ts)
      next_relabel [] = sym zero
      next_relabel (t ∷ ts) = refl

      fair_at : (s : G.Symbol) (d : Tree G s) (ts ts' : List Tok) → ts' ≡ relabels f ts
          → T ((terms O K).suits s d (next ts)) → T ((terms O K).suits s (renew d) (next ts'))
      fair_at s d ts ts' e t = go (K.minds s) t
        where
          same : K.suits (walk O (renew d) fresh) (next ts') ≡ K.suits (walk O d fresh) (next ts)
          same =
              ap (λ (x : Acc). K.suits x (next ts')) (renew_fresh d)
              ∙ ap (λ (l : List Tok). K.suits (recast (walk O d fresh)) (next l)) e
              ∙ ap (λ (k : ℕ). K.suits (recast (walk O d fresh)) k) (next_relabel ts) ∙ fair (walk O d fresh) (next ts)

          go : (b : Bool) → T (elim b as (λ z. Bool) [ true ↦ K.suits (walk O d fresh) (next ts) | false ↦ true ])
              → T (elim b as (λ z. Bool) [ true ↦ K.suits (walk O (renew d) fresh) (next ts') | false ↦ true ])
          go true t = subst T (sym same) t
          go false t = tt

      mutual
        unfolding Lawful renew

        pub renew_lawful : {s : G.Symbol} (d : Tree G s) (r r' : List Tok) → r' ≡ relabels f r → Lawful (terms O K) d r
            → Lawful (terms O K) (renew d) r'
        renew_lawful (node {s = s} p g) r r' e l =
            renews_lawful g (kept_at s p) r r' e l

        renews_lawful : {is : Items G} (g : Forest G is) (h : T (kept f is)) (r r' : List Tok) → r' ≡ relabels f r
            → Lawfuls (terms O K) g r → Lawfuls (terms O K) (renews g h) r'
        renews_lawful end h r r' e l = tt
        renews_lawful (leaf {c = c} {is = is} t k g) h r r' e l =
            renews_lawful g (both (every (λ k. has c (f k)) c) (kept f is) h).1 r r' e l
        renews_lawful (down {s = s} d g) h r r' e l =
            let u = yields g ++ r in
            let v = yields (renews g h) ++ r' in
            let q = ap (relabels f (yields g) ++◌) e ∙ sym (relabels_append f (yields g) r) in
            let p : v ≡ relabels f u = ap (◌++ r') (renews_yield g h) ∙ q in
            (fair_at s d u v p l.0, renew_lawful d u v p l.1, renews_lawful g h r r' e l.2)
