-- The records of a derivation are at most as many as its tokens.
-- Assumes nothing.
use mathlib.Core.Path.{◌≡◌, refl, subst, ◌∙◌}
use mathlib.Core.Bool.{Bool, true, false, not}
use mathlib.Core.List.{List, [], ◌∷◌, ◌++◌}
use Prim.Native.Nat.{ℕ, suc, ◌+◌, ◌≤◌}
use native.Mathlib.Omega.{arith}
use lib.Dec.{T, eqb, eqb→eq, leb, leb→le}
use lib.ListN.{length, length-append}
use Rattle.grammar.specs.Grammar.{Tok, head, has, Item, Items, one, sub, Grammar, Tree, node, Forest, end, leaf, down, yield, yields}
use Rattle.grammar.specs.Records.{Row, none, put, glue, records, Leaf, nothing, own, word, Way, pass, fold, Reach, Step, make, plus, start, Mark, Outs, Acc, fresh, leave, bring, finish, first_mark, rest, walk, walks, nodes}
use Rattle.grammar.specs.Facts.{bit, full}
use Rattle.grammar.specs.Names.{Names}
use Rattle.grammar.proofs.Table.{every_rule, at_rule}

abbrev pub size : Row → ℕ
size none = 0
size (put b r ks) = suc (size b + size ks)

pub size_records : (x : Row) → length (records x) ≡ size x
unfolding records
size_records none = refl
size_records (put b r ks) =
    let p = size_records b in
    let q = size_records ks in
    omega (arith, length-append (records b) (records ks ++ (r ∷ [])), length-append (records ks) (r ∷ []))

size_glue : (x y : Row) → size (glue x y) ≡ size x + size y
size_glue x none = omega arith
size_glue x (put b r ks) = let p = size_glue x b in omega arith

abbrev pub words : Leaf → ℕ
words nothing = 0
words own = 0
words word = 1

abbrev pub makes : List Step → ℕ
makes [] = 0
makes (make k ∷ ss) = suc (makes ss)
makes (plus n ∷ ss) = makes ss
makes (start ∷ ss) = makes ss

-- the records that a production leaves, and its tokens that may not be halves
abbrev pub spend : {S : Type 0} → List Mark → List (Item S) → ℕ
spend ms [] = 0
spend ms (one c ∷ is) = words (first_mark ms).token + makes (first_mark ms).steps + spend (rest ms) is
spend ms (sub s ∷ is) = makes (first_mark ms).steps + spend (rest ms) is

abbrev pub ones : {S : Type 0} → ℕ → List (Item S) → ℕ
ones h [] = 0
ones h (one c ∷ is) = bit (not (has c h)) + ones h is
ones h (sub s ∷ is) = ones h is

abbrev pub thrift : (G : Grammar) → Outs G → (s : G.Symbol) → G.Rule s → Bool
thrift G O s p = leb (spend (O.marks s p) (G.parts s p)) (ones G.half (G.parts s p))

abbrev pub thrifty : (G : Grammar) → Names G → Outs G → Bool
thrifty G N O = every_rule N (thrift G O)

size_finish : {G : Grammar} (O : Outs G) (t : Tok) (ss : List Step) (c : Acc) → size (finish O t ss c).row ≡ size c.row + makes ss
size_finish O t [] c = omega arith
size_finish O t (make k ∷ ss) c = size_finish O t ss _ ∙ omega arith
size_finish O t (plus n ∷ ss) c = size_finish O t ss _
size_finish O t (start ∷ ss) c = size_finish O t ss _

size_leave : {G : Grammar} (O : Outs G) (x : Leaf) (r : Reach) (t : Tok) (c : Acc) → size (leave O x r t c).row ≡ size c.row + words x
size_leave O nothing r t c = omega arith
size_leave O own r t c = omega arith
size_leave O word r t c = omega arith

size_bring : (w : Way) (r : Reach) (g : Acc → Acc) (n : ℕ) → ((c : Acc) → size (g c).row ≤ size c.row + n) → (c : Acc) → size (bring w r g c).row ≤ size c.row + n
size_bring pass r g n h c = omega (arith, size_glue c.row (g fresh).row, h fresh)
size_bring fold r g n h c = h c

-- a token of a set without halves is no half
one_full : (c : List ℕ) (h : ℕ) (t : Tok) → T (has c t.kind) → bit (not (has c h)) ≤ bit (not (eqb t.kind h))
one_full c h t k = go (eqb t.kind h) (eqb→eq t.kind h) (has c h) (λ e. subst (λ (i : ℕ). T (has c i)) e k)
  where
    go : (b : Bool) → (T b → t.kind ≡ h) → (b' : Bool) → (t.kind ≡ h → T b') → bit (not b') ≤ bit (not b)
    go true e true f = omega arith
    go true e false f = absurd (f (e tt))
    go false e true f = omega arith
    go false e false f = omega arith

full_append : (h : ℕ) (xs ys : List Tok) → full h (xs ++ ys) ≡ full h xs + full h ys
full_append h [] ys = omega arith
full_append h (x ∷ xs) ys = let p = full_append h xs ys in omega arith

module _ (G : Grammar) (N : Names G) (O : Outs G) (ok : T (thrifty G N O)) where
  mutual
    unfolding walk yield

    pub size_walk : {s : G.Symbol} (d : Tree G s) (c : Acc)
        → size (walk O d c).row ≤ size c.row + full G.half (yield d)
    size_walk (node {s = s} p f) c = let t = leb→le (spend (O.marks s p) (G.parts s p)) (ones G.half (G.parts s p)) (at_rule N (thrift G O) ok s p) in omega (arith, size_walks (head (yields f)) (O.marks s p) f c)

    size_walks : {is : Items G} (t₀ : Tok) (ms : List Mark) (f : Forest G is) (c : Acc) → size (walks O t₀ ms f c).row + ones G.half is ≤ size c.row + spend ms is + full G.half (yields f)
    size_walks t₀ ms end c = omega arith
    size_walks t₀ ms (leaf {c = k} t h f) c =
        let m = first_mark ms in
        let c' = leave O m.token m.reach t c in
        omega (arith, size_walks t₀ (rest ms) f (finish O t₀ m.steps c'), size_finish O t₀ m.steps c', size_leave O m.token m.reach t c, one_full k G.half t h)
    size_walks t₀ ms (down d f) c =
        let m = first_mark ms in
        let c' = bring m.phrase m.reach (λ x. walk O d x) c in
        omega (arith, size_walks t₀ (rest ms) f (finish O t₀ m.steps c'), size_finish O t₀ m.steps c', size_bring m.phrase m.reach (λ x. walk O d x) (full G.half (yield d)) (λ x. size_walk d x) c, full_append G.half (yield d) (yields f))

  pub few : {s : G.Symbol} (d : Tree G s) → length (nodes O d) ≤ full G.half (yield d)
  unfolding nodes
  few d = omega (arith, size_records (walk O d fresh).row, size_walk d fresh)
