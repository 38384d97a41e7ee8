-- The numbers of the refusals: each passes a test that the tables pass.
-- Assumes nothing.
use mathlib.Core.Path.{◌≡◌, subst}
use mathlib.Core.Bool.{Bool, true, false, ◌&&◌}
use mathlib.Core.List.{List, [], ◌∷◌}
use Prim.Native.Nat.{ℕ, zero, suc, ◌+◌, ◌-◌, ◌*◌}
use lib.Dec.{T, eqb, leb}
use Rattle.grammar.specs.Grammar.{Tok, next, Item, Items, one, sub, Grammar, has, Tree, Forest, Toll, Tolls, fare, Terms, front, back}
use Rattle.grammar.specs.Reader.{Res, got, bad, Refusal, Choice, use', refuse, Plan, choose, pick, Reads, put_leaf, put_down, on_tok, on_head, cut_if, bulk, on_suit, on_tree, parts, paid, act, deep, read}
use Rattle.grammar.specs.Names.{Names}
use Rattle.grammar.proofs.Table.{both, every_symbol, at_symbol, every_rule, at_rule}

abbrev on_refuse : {R : Type 0} → (ℕ → Bool) → Choice R → Bool
on_refuse f (use' p) = true
on_refuse f (refuse n) = f n

chosen : {R : Type 0} (f : ℕ → Bool) (ws : List (List ℕ × R)) (o : Choice R) (k : ℕ) → T (on_refuse f o) → T (on_refuse f (choose ws o k))
chosen f [] o k t = t
chosen {R} f (w ∷ ws) o k t = go (has w.0 k) (chosen f ws o k t)
  where
    go : (b : Bool) → T (on_refuse f (choose ws o k)) → T (on_refuse {R = R} f (elim b [ true ↦ use' w.1 | false ↦ choose ws o k ]))
    go true q = tt
    go false q = q

abbrev pub missing : {S : Type 0} → (ℕ → Bool) → (List ℕ → ℕ) → List (Item S) → Bool
missing f g [] = true
missing f g (one c ∷ is) = f (g c) && missing f g is
missing f g (sub s ∷ is) = missing f g is

abbrev pub numbered : (G : Grammar) → Names G → Plan G → (ℕ → Bool) → Bool
numbered G N P f = f P.limit && (every_symbol N (λ s. on_refuse f (P.guides s).other) && every_rule N (λ s p. missing f P.missed (G.parts s p)))

module _ (G : Grammar) (W : Tolls G) (C : Terms G) (P : Plan G) (N : Names G) (f : ℕ → Bool) (ok : T (numbered G N P f)) (suited : (s : G.Symbol) (d : Tree G s) → T (f (P.unsuited s d).number)) where
  abbrev Told : {X : Type 0} → Res X → Type 0
  Told (got x r) = Unit {0}
  Told (bad e) = T (f e.number)

  leaf_told : (c : List ℕ) {is : Items G} (t : Tok) (h : T (has c t.kind)) (q : Res (Forest G is)) → Told q → Told (put_leaf {c = c} t h q)
  leaf_told c t h (got g r) p = tt
  leaf_told c t h (bad e) p = p

  tok_told : (c : List ℕ) {is : Items G} (t : Tok) (ts : List Tok) (b : Bool) (h : T b → T (has c t.kind)) (k : List Tok → Res (Forest G is)) → T (f (P.missed c)) → Told (k ts) → Told (on_tok P {c = c} t ts b h k)
  tok_told c t ts true h k m p = leaf_told c t (h tt) (k ts) p
  tok_told c t ts false h k m p = m

  cut_told : (c : List ℕ) {is : Items G} (x : Tok) (ts : List Tok) (b : Bool) (k : List Tok → Res (Forest G is))
      → T (f (P.missed c)) → ((r : List Tok) → Told (k r)) → Told (on_head P {c = c} (cut_if G.half b x ts) k)
  cut_told c x ts true k m h =
      tok_told c (front G.half x) (back G.half x ∷ ts) (has c G.half) (λ y. y) k m (h (back G.half x ∷ ts))
  cut_told c x ts false k m h = tok_told c x ts (has c x.kind) (λ y. y) k m (h ts)

  down_told : {s : G.Symbol} {is : Items G} (d : Tree G s) (q : Res (Forest G is)) → Told q → Told (put_down d q)
  down_told d (got g r) p = tt
  down_told d (bad e) p = p

  suit_told : {s : G.Symbol} {is : Items G} (d : Tree G s) (b : Bool) (r : List Tok) (k : List Tok → Res (Forest G is)) → Told (k r) → Told (on_suit (P.unsuited s d) b d r k)
  suit_told d true r k p = down_told d (k r) p
  suit_told {s} d false r k p = suited s d

  tree_told : {s : G.Symbol} {is : Items G} (q : Res (Tree G s)) → Told q → (k : List Tok → Res (Forest G is)) → ((r : List Tok) → Told (k r)) → Told (on_tree C P q k)
  tree_told {s} (got d r) p k h = suit_told d (C.suits s d (next r)) r k (h r)
  tree_told (bad e) p k h = p

  parts_told : (rec : Reads G) → ((s : G.Symbol) (a : ℕ) (ts : List Tok) → Told (rec s a ts)) → (is : Items G) → T (missing f P.missed is) → (a : ℕ) (ts : List Tok) → Told (parts C P rec is a ts)
  parts_told rec h [] t a ts = tt
  parts_told rec h (one c ∷ is) t a [] = (both (f (P.missed c)) (missing f P.missed is) t).0
  parts_told rec h (one c ∷ is) t a (x ∷ ts) =
      let l = both (f (P.missed c)) (missing f P.missed is) t in
      cut_told c x ts (has c G.half && eqb x.kind G.pair) (parts C P rec is a) l.0
      (parts_told rec h is l.1 a)
  parts_told rec h (sub s ∷ is) t a ts = tree_told (rec s a ts) (h s a ts) (parts C P rec is a) (parts_told rec h is t a)

  paid_told : (s : G.Symbol) (p : G.Rule s) (w : Toll) (b : Bool) (q : Res (Forest G (G.parts s p))) (ts : List Tok) → T (f P.limit) → Told q → Told (paid P {s = s} p w b q ts)
  paid_told s p w true (got g r) ts l h = tt
  paid_told s p w true (bad e) ts l h = h
  paid_told s p w false q ts l h = l

  abbrev guides_ok : Bool
  guides_ok = every_symbol N (λ s. on_refuse f (P.guides s).other)

  abbrev rules_ok : Bool
  rules_ok = every_rule N (λ s p. missing f P.missed (G.parts s p))

  oks : T (f P.limit) × T (guides_ok && rules_ok)
  oks = both (f P.limit) (guides_ok && rules_ok) ok

  act_told : (rec : Reads G) → ((s : G.Symbol) (a : ℕ) (ts : List Tok) → Told (rec s a ts)) → (s : G.Symbol) (c : Choice (G.Rule s)) → T (on_refuse f c) → (a : ℕ) (ts : List Tok) → Told (act W C P rec s c a ts)
  act_told rec h s (use' p) t a ts =
      paid_told s p (W s p) (leb (fare (W s p)) a) (parts C P rec (G.parts s p) (a - fare (W s p)) ts) ts oks.0
      (parts_told rec h (G.parts s p) (at_rule N (λ s p. missing f P.missed (G.parts s p)) (both guides_ok rules_ok oks.1).1 s p) (a - fare (W s p)) ts)
  act_told rec h s (refuse n) t a ts = t

  deep_told : (n : ℕ) (s : G.Symbol) (a : ℕ) (ts : List Tok) → Told (deep G W C P n s a ts)
  unfolding deep
  deep_told zero s a ts = oks.0
  deep_told (suc n) s a ts =
      act_told (deep G W C P n) (deep_told n) s (pick (P.guides s) (next ts))
      (chosen f (P.guides s).ways (P.guides s).other (next ts) (at_symbol N (λ s. on_refuse f (P.guides s).other) (both guides_ok rules_ok oks.1).0 s)) a ts

  pub number : (s : G.Symbol) (a : ℕ) (ts : List Tok) (e : Refusal) → read G W C P s a ts ≡ bad e → T (f e.number)
  unfolding read
  number s a ts e q = subst (λ r. Told r) q (deep_told (64 + 64 * bulk G.pair ts) s a ts)
