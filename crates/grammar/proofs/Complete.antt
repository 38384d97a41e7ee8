-- Each lawful derivation within the allowance is what the reader gives, for a grammar whose tables pass one computed test.
-- Assumes nothing.
use mathlib.Core.Path.{◌≡◌, refl, ap, subst, sym, ◌∙◌}
use mathlib.Core.Bool.{Bool, true, false, not, ◌&&◌}
use mathlib.Core.List.{List, [], ◌∷◌, ◌++◌}
use Prim.Native.Nat.{ℕ, ◌-◌, ◌≤◌}
use native.Mathlib.Omega.{arith}
use lib.Dec.{T, eqb, eqb→eq}
use Rattle.grammar.specs.Grammar.{Tok, next, Item, Items, one, sub, Grammar, has, Tree, node, Forest, end, leaf, down, Tolls, fare, yield, yields, measure, measures, Terms, Lawful, Lawfuls, front, back, Spells, done, whole, halved}
use Rattle.grammar.specs.Reader.{Res, got, Refusal, Plan, pick, put_leaf, put_down, put_node, on_tok, on_head, cut_if, on_suit, on_tree, parts, read}
use Rattle.grammar.specs.Names.{Names}
use Rattle.grammar.proofs.Table.{both, or_left, or_right, yes_not, and_intro, every, every_rule, at_rule, all_at}
use Rattle.grammar.proofs.Table.{takes, takes→eq}
use Rattle.grammar.proofs.Halves.{spells_part, alike}
use Rattle.grammar.proofs.Sound.{Like, lawful_like}
use Rattle.grammar.proofs.Fix.{ranked}
use Rattle.grammar.proofs.Steps.{takes_it}

abbrev pub Sets : Grammar → Type 0
Sets G = G.Symbol → List ℕ

-- the kinds of a set, and with a half the pair that it may be taken from
abbrev pub openings : ℕ → ℕ → List ℕ → List ℕ
openings p h c = elim (has c h) [ true ↦ p ∷ c | false ↦ c ]

-- the kinds that may come next before these parts, with F behind them; A holds those that may come next before a symbol
abbrev pub ahead : {S : Type 0} → ℕ → ℕ → (S → List ℕ) → List (Item S) → List ℕ → List ℕ
ahead p h A [] F = F
ahead p h A (one c ∷ is) F = openings p h c
ahead p h A (sub s ∷ is) F = A s

-- what may come behind each symbol of a production is in the symbol's set of B; no set has a pair and a half
abbrev pub good : {S : Type 0} → ℕ → ℕ → (S → List ℕ) → (S → List ℕ) → List ℕ → List (Item S) → Bool
good p h A B F [] = true
good p h A B F (one c ∷ is) = not (has c h && has c p) && good p h A B F is
good p h A B F (sub s ∷ is) = every (has (B s)) (ahead p h A is F) && good p h A B F is

-- the symbol may begin with k, and there the reader takes production p
abbrev pub leads : (G : Grammar) → Names G → Plan G → Sets G → (s : G.Symbol) → G.Rule s → ℕ → Bool
leads G N P A s p k = has (A s) k && takes N s p (pick (P.guides s) k)

-- production p of s is good, begins as s may, and is the one that the reader takes there
abbrev pub fits : (G : Grammar) → Names G → Plan G → Sets G → Sets G → (s : G.Symbol) → G.Rule s → Bool
fits G N P A B s p =
    good G.pair G.half A B (B s) (G.parts s p)
    && every (leads G N P A s p) (ahead G.pair G.half A (G.parts s p) (B s))

unfoldable pub predictive : (G : Grammar) → Names G → Plan G → Sets G → Sets G → Bool
predictive G N P A B = every_rule N (fits G N P A B)

module _ (G : Grammar) (W : Tolls G) (C : Terms G) (P : Plan G) (A B : Sets G) (N : Names G) (low : T (ranked G N)) (ok : T (predictive G N P A B)) where
  abbrev front_kinds : Items G → List ℕ → List ℕ
  front_kinds = ahead G.pair G.half A

  abbrev fine : List ℕ → Items G → Bool
  fine = good G.pair G.half A B

  -- what the test says of a production, and of a kind that may come next
  pub fit : (s : G.Symbol) (p : G.Rule s) → T (fine (B s) (G.parts s p)) × T (every (leads G N P A s p) (front_kinds (G.parts s p) (B s)))
  unfolding predictive
  fit s p = both (fine (B s) (G.parts s p)) (every (leads G N P A s p) (front_kinds (G.parts s p) (B s))) (at_rule N (fits G N P A B) ok s p)

  fit_at : (s : G.Symbol) (p : G.Rule s) (k : ℕ) → T (has (front_kinds (G.parts s p) (B s)) k) → T (has (A s) k) × T (takes N s p (pick (P.guides s) k))
  fit_at s p k h = both (has (A s) k) (takes N s p (pick (P.guides s) k)) (all_at (leads G N P A s p) (front_kinds (G.parts s p) (B s)) k (fit s p).1 h)

  -- a kind of a set, or the pair of its half, is among its openings
  open_in : (c : List ℕ) (k : ℕ) → T (has c k) → T (has (openings G.pair G.half c) k)
  open_in c k h = go (has c G.half)
    where
      go : (b : Bool) → T (has (elim b as (λ z. List ℕ) [ true ↦ G.pair ∷ c | false ↦ c ]) k)
      go true = or_right (eqb k G.pair) (has c k) h
      go false = h

  open_pair : (c : List ℕ) (k : ℕ) → T (has c G.half) → T (eqb k G.pair)
      → T (has (openings G.pair G.half c) k)
  open_pair c k h e = go (has c G.half) h
    where
      go : (b : Bool) → T b → T (has (elim b as (λ z. List ℕ) [ true ↦ G.pair ∷ c | false ↦ c ]) k)
      go true t = or_left (eqb k G.pair) (has c k) e
      go false t = absurd t

  mutual
    unfolding yield

    pub opens : {s : G.Symbol} (d : Tree G s) {ts r : List Tok} → Spells G ts (yield d) r → T (has (B s) (next r)) → T (has (A s) (next ts))
    opens (node {s = s} p f) {ts} x h = (fit_at s p (next ts) (opening (B s) f x (fit s p).0 h)).0

    pub opening : (F : List ℕ) {is : Items G} (f : Forest G is) {ts r : List Tok} → Spells G ts (yields f) r → T (fine F is) → T (has F (next r)) → T (has (front_kinds is F) (next ts))
    opening F end done g h = h
    opening F (leaf {c = c} t k f) (whole x) g h = open_in c t.kind k
    opening F (leaf {c = c} t k f) (halved {t = u} e x) g h = open_pair c u.kind k e
    opening F (down {s = s} {is = is} d f) x g h =
        let l = both (every (has (B s)) (front_kinds is F)) (fine F is) g in
        let y = spells_part (yield d) (yields f) x in
        opens d y.first
        (all_at (has (B s)) (front_kinds is F) (next y.mid) l.0 (opening F f y.second l.1 h))

  taken : (c : List ℕ) {is : Items G} (t : Tok) (ts : List Tok) (b : Bool) (h : T b → T (has c t.kind)) (q : T b) (k : List Tok → Res (Forest G is)) (f : Forest G is) (r : List Tok) → k ts ≡ got f r → on_tok P {c = c} t ts b h k ≡ got (leaf t (h q) f) r
  taken c t ts true h q k f r e = ap (put_leaf t (h tt)) e
  taken c t ts false h q k f r e = absurd q

  -- a token that is taken whole, and half of one
  uncut : (c : List ℕ) {is : Items G} (t : Tok) (ts : List Tok) (b : Bool) → (T b → ⊥)
      → (k : List Tok → Res (Forest G is)) (f : Forest G is) (r : List Tok) (h : T (has c t.kind)) → k ts ≡ got f r
      → on_head P {c = c} (cut_if G.half b t ts) k ≡ got (leaf t h f) r
  uncut c t ts true n k f r h e = absurd (n tt)
  uncut c t ts false n k f r h e = taken c t ts (has c t.kind) (λ x. x) h k f r e

  cut_in : (c : List ℕ) {is : Items G} (t : Tok) (ts : List Tok) (b : Bool) → T b
      → (k : List Tok → Res (Forest G is)) (f : Forest G is) (r : List Tok) (h : T (has c G.half))
      → k (back G.half t ∷ ts) ≡ got f r
      → on_head P {c = c} (cut_if G.half b t ts) k ≡ got (leaf (front G.half t) h f) r
  cut_in c t ts true n k f r h e =
      taken c (front G.half t) (back G.half t ∷ ts) (has c G.half) (λ x. x) h k f r e
  cut_in c t ts false n k f r h e = absurd n

  no_both : (c : List ℕ) (t : Tok) → T (not (has c G.half && has c G.pair)) → T (has c t.kind)
      → T (has c G.half && eqb t.kind G.pair) → ⊥
  no_both c t n h b =
      let l = both (has c G.half) (eqb t.kind G.pair) b in
      yes_not (has c G.half && has c G.pair) n
      (and_intro (has c G.half) (has c G.pair) l.0
      (subst (λ (k : ℕ). T (has c k)) (eqb→eq t.kind G.pair l.1) h))

  suited : {s : G.Symbol} {is : Items G} (x : Refusal) (b : Bool) → T b → (d : Tree G s) (r : List Tok) (k : List Tok → Res (Forest G is)) (f : Forest G is) (r' : List Tok) → k r ≡ got f r' → on_suit x b d r k ≡ got (down d f) r'
  suited x true t d r k f r' e = ap (put_down d) e
  suited x false t d r k f r' e = absurd t

  mutual
    unfolding yield measure Lawful

    -- completeness
    pub complete : {s : G.Symbol} (d : Tree G s) (a : ℕ) {ts r : List Tok} → Spells G ts (yield d) r → measure W d ≤ a → Lawful C d r → T (has (B s) (next r)) → read G W C P s a ts ≡ got d r
    complete (node {s = s} p f) a {ts} x m l h =
        let o = (fit_at s p (next ts) (opening (B s) f x (fit s p).0 h)).1 in
        let c = takes→eq N s p (pick (P.guides s) (next ts)) o in
        takes_it G W C P N low s p a ts c (omega arith)
        ∙ ap (put_node p) (completes (B s) f (a - fare (W s p)) x (omega arith) l (fit s p).0 h)

    completes : (F : List ℕ) {is : Items G} (f : Forest G is) (a : ℕ) {ts r : List Tok} → Spells G ts (yields f) r → measures W f ≤ a → Lawfuls C f r → T (fine F is) → T (has F (next r)) → parts C P (read G W C P) is a ts ≡ got f r
    completes F end a done m l g h = refl
    completes F (leaf {c = c} {is = is} t k f) a {r = r} (whole {ts = ts} x) m l g h =
        let n = both (not (has c G.half && has c G.pair)) (fine F is) g in
        uncut c t ts (has c G.half && eqb t.kind G.pair) (no_both c t n.0 k)
        (parts C P (read G W C P) is a) f r k (completes F f a x m l n.1 h)
    completes F (leaf {c = c} {is = is} t k f) a {r = r} (halved {t = u} {ts = ts} e x) m l g h =
        let n = both (not (has c G.half && has c G.pair)) (fine F is) g in
        cut_in c u ts (has c G.half && eqb u.kind G.pair)
        (and_intro (has c G.half) (eqb u.kind G.pair) k e) (parts C P (read G W C P) is a) f r k
        (completes F f a x m l n.1 h)
    completes F (down {s = s} {is = is} d f) a {r = r} x m l g h =
        let n = both (every (has (B s)) (front_kinds is F)) (fine F is) g in
        let y = spells_part (yield d) (yields f) x in
        let z : Like C (yields f ++ r) y.mid = λ s d. sym (alike C s d y.second) in
        let o = all_at (has (B s)) (front_kinds is F) (next y.mid) n.0 (opening F f y.second n.1 h) in
        ap (λ q. on_tree C P q (parts C P (read G W C P) is a))
        (complete d a y.first (omega arith) (lawful_like C d (yields f ++ r) y.mid z l.1) o)
        ∙ suited (P.unsuited s d) (C.suits s d (next y.mid)) (subst T (z s d) l.0) d y.mid (parts C P (read G W C P) is a) f r (completes F f a y.second (omega arith) l.2 n.1 h)
