-- The reader: a total function from tokens to a derivation and the tokens behind it, or to a refusal.
-- Assumes nothing.
use Rattle.std.specs.Prelude.{◌≡◌, Bool, true, false, ◌&&◌, List, [], ◌∷◌, ℕ, zero, suc, ◌+◌, ◌-◌, ◌*◌, T, leb, eqb}
use Rattle.std.proofs.Common.{ap}
use Rattle.grammar.specs.Grammar.{Tok, head, next, one, sub, Items, Grammar, has, front, back, Tree, node, Forest, end, leaf, down, Toll, free, before, behind, Tolls, fare, Terms}
use Rattle.grammar.specs.Records.{Acc, fresh, Outs, walk}

-- a refusal: its number, the token or span that it marks, and the kind that was wanted
pub record Refusal : Type 0 where
  pub number : ℕ
  pub at : Tok
  pub wanted : ℕ

pub data Res (A : Type 0) : Type 0 where
  got : A → List Tok → Res A
  bad : Refusal → Res A

-- what to do at a symbol: read by a production of it, or refuse
pub data Choice (R : Type 0) : Type 0 where
  use' : R → Choice R
  refuse : ℕ → Choice R

-- how a symbol is read: by the production beside the first set that has the next token's kind, else the last entry
pub record Guide (R : Type 0) : Type 0 where
  pub ways : List (List ℕ × R)
  pub other : Choice R

-- how a grammar is read: each symbol's guide; the refusal and the wanted kind where none of these kinds stands;
-- the refusal where a phrase does not suit what stands behind it, and where the allowance is spent
pub record Plan (G : Grammar) : Type 0 where
  pub guides : (s : G.Symbol) → Guide (G.Rule s)
  pub missed : List ℕ → ℕ
  pub wanted : List ℕ → ℕ
  pub unsuited : (s : G.Symbol) → Tree G s → Refusal
  pub limit : ℕ

-- a condition on what the phrases of some symbols leave: before which kinds it may stand, and the refusal where it may not
pub record Condition (G : Grammar) : Type 0 where
  pub minds : G.Symbol → Bool
  pub suits : Acc → ℕ → Bool
  pub even : (x : Acc) → suits x G.pair ≡ suits x G.half
  pub refusal : Acc → Refusal

abbrev pub terms : {G : Grammar} → Outs G → Condition G → Terms G
terms O K = record {
  suits = λ s d k. elim (K.minds s) [ true ↦ K.suits (walk O d fresh) k | false ↦ true ];
  even = λ s d.
      ap (λ (b : Bool). elim (K.minds s) as (λ z. Bool) [ true ↦ b | false ↦ true ]) (K.even (walk O d fresh));
}

abbrev pub choose : {R : Type 0} → List (List ℕ × R) → Choice R → ℕ → Choice R
choose [] o k = o
choose (w ∷ ws) o k = elim (has w.0 k) [ true ↦ use' w.1 | false ↦ choose ws o k ]

abbrev pub pick : {R : Type 0} → Guide R → ℕ → Choice R
pick g k = choose g.ways g.other k

abbrev pub spot : Toll → List Tok → List Tok
spot free ts = ts
spot before ts = ts
spot behind [] = []
spot behind (t ∷ ts) = ts

-- the refusal where the next token is none of these kinds
abbrev pub miss : {G : Grammar} → Plan G → List ℕ → List Tok → Refusal
miss P cs ts = record { number = P.missed cs; at = head ts; wanted = P.wanted cs }

abbrev pub refusal : ℕ → List Tok → Refusal
refusal n ts = record { number = n; at = head ts; wanted = 0 }

-- where a half is wanted and a pair stands, its halves
abbrev pub cut_if : ℕ → Bool → Tok → List Tok → List Tok
cut_if h true t ts = front h t ∷ (back h t ∷ ts)
cut_if h false t ts = t ∷ ts

abbrev pub cut : (G : Grammar) → List ℕ → List Tok → List Tok
cut G c [] = []
cut G c (t ∷ ts) = cut_if G.half (has c G.half && eqb t.kind G.pair) t ts

-- the number of tokens, a pair counted twice
abbrev pub weigh : Bool → ℕ → ℕ
weigh true n = suc (suc n)
weigh false n = suc n

abbrev pub bulk : ℕ → List Tok → ℕ
bulk p [] = 0
bulk p (t ∷ ts) = weigh (eqb t.kind p) (bulk p ts)

-- a reader of each symbol
abbrev pub Reads : Grammar → Type 0
Reads G = (s : G.Symbol) → ℕ → List Tok → Res (Tree G s)

module _ {G : Grammar} where
  abbrev pub put_leaf : {c : List ℕ} {is : Items G} (t : Tok) → T (has c t.kind) → Res (Forest G is) → Res (Forest G (one c ∷ is))
  put_leaf t h (got f r) = got (leaf t h f) r
  put_leaf t h (bad e) = bad e

  abbrev pub put_down : {s : G.Symbol} {is : Items G} → Tree G s → Res (Forest G is) → Res (Forest G (sub s ∷ is))
  put_down d (got f r) = got (down d f) r
  put_down d (bad e) = bad e

  abbrev pub put_node : {s : G.Symbol} (p : G.Rule s) → Res (Forest G (G.parts s p)) → Res (Tree G s)
  put_node p (got f r) = got (node p f) r
  put_node p (bad e) = bad e

  abbrev pub on_tok : Plan G → {c : List ℕ} {is : Items G} (t : Tok) → List Tok → (b : Bool) → (T b → T (has c t.kind)) → (List Tok → Res (Forest G is)) → Res (Forest G (one c ∷ is))
  on_tok P t ts true h k = put_leaf t (h tt) (k ts)
  on_tok P {c = c} t ts false h k = bad (miss P c (t ∷ ts))

  abbrev pub on_head : Plan G → {c : List ℕ} {is : Items G} → List Tok → (List Tok → Res (Forest G is)) → Res (Forest G (one c ∷ is))
  on_head P {c = c} [] k = bad (miss P c [])
  on_head P {c = c} (t ∷ ts) k = on_tok P t ts (has c t.kind) (λ h. h) k

  abbrev pub on_suit : {s : G.Symbol} {is : Items G} → Refusal → Bool → Tree G s → List Tok → (List Tok → Res (Forest G is)) → Res (Forest G (sub s ∷ is))
  on_suit e true d r k = put_down d (k r)
  on_suit e false d r k = bad e

  module _ (C : Terms G) (P : Plan G) where
    abbrev pub on_tree : {s : G.Symbol} {is : Items G} → Res (Tree G s) → (List Tok → Res (Forest G is)) → Res (Forest G (sub s ∷ is))
    on_tree {s = s} (got d r) k = on_suit (P.unsuited s d) (C.suits s d (next r)) d r k
    on_tree (bad e) k = bad e

    -- the parts of a production, one after the other
    abbrev pub parts : Reads G → (is : Items G) → ℕ → List Tok → Res (Forest G is)
    parts rec [] a ts = got end ts
    parts rec (one c ∷ is) a ts = on_head P (cut G c ts) (parts rec is a)
    parts rec (sub s ∷ is) a ts = on_tree (rec s a ts) (parts rec is a)

  abbrev pub paid : Plan G → {s : G.Symbol} (p : G.Rule s) → Toll → Bool → Res (Forest G (G.parts s p)) → List Tok → Res (Tree G s)
  paid P p w true r ts = put_node p r
  paid P p w false r ts = bad (refusal P.limit (spot w ts))

  module _ (W : Tolls G) (C : Terms G) (P : Plan G) where
    abbrev pub act : Reads G → (s : G.Symbol) → Choice (G.Rule s) → ℕ → List Tok → Res (Tree G s)
    act rec s (use' p) a ts = let r = parts C P rec (G.parts s p) (a - fare (W s p)) ts in paid P p (W s p) (leb (fare (W s p)) a) r ts
    act rec s (refuse n) a ts = bad (refusal n ts)

-- one step of reading: the next token's kind picks the production
abbrev pub step : (G : Grammar) (W : Tolls G) (C : Terms G) (P : Plan G) → Reads G → Reads G
step G W C P rec s a ts = act W C P rec s (pick (P.guides s) (next ts)) a ts

-- reading, at most n productions deep
unfoldable pub deep : (G : Grammar) (W : Tolls G) (C : Terms G) (P : Plan G) → ℕ → Reads G
deep G W C P zero s a ts = bad (refusal P.limit ts)
deep G W C P (suc n) s a ts = step G W C P (deep G W C P n) s a ts

-- reading, with a depth that is always enough (`Fix.fix`)
unfoldable pub read : (G : Grammar) (W : Tolls G) (C : Terms G) (P : Plan G) → Reads G
read G W C P s a ts = deep G W C P (64 + 64 * bulk G.pair ts) s a ts
