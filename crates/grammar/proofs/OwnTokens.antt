-- Each record's own token is one of the derivation's, of a kind that a list has for the record's kind.
-- Assumes nothing.
use mathlib.Core.Path.{◌≡◌, refl, ◌∙◌, subst}
use mathlib.Core.Bool.{Bool, true, false, not, ◌&&◌, ◌||◌}
use mathlib.Core.List.{List, [], ◌∷◌, ◌++◌, append_assoc, append-nil}
use mathlib.Core.Option.{Option, none as nobody, some}
use Prim.Native.Nat.{ℕ}
use lib.Dec.{T, eqb, eqb→eq}
use Rattle.grammar.specs.Grammar.{Tok, head, Item, Items, one, sub, has, Grammar, Tree, node, Forest, end, leaf, down, yield, yields, Spells}
use Rattle.grammar.specs.Names.{Names}
use Rattle.grammar.specs.Records.{Rec, Row, none, put, glue, Leaf, nothing, own, word, Way, pass, fold, Reach, Step, make, plus, start, Mark, Outs, leaf_kind, Acc, fresh, leave, bring, finish, first_mark, rest, walk, walks}
use Rattle.grammar.specs.Facts.{kinds_for, Among, here, there, OwnToken, OwnTokens}
use Rattle.grammar.proofs.Sets.{pure}
use Rattle.grammar.proofs.Table.{both, yes_not, every, all_at, implies, every_rule, at_rule}
use Rattle.grammar.proofs.Halves.{spells_among}

-- the kinds of the token that waits for its record, if one does
abbrev Pending : Type 0
Pending = Option (List ℕ)

abbrev Mine : Pending → List Tok → Tok → Type 0
Mine nobody ts t = Unit {0}
Mine (some c) ts t = Among t ts × T (has c t.kind)

abbrev waits : Pending → Leaf → List ℕ → Pending
waits q nothing c = q
waits q own c = some c
waits q word c = q

abbrev settled : Pending → List Step → Pending
settled q [] = q
settled q (make k ∷ ss) = settled nobody ss
settled q (plus n ∷ ss) = settled q ss
settled q (start ∷ ss) = settled q ss

-- a record takes the token that waits, and the list has its kinds
abbrev allowed : List (ℕ × List ℕ) → ℕ → Pending → Bool
allowed M k nobody = false
allowed M k (some c) = every (has (kinds_for M k)) c

abbrev takes : List (ℕ × List ℕ) → Pending → List Step → Bool
takes M q [] = true
takes M q (make k ∷ ss) = allowed M k q && takes M nobody ss
takes M q (plus n ∷ ss) = takes M q ss
takes M q (start ∷ ss) = takes M q ss

-- a token with a record of its own
abbrev leaves : {G : Grammar} → Outs G → List (ℕ × List ℕ) → Leaf → List ℕ → Bool
leaves O M nothing c = true
leaves O M own c = true
leaves O M word c = every (λ k. has (kinds_for M (leaf_kind O.leafs k)) k) c

-- on top of a token that waits only pure symbols are folded
abbrev lets : Way → Pending → Bool → Bool
lets pass q u = true
lets fold nobody u = true
lets fold (some c) u = u

abbrev keyed : {G : Grammar} → Outs G → List (ℕ × List ℕ) → (G.Symbol → Bool) → Pending → List Mark → Items G → Bool
keyed O M U q ms [] = true
keyed O M U q ms (one c ∷ is) =
    leaves O M (first_mark ms).token c && (takes M (waits q (first_mark ms).token c) (first_mark ms).steps && keyed O M U (settled (waits q (first_mark ms).token c) (first_mark ms).steps) (rest ms) is)
keyed O M U q ms (sub s ∷ is) = lets (first_mark ms).phrase q (U s) && (takes M q (first_mark ms).steps && keyed O M U (settled q (first_mark ms).steps) (rest ms) is)

-- a pure symbol leaves the token that waits alone
abbrev quietly : Leaf → Bool
quietly nothing = true
quietly own = false
quietly word = true

abbrev makeless : List Step → Bool
makeless [] = true
makeless (make k ∷ ss) = false
makeless (plus n ∷ ss) = makeless ss
makeless (start ∷ ss) = makeless ss

abbrev softly : Way → Bool → Bool
softly pass u = true
softly fold u = u

abbrev quiet : {S : Type 0} → (S → Bool) → List Mark → List (Item S) → Bool
quiet U ms [] = true
quiet U ms (one c ∷ is) = quietly (first_mark ms).token && (makeless (first_mark ms).steps && quiet U (rest ms) is)
quiet U ms (sub s ∷ is) = softly (first_mark ms).phrase (U s) && (makeless (first_mark ms).steps && quiet U (rest ms) is)

abbrev keeps : {G : Grammar} → Names G → Outs G → List (ℕ × List ℕ) → (s : G.Symbol) → G.Rule s → Bool
keeps {G} N O M s p = keyed O M (pure N O) nobody (O.marks s p) (G.parts s p) && (not (pure N O s) || quiet (pure N O) (O.marks s p) (G.parts s p))

unfoldable pub keyedly : (G : Grammar) → Names G → Outs G → List (ℕ × List ℕ) → Bool
keyedly G N O M = every_rule N (keeps N O M)

-- more tokens
among_more : {t : Tok} {ts : List Tok} (us : List Tok) → Among t ts → Among t (ts ++ us)
among_more us here = here
among_more us (there h) = there (among_more us h)

among_last : (ts : List Tok) (t : Tok) → Among t (ts ++ (t ∷ []))
among_last [] t = here
among_last (u ∷ ts) t = there (among_last ts t)

among_after : (us : List Tok) {t : Tok} {ts : List Tok} → Among t ts → Among t (us ++ ts)
among_after [] h = h
among_after (u ∷ us) h = there (among_after us h)

module _ (M : List (ℕ × List ℕ)) where
  tokens_more : (x : Row) (ts us : List Tok) → OwnTokens M ts x → OwnTokens M (ts ++ us) x
  tokens_more none ts us h = tt
  tokens_more (put b r ks) ts us h =
      let o = h.1 in
      (tokens_more b ts us h.0, record { token = o.token; among = among_more us o.among; place = o.place; kind = o.kind }, tokens_more ks ts us h.2)

  tokens_after : (x : Row) (us ts : List Tok) → OwnTokens M ts x → OwnTokens M (us ++ ts) x
  tokens_after none us ts h = tt
  tokens_after (put b r ks) us ts h =
      let o = h.1 in
      (tokens_after b us ts h.0, record { token = o.token; among = among_after us o.among; place = o.place; kind = o.kind }, tokens_after ks us ts h.2)

  tokens_glue : (x y : Row) (ts : List Tok) → OwnTokens M ts x → OwnTokens M ts y → OwnTokens M ts (glue x y)
  tokens_glue x none ts h k = h
  tokens_glue x (put b r ks) ts h k = (tokens_glue x b ts h k.0, k.1, k.2)

  mine_more : (q : Pending) (ts us : List Tok) (t : Tok) → Mine q ts t → Mine q (ts ++ us) t
  mine_more nobody ts us t h = tt
  mine_more (some c) ts us t h = (among_more us h.0, h.1)

  module _ {G : Grammar} (O : Outs G) where
    leave_row : (x : Leaf) (r : Reach) (c : List ℕ) (t : Tok) (ts : List Tok) (a : Acc) → T (has c t.kind) → T (leaves O M x c) → OwnTokens M ts a.row → OwnTokens M (ts ++ (t ∷ [])) (leave O x r t a).row
    leave_row nothing r c t ts a h l k = tokens_more a.row ts (t ∷ []) k
    leave_row own r c t ts a h l k = tokens_more a.row ts (t ∷ []) k
    leave_row word r c t ts a h l k =
        (tokens_more a.row ts (t ∷ []) k, record { token = t; among = among_last ts t; place = refl; kind = all_at (λ k. has (kinds_for M (leaf_kind O.leafs k)) k) c t.kind l h }, tt)

    leave_mine : (x : Leaf) (r : Reach) (q : Pending) (c : List ℕ) (t : Tok) (ts : List Tok) (a : Acc) → T (has c t.kind) → Mine q ts a.mine → Mine (waits q x c) (ts ++ (t ∷ [])) (leave O x r t a).mine
    leave_mine nothing r q c t ts a h m = mine_more q ts (t ∷ []) a.mine m
    leave_mine own r q c t ts a h m = (among_last ts t, h)
    leave_mine word r q c t ts a h m = mine_more q ts (t ∷ []) a.mine m

    make_token : (k : ℕ) (q : Pending) (ts : List Tok) (a : Acc) (f s e n : ℕ) → T (allowed M k q) → Mine q ts a.mine → OwnToken M ts (record { kind = k; flag = f; own = a.mine.place; start = s; stop = e; count = n })
    make_token k nobody ts a f s e n t m = absurd t
    make_token k (some c) ts a f s e n t m = record { token = a.mine; among = m.0; place = refl; kind = all_at (has (kinds_for M k)) c a.mine.kind t m.1 }

    finish_tokens : (t₀ : Tok) (ss : List Step) (q : Pending) (ts : List Tok) (a : Acc) → T (takes M q ss) → OwnTokens M ts a.row → Mine q ts a.mine → OwnTokens M ts (finish O t₀ ss a).row × Mine (settled q ss) ts (finish O t₀ ss a).mine
    finish_tokens t₀ [] q ts a t h m = (h, m)
    finish_tokens t₀ (make k ∷ ss) q ts a t h m = let l = both (allowed M k q) (takes M nobody ss) t in finish_tokens t₀ ss nobody ts _ l.1 (tt, make_token k q ts a _ _ _ _ l.0 m, h) tt
    finish_tokens t₀ (plus n ∷ ss) q ts a t h m = finish_tokens t₀ ss q ts _ t h m
    finish_tokens t₀ (start ∷ ss) q ts a t h m = finish_tokens t₀ ss q ts _ t h m

    -- the token that waits
    leave_same : (x : Leaf) (r : Reach) (t : Tok) (a : Acc) → T (quietly x) → (leave O x r t a).mine ≡ a.mine
    leave_same nothing r t a h = refl
    leave_same own r t a h = absurd h
    leave_same word r t a h = refl

    finish_same : (t₀ : Tok) (ss : List Step) (a : Acc) → T (makeless ss) → (finish O t₀ ss a).mine ≡ a.mine
    finish_same t₀ [] a h = refl
    finish_same t₀ (make k ∷ ss) a h = absurd h
    finish_same t₀ (plus n ∷ ss) a h = finish_same t₀ ss _ h
    finish_same t₀ (start ∷ ss) a h = finish_same t₀ ss _ h

    bring_same : (w : Way) (r : Reach) (g : Acc → Acc) (a : Acc) (u : Bool) → T (softly w u) → (T u → (a : Acc) → (g a).mine ≡ a.mine) → (bring w r g a).mine ≡ a.mine
    bring_same pass r g a u t h = refl
    bring_same fold r g a u t h = h t a

  module _ (G : Grammar) (N : Names G) (O : Outs G) (ok : T (keyedly G N O M)) where
    abbrev U : G.Symbol → Bool
    U = pure N O

    keyed_at : (s : G.Symbol) (p : G.Rule s) → T (keyed O M U nobody (O.marks s p) (G.parts s p)) × T (not (U s) || quiet U (O.marks s p) (G.parts s p))
    unfolding keyedly
    keyed_at s p = both (keyed O M U nobody (O.marks s p) (G.parts s p)) (not (U s) || quiet U (O.marks s p) (G.parts s p)) (at_rule N (keeps N O M) ok s p)

    mutual
      unfolding walk

      pure_mine : {s : G.Symbol} (d : Tree G s) (a : Acc) → T (U s) → (walk O d a).mine ≡ a.mine
      pure_mine (node {s = s} p f) a u = pure_mines (head (yields f)) (O.marks s p) f a (implies (U s) (quiet U (O.marks s p) (G.parts s p)) (keyed_at s p).1 u)

      pure_mines : {is : Items G} (t₀ : Tok) (ms : List Mark) (f : Forest G is) (a : Acc) → T (quiet U ms is) → (walks O t₀ ms f a).mine ≡ a.mine
      pure_mines t₀ ms end a t = refl
      pure_mines t₀ ms (leaf {is = is} x h f) a t =
          let m = first_mark ms in
          let l = both (quietly m.token) (makeless m.steps && quiet U (rest ms) is) t in
          let k = both (makeless m.steps) (quiet U (rest ms) is) l.1 in
          pure_mines t₀ (rest ms) f _ k.1 ∙ finish_same O t₀ m.steps (leave O m.token m.reach x a) k.0 ∙ leave_same O m.token m.reach x a l.0
      pure_mines t₀ ms (down {s = s} {is = is} d f) a t =
          let m = first_mark ms in
          let l = both (softly m.phrase (U s)) (makeless m.steps && quiet U (rest ms) is) t in
          let k = both (makeless m.steps) (quiet U (rest ms) is) l.1 in
          pure_mines t₀ (rest ms) f _ k.1 ∙ finish_same O t₀ m.steps (bring m.phrase m.reach (λ x. walk O d x) a) k.0
          ∙ bring_same O m.phrase m.reach (λ x. walk O d x) a (U s) l.0 (λ u a. pure_mine d a u)

    bring_row : {s : G.Symbol} (w : Way) (r : Reach) (d : Tree G s) (ts : List Tok) (a : Acc)
        → ((us : List Tok) (a : Acc) → OwnTokens M us a.row → OwnTokens M (us ++ yield d) (walk O d a).row) → OwnTokens M ts a.row → OwnTokens M (ts ++ yield d) (bring w r (λ x. walk O d x) a).row
    bring_row pass r d ts a g h = tokens_glue a.row (walk O d fresh).row (ts ++ yield d) (tokens_more a.row ts (yield d) h) (tokens_after (walk O d fresh).row ts (yield d) (g [] fresh tt))
    bring_row fold r d ts a g h = g ts a h

    bring_mine : {s : G.Symbol} (w : Way) (r : Reach) (q : Pending) (d : Tree G s) (ts : List Tok) (a : Acc) → T (lets w q (U s)) → Mine q ts a.mine → Mine q (ts ++ yield d) (bring w r (λ x. walk O d x) a).mine
    bring_mine pass r q d ts a t m = mine_more q ts (yield d) a.mine m
    bring_mine fold r nobody d ts a t m = tt
    bring_mine fold r (some c) d ts a t m = rw (pure_mine d a t) (mine_more (some c) ts (yield d) a.mine m)

    mutual
      unfolding walk yield

      walk_tokens : {s : G.Symbol} (d : Tree G s) (ts : List Tok) (a : Acc) → OwnTokens M ts a.row → OwnTokens M (ts ++ yield d) (walk O d a).row
      walk_tokens (node {s = s} p f) ts a h = walks_tokens (head (yields f)) (O.marks s p) f nobody ts a (keyed_at s p).0 h tt

      walks_tokens : {is : Items G} (t₀ : Tok) (ms : List Mark) (f : Forest G is) (q : Pending) (ts : List Tok) (a : Acc) → T (keyed O M U q ms is) → OwnTokens M ts a.row → Mine q ts a.mine → OwnTokens M (ts ++ yields f) (walks O t₀ ms f a).row
      walks_tokens t₀ ms end q ts a t h m = rw append-nil h
      walks_tokens t₀ ms (leaf {c = c} {is = is} x k f) q ts a t h m =
          let r = first_mark ms in
          let q' = waits q r.token c in
          let l = both (leaves O M r.token c) (takes M q' r.steps && keyed O M U (settled q' r.steps) (rest ms) is) t in
          let n = both (takes M q' r.steps) (keyed O M U (settled q' r.steps) (rest ms) is) l.1 in
          let z = finish_tokens O t₀ r.steps q' (ts ++ (x ∷ [])) (leave O r.token r.reach x a) n.0 (leave_row O r.token r.reach c x ts a k l.0 h) (leave_mine O r.token r.reach q c x ts a k m) in
          rw append_assoc at (walks_tokens t₀ (rest ms) f (settled q' r.steps) (ts ++ (x ∷ [])) (finish O t₀ r.steps (leave O r.token r.reach x a)) n.1 z.0 z.1)
      walks_tokens t₀ ms (down {s = s} {is = is} d f) q ts a t h m =
          let r = first_mark ms in
          let l = both (lets r.phrase q (U s)) (takes M q r.steps && keyed O M U (settled q r.steps) (rest ms) is) t in
          let n = both (takes M q r.steps) (keyed O M U (settled q r.steps) (rest ms) is) l.1 in
          let z = finish_tokens O t₀ r.steps q (ts ++ yield d) (bring r.phrase r.reach (λ x. walk O d x) a) n.0 (bring_row r.phrase r.reach d ts a (λ us a k. walk_tokens d us a k) h) (bring_mine r.phrase r.reach q d ts a l.0 m) in
          rw append_assoc at (walks_tokens t₀ (rest ms) f (settled q r.steps) (ts ++ yield d) (finish O t₀ r.steps (bring r.phrase r.reach (λ x. walk O d x) a)) n.1 z.0 z.1)

    pub own_tokens : {s : G.Symbol} (d : Tree G s) → OwnTokens M (yield d) (walk O d fresh).row
    own_tokens d = walk_tokens d [] fresh tt

-- no record's own token is a half
abbrev pub unhalved : ℕ → List (ℕ × List ℕ) → Bool
unhalved h = every (λ x. not (has x.1 h))

no_half : (h : ℕ) (M : List (ℕ × List ℕ)) → T (unhalved h M) → (k : ℕ) → T (has (kinds_for M k) h) → ⊥
no_half h [] ok k t = t
no_half h (x ∷ M) ok k t =
    let l = both (not (has x.1 h)) (unhalved h M) ok in
    by (eqb k x.0) (yes_not (has x.1 h) l.0) (no_half h M l.1 k) t
  where
    by : (b : Bool) → (T (has x.1 h) → ⊥) → (T (has (kinds_for M k) h) → ⊥)
        → T (has (elim b as (λ z. List ℕ) [ true ↦ x.1 | false ↦ kinds_for M k ]) h) → ⊥
    by true p q t = p t
    by false p q t = q t

-- .. so each is one of the tokens that are taken
module _ (G : Grammar) (M : List (ℕ × List ℕ)) (ok : T (unhalved G.half M))
    {ts us r : List Tok} (s : Spells G ts us r) where
  whole_token : (x : Rec) (t : Tok) → T (has (kinds_for M x.kind) t.kind) → T (eqb t.kind G.half) → ⊥
  whole_token x t h e =
      let p = eqb→eq t.kind G.half e in
      no_half G.half M ok x.kind (subst (λ (k : ℕ). T (has (kinds_for M x.kind) k)) p h)

  token_taken : (x : Rec) → OwnToken M us x → OwnToken M ts x
  token_taken x o = record {
    token = o.token;
    among = spells_among (whole_token x o.token o.kind) s o.among;
    place = o.place;
    kind = o.kind;
  }

  pub taken : (row : Row) → OwnTokens M us row → OwnTokens M ts row
  taken none o = tt
  taken (put b x ks) o = (taken b o.0, token_taken x o.1, taken ks o.2)
