-- Symbols that are read by a loop: a turn, and then the symbol again on top of what the turn left; or nothing.
-- Lists, operands behind operators and suffixes are all of this form.
-- Assumes nothing.
use mathlib.Core.Path.{◌≡◌, refl, ap, sym, subst, ◌∙◌}
use mathlib.Core.Bool.{Bool, true, false, cond, not}
use mathlib.Core.List.{List, [], ◌∷◌, ◌++◌}
use Prim.Native.Nat.{ℕ, ◌-◌, ◌≤◌, ◌<◌, zero-le}
use native.Mathlib.Omega.{arith}
use lib.Dec.{T}
use lib.ListN.{length}
use Rattle.grammar.specs.Grammar.{Tok, head, next, Items, one, sub, has, Grammar, Tree, Toll, free, Tolls, fare}
use Rattle.grammar.specs.Names.{Names}
use Rattle.grammar.specs.Records.{Acc, Leaf, nothing, Way, pass, fold, Reach, apart, Step, Mark, Outs, fresh, leave, beside, finish, walk}
use Rattle.grammar.specs.Reader.{Refusal, use', Plan, Guide, Condition, terms, pick, cut, refusal, spot}
use Rattle.grammar.specs.Fused.{Outcome, left, refused, reads}
use Rattle.grammar.proofs.Table.{yes_not}
use Rattle.grammar.proofs.Fix.{ranked}
use Rattle.grammar.proofs.Steps.{choose_yes, choose_no}
use Rattle.grammar.proofs.Fuse.{onward, onward_left, onward_onward, fits, on_fit, fuses, on_cut, go, takes, spent}
use Rattle.grammar.proofs.Lines.{mark, cond_yes, fit_yes, unminded, stays, stay}

pub onward_same : (o : Outcome) (f g : Acc → List Tok → Outcome) → ((y : Acc) (r : List Tok) → f y r ≡ g y r) → onward o f ≡ onward o g
onward_same (left y r) f g h = h y r
onward_same (refused e) f g h = refl

fit_onward : (b : Bool) (e : Refusal) (o : Outcome) (k : Acc → List Tok → Outcome) → onward (on_fit b e o) k ≡ on_fit b e (onward o k)
fit_onward true e o k = refl
fit_onward false e o k = refl

cond_onward : (b : Bool) (o o' : Outcome) (e : Refusal) (k : Acc → List Tok → Outcome) → o' ≡ onward o k → cond b o' (refused e) ≡ onward (cond b o (refused e)) k
cond_onward true o o' e k h = h
cond_onward false o o' e k h = refl

cut_onward : {G : Grammar} (P : Plan G) (c : List ℕ) (ts : List Tok) (f f' : Tok → List Tok → Outcome)
    → (k : Acc → List Tok → Outcome) → ((t : Tok) (r : List Tok) → f' t r ≡ onward (f t r) k)
    → on_cut P c ts f' ≡ onward (on_cut P c ts f) k
cut_onward P c [] f f' k h = refl
cut_onward P c (t ∷ ts) f f' k h = cond_onward (has c t.kind) (f t ts) (f' t ts) _ k (h t ts)

-- all but the last
abbrev pub front : {A : Type 0} → List A → List A
front [] = []
front (x ∷ []) = []
front (x ∷ (y ∷ ys)) = x ∷ front (y ∷ ys)

module _ (G : Grammar) (W : Tolls G) (K : Condition G) (P : Plan G) (O : Outs G) where
  abbrev phrase : G.Symbol → ℕ → List Tok → Acc → Outcome
  phrase = reads G W (terms O K) P O

  abbrev run : Tok → List Mark → Items G → ℕ → List Tok → Acc → Outcome
  run = go G W K P O

  -- a production's parts in two
  split_sub : (w : Way) (r : Reach) (s : G.Symbol) (t₀ : Tok) (ms ns : List Mark) (is js : Items G) (m : Mark) → m.phrase ≡ w → m.reach ≡ r → (a : ℕ) (ts : List Tok) (x : Acc)
      → ((q : List Tok) (y : Acc) → run t₀ (ms ++ ns) (is ++ js) a q y ≡ onward (run t₀ ms is a q y) (λ y q. run t₀ ns js a q y))
      → run t₀ (mark m.token w r m.steps ∷ (ms ++ ns)) (sub s ∷ (is ++ js)) a ts x ≡ onward (run t₀ (mark m.token w r m.steps ∷ ms) (sub s ∷ is) a ts x) (λ y q. run t₀ ns js a q y)
  split_sub pass r s t₀ ms ns is js m e f a ts x ih =
      onward_same (phrase s a ts fresh) _ _ (λ y q. ap (on_fit (fits K s y (next q)) (K.refusal y)) (ih q (finish O t₀ m.steps (beside r x y))) ∙ sym (fit_onward (fits K s y (next q)) (K.refusal y) _ _))
      ∙ sym (onward_onward (phrase s a ts fresh) _ _)
  split_sub fold r s t₀ ms ns is js m e f a ts x ih = onward_same (phrase s a ts x) _ _ (λ y q. ih q (finish O t₀ m.steps y)) ∙ sym (onward_onward (phrase s a ts x) _ _)

  split : (t₀ : Tok) (ms ns : List Mark) (is js : Items G) → length ms ≡ length is → (a : ℕ) (ts : List Tok) (x : Acc) → run t₀ (ms ++ ns) (is ++ js) a ts x ≡ onward (run t₀ ms is a ts x) (λ y q. run t₀ ns js a q y)
  split t₀ [] ns [] js e a ts x = refl
  split t₀ [] ns (i ∷ is) js e a ts x = absurd (omega arith)
  split t₀ (m ∷ ms) ns [] js e a ts x = absurd (omega arith)
  split t₀ (m ∷ ms) ns (one c ∷ is) js e a ts x = cut_onward P c (cut G c ts) _ _ _ (λ t r. split t₀ ms ns is js (omega arith) a r _)
  split t₀ (m ∷ ms) ns (sub s ∷ is) js e a ts x = split_sub m.phrase m.reach s t₀ ms ns is js m refl refl a ts x (λ q y. split t₀ ms ns is js (omega arith) a q y)

  -- what a turn comes to: its token, and its phrase
  pub turn_token : (t₀ : Tok) (m : Mark) (ms : List Mark) (c : List ℕ) (is : Items G) (a : ℕ) (t : Tok) (ts : List Tok) (x : Acc) → T (stays G c t) → T (has c t.kind)
      → run t₀ (m ∷ ms) (one c ∷ is) a (t ∷ ts) x ≡ run t₀ ms is a ts (finish O t₀ m.steps (leave O m.token m.reach t x))
  turn_token t₀ m ms c is a t ts x n h = stay G P c t ts _ n ∙ cond_yes (has c t.kind) _ _ h

  pub turn_phrase : (t₀ : Tok) (y : Leaf) (r : Reach) (ss : List Step) (s : G.Symbol) (a : ℕ) (ts : List Tok) (x : Acc) → T (not (K.minds s))
      → run t₀ (mark y pass r ss ∷ []) (sub s ∷ []) a ts x ≡ onward (phrase s a ts fresh) (λ z q. left (finish O t₀ ss (beside r x z)) q)
  turn_phrase t₀ y r ss s a ts x h = onward_same (phrase s a ts fresh) _ _ (λ z q. fit_yes (fits K s z (next q)) _ _ (unminded (K.minds s) (K.suits z (next q)) h))

  -- .. as behind a comma or an operator: a token, and then a phrase
  pub turn_both : (t₀ : Tok) (m : Mark) (y : Leaf) (r : Reach) (ss : List Step) (c : List ℕ) (s : G.Symbol) (a : ℕ) (t : Tok) (ts : List Tok) (x : Acc) → T (stays G c t) → T (has c t.kind) → T (not (K.minds s))
      → run t₀ (m ∷ mark y pass r ss ∷ []) (one c ∷ sub s ∷ []) a (t ∷ ts) x ≡ onward (phrase s a ts fresh) (λ z q. left (finish O t₀ ss (beside r (finish O t₀ m.steps (leave O m.token m.reach t x)) z)) q)
  turn_both t₀ m y r ss c s a t ts x n h k = turn_token t₀ m (mark y pass r ss ∷ []) c (sub s ∷ []) a t ts x n h ∙ turn_phrase t₀ y r ss s a ts _ k

  -- A LOOP: while the next kind tells so, a turn with what the toll w leaves of the allowance; else nothing.
  pub record Loop (l : G.Symbol) (goes : ℕ → Bool) (w : Toll) (turn : ℕ → List Tok → Acc → Outcome) : Type 0 where
    pub stop : (a : ℕ) (ts : List Tok) (x : Acc) → (T (goes (next ts)) → ⊥) → phrase l a ts x ≡ left x ts
    pub on : (a : ℕ) (ts : List Tok) (x : Acc) → T (goes (next ts)) → fare w ≤ a → phrase l a ts x ≡ onward (turn (a - fare w) ts x) (λ y r. phrase l (a - fare w) r y)
    pub deep : (a : ℕ) (ts : List Tok) (x : Acc) → T (goes (next ts)) → a < fare w → phrase l a ts x ≡ refused (refusal P.limit (spot w ts))

  -- THE INVARIANT OF A LOOP: finishing from here is finishing from where the loop began.
  pub record Chain (l : G.Symbol) (a₀ : ℕ) (ts₀ : List Tok) (x₀ : Acc) (a : ℕ) (ts : List Tok) (x : Acc) : Type 0 where
    pub same : phrase l a₀ ts₀ x₀ ≡ phrase l a ts x

  -- .. so whatever is asked of finishing from here is asked of finishing from the start
  pub asks : {l : G.Symbol} {a₀ : ℕ} {ts₀ : List Tok} {x₀ : Acc} {a : ℕ} {ts : List Tok} {x : Acc} (Q : Outcome → Type 0) → Chain l a₀ ts₀ x₀ a ts x → Q (phrase l a ts x) → Q (phrase l a₀ ts₀ x₀)
  asks Q c q = subst Q (sym c.same) q

  pub chain_in : {l : G.Symbol} {a : ℕ} {ts : List Tok} {x : Acc} → Chain l a ts x a ts x
  chain_in = record { same = refl }

  module _ {l : G.Symbol} {goes : ℕ → Bool} {w : Toll} {turn : ℕ → List Tok → Acc → Outcome} (loop : Loop l goes w turn) {a₀ : ℕ} {ts₀ : List Tok} {x₀ : Acc} {a : ℕ} {ts : List Tok} {x : Acc} (c : Chain l a₀ ts₀ x₀ a ts x) where
    pub chain_on : {y : Acc} {r : List Tok} → T (goes (next ts)) → fare w ≤ a → turn (a - fare w) ts x ≡ left y r → Chain l a₀ ts₀ x₀ (a - fare w) r y
    chain_on h k e = record { same = c.same ∙ loop.on a ts x h k ∙ ap (λ (o : Outcome). onward o (λ y r. phrase l (a - fare w) r y)) e }

    pub chain_bad : {e : Refusal} → T (goes (next ts)) → fare w ≤ a → turn (a - fare w) ts x ≡ refused e → phrase l a₀ ts₀ x₀ ≡ refused e
    chain_bad h k e = c.same ∙ loop.on a ts x h k ∙ ap (λ (o : Outcome). onward o (λ y r. phrase l (a - fare w) r y)) e

    pub chain_deep : T (goes (next ts)) → a < fare w → phrase l a₀ ts₀ x₀ ≡ refused (refusal P.limit (spot w ts))
    chain_deep h k = c.same ∙ loop.deep a ts x h k

    pub chain_stop : (T (goes (next ts)) → ⊥) → phrase l a₀ ts₀ x₀ ≡ left x ts
    chain_stop h = c.same ∙ loop.stop a ts x h

  module _ (un : (s : G.Symbol) (d : Tree G s) → P.unsuited s d ≡ K.refusal (walk O d fresh)) (N : Names G) (low : T (ranked G N)) (ok : T (fuses G N O K)) where
    -- a production whose last part is the symbol itself, on top of all; and one with no parts
    module _ (l : G.Symbol) (p q : G.Rule l) (w : Toll) (ms : List Mark) (is : Items G) (pays : W l p ≡ w) (marked : O.marks l p ≡ ms ++ (mark nothing fold apart [] ∷ [])) (parted : G.parts l p ≡ is ++ (sub l ∷ [])) (even : length ms ≡ length is) (ends : G.parts l q ≡ []) (frees : W l q ≡ free) where
      turns : (a : ℕ) (ts : List Tok) (x : Acc) → pick (P.guides l) (next ts) ≡ use' p → fare w ≤ a → phrase l a ts x ≡ onward (run (head ts) ms is (a - fare w) ts x) (λ y r. phrase l (a - fare w) r y)
      turns a ts x c h =
          takes G W K P O un N low ok l p a ts x c (subst (λ (w : Toll). fare w ≤ a) (sym pays) h)
          ∙ ap (λ (w : Toll). run (head ts) (O.marks l p) (G.parts l p) (a - fare w) ts x) pays
          ∙ ap (λ (ms : List Mark). run (head ts) ms (G.parts l p) (a - fare w) ts x) marked
          ∙ ap (λ (is : Items G). run (head ts) (ms ++ (mark nothing fold apart [] ∷ [])) is (a - fare w) ts x) parted
          ∙ split (head ts) ms (mark nothing fold apart [] ∷ []) is (sub l ∷ []) even (a - fare w) ts x
          ∙ onward_same (run (head ts) ms is (a - fare w) ts x) _ _ (λ y r. onward_left (phrase l (a - fare w) r y))

      halts : (a : ℕ) (ts : List Tok) (x : Acc) → pick (P.guides l) (next ts) ≡ use' q → phrase l a ts x ≡ left x ts
      halts a ts x c =
          takes G W K P O un N low ok l q a ts x c (subst (λ (w : Toll). fare w ≤ a) (sym frees) zero-le)
          ∙ ap (λ (is : Items G). run (head ts) (O.marks l q) is (a - fare (W l q)) ts x) ends

      drowns : (a : ℕ) (ts : List Tok) (x : Acc) → pick (P.guides l) (next ts) ≡ use' p → a < fare w → phrase l a ts x ≡ refused (refusal P.limit (spot w ts))
      drowns a ts x c h =
          spent G W K P O un N low ok l p a ts x c (subst (λ (w : Toll). a < fare w) (sym pays) h)
          ∙ ap (λ (w : Toll). refused (refusal P.limit (spot w ts))) pays

      -- on while the next kind is one of ks
      pub while : (ks : List ℕ) → P.guides l ≡ record { ways = (ks, p) ∷ []; other = use' q } → Loop l (has ks) w (λ a ts x. run (head ts) ms is a ts x)
      while ks g =
          let by : (k : ℕ) → pick (P.guides l) k ≡ pick (record { ways = (ks, p) ∷ []; other = use' q }) k = λ k. ap (λ (g : Guide (G.Rule l)). pick g k) g in
          record {
            stop = λ a ts x h. halts a ts x (by (next ts) ∙ choose_no ks p [] (use' q) (next ts) h);
            on = λ a ts x h. turns a ts x (by (next ts) ∙ choose_yes ks p [] (use' q) (next ts) h);
            deep = λ a ts x h. drowns a ts x (by (next ts) ∙ choose_yes ks p [] (use' q) (next ts) h);
          }

      -- on until the next kind is one of ks
      pub until : (ks : List ℕ) → P.guides l ≡ record { ways = (ks, q) ∷ []; other = use' p } → Loop l (λ k. not (has ks k)) w (λ a ts x. run (head ts) ms is a ts x)
      until ks g =
          let by : (k : ℕ) → pick (P.guides l) k ≡ pick (record { ways = (ks, q) ∷ []; other = use' p }) k = λ k. ap (λ (g : Guide (G.Rule l)). pick g k) g in
          record {
            stop = λ a ts x h. halts a ts x (by (next ts) ∙ choose_yes ks q [] (use' p) (next ts) (not_no (has ks (next ts)) h));
            on = λ a ts x h. turns a ts x (by (next ts) ∙ choose_no ks q [] (use' p) (next ts) (yes_not (has ks (next ts)) h));
            deep = λ a ts x h. drowns a ts x (by (next ts) ∙ choose_no ks q [] (use' p) (next ts) (yes_not (has ks (next ts)) h));
          }
        where
          not_no : (b : Bool) → (T (not b) → ⊥) → T b
          not_no true h = tt
          not_no false h = absurd (h tt)
