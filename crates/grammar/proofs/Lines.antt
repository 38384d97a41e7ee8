-- A production under way: what is left of its parts, of the tokens, and what has been left in the tree so far. One law for each kind of part.
-- Assumes nothing.
use mathlib.Core.Path.{◌≡◌, refl, ap, sym, subst, ◌∙◌}
use mathlib.Core.Bool.{Bool, true, false, cond, not, ◌&&◌}
use mathlib.Core.List.{List, [], ◌∷◌}
use Prim.Native.Nat.{ℕ, ◌-◌, ◌≤◌, zero-le}
use native.Mathlib.Nat.{sub-zero}
use lib.Dec.{T, eqb}
use Rattle.grammar.specs.Grammar.{Tok, head, next, Items, one, sub, has, Grammar, Tree, Toll, free, Tolls, fare}
use Rattle.grammar.specs.Grammar.{front, back}
use Rattle.grammar.specs.Names.{Names}
use Rattle.grammar.specs.Records.{Acc, Leaf, Way, pass, fold, Reach, Step, Mark, Outs, fresh, leave, beside, finish, walk}
use Rattle.grammar.specs.Reader.{Refusal, use', Plan, Condition, terms, pick, miss, cut, cut_if}
use Rattle.grammar.specs.Fused.{Outcome, left, refused, reads}
use Rattle.grammar.proofs.Fix.{ranked}
use Rattle.grammar.proofs.Table.{and_intro}
use Rattle.grammar.proofs.Fuse.{onward, onward_left, fits, on_fit, fuses, on_cut, go, takes}

abbrev pub mark : Leaf → Way → Reach → List Step → Mark
mark x w r ss = record { token = x; phrase = w; reach = r; steps = ss }

pub cond_yes : (b : Bool) (o o' : Outcome) → T b → cond b o o' ≡ o
cond_yes true o o' h = refl
cond_yes false o o' h = absurd h

pub cond_no : (b : Bool) (o o' : Outcome) → (T b → ⊥) → cond b o o' ≡ o'
cond_no true o o' h = absurd (h tt)
cond_no false o o' h = refl

pub fit_yes : (b : Bool) (e : Refusal) (o : Outcome) → T b → on_fit b e o ≡ o
fit_yes true e o h = refl
fit_yes false e o h = absurd h

fit_no : (b : Bool) (e : Refusal) (o : Outcome) → (T b → ⊥) → on_fit b e o ≡ refused e
fit_no true e o h = absurd (h tt)
fit_no false e o h = refl

pub unminded : (b c : Bool) → T (not b) → T (elim b as (λ z. Bool) [ true ↦ c | false ↦ true ])
unminded true c h = absurd h
unminded false c h = tt

-- a token that is not cut, and one that is
cut_no : (h : ℕ) (b : Bool) (t : Tok) (ts : List Tok) → T (not b) → cut_if h b t ts ≡ t ∷ ts
cut_no h true t ts n = absurd n
cut_no h false t ts n = refl

cut_yes : (h : ℕ) (b : Bool) (t : Tok) (ts : List Tok) → T b → cut_if h b t ts ≡ front h t ∷ (back h t ∷ ts)
cut_yes h true t ts n = refl
cut_yes h false t ts n = absurd n

-- no half is wanted, or no pair stands here
abbrev pub stays : Grammar → List ℕ → Tok → Bool
stays G c t = not (has c G.half && eqb t.kind G.pair)

pub stay : (G : Grammar) (P : Plan G) (c : List ℕ) (t : Tok) (ts : List Tok) (k : Tok → List Tok → Outcome)
    → T (stays G c t) → on_cut P c (cut G c (t ∷ ts)) k ≡ cond (has c t.kind) (k t ts) (refused (miss P c (t ∷ ts)))
stay G P c t ts k n =
    ap (λ (l : List Tok). on_cut P c l k) (cut_no G.half (has c G.half && eqb t.kind G.pair) t ts n)

module _ (G : Grammar) (W : Tolls G) (K : Condition G) (P : Plan G) (O : Outs G) where
  abbrev phrase : G.Symbol → ℕ → List Tok → Acc → Outcome
  phrase = reads G W (terms O K) P O

  -- o is what comes of these parts
  pub record Doing (o : Outcome) (t₀ : Tok) (ms : List Mark) (is : Items G) (a : ℕ) (ts : List Tok) (x : Acc) : Type 0 where
    pub so : o ≡ go G W K P O t₀ ms is a ts x

  -- the production that the next kind picks
  module _ (un : (s : G.Symbol) (d : Tree G s) → P.unsuited s d ≡ K.refusal (walk O d fresh)) (N : Names G) (low : T (ranked G N)) (ok : T (fuses G N O K)) where
    pub begin_paying : (s : G.Symbol) (p : G.Rule s) (a : ℕ) (ts : List Tok) (x : Acc) → pick (P.guides s) (next ts) ≡ use' p → fare (W s p) ≤ a
        → Doing (phrase s a ts x) (head ts) (O.marks s p) (G.parts s p) (a - fare (W s p)) ts x
    begin_paying s p a ts x c h = record { so = takes G W K P O un N low ok s p a ts x c h }

    pub begin : (s : G.Symbol) (p : G.Rule s) (a : ℕ) (ts : List Tok) (x : Acc) → pick (P.guides s) (next ts) ≡ use' p → W s p ≡ free → Doing (phrase s a ts x) (head ts) (O.marks s p) (G.parts s p) a ts x
    begin s p a ts x c w =
        record {
          so = takes G W K P O un N low ok s p a ts x c (subst (λ (w : Toll). fare w ≤ a) (sym w) zero-le)
              ∙ ap (λ (w : Toll). go G W K P O (head ts) (O.marks s p) (G.parts s p) (a - fare w) ts x) w
              ∙ ap (λ (b : ℕ). go G W K P O (head ts) (O.marks s p) (G.parts s p) b ts x) (sub-zero a);
        }

  module _ {o : Outcome} {t₀ : Tok} {ms : List Mark} {is : Items G} {a : ℕ} {x : Acc} where
    -- a token that is wanted, and one that is not
    pub eat : {m : Mark} {c : List ℕ} {t : Tok} {ts : List Tok} → Doing o t₀ (m ∷ ms) (one c ∷ is) a (t ∷ ts) x → T (stays G c t) → T (has c t.kind)
        → Doing o t₀ ms is a ts (finish O t₀ m.steps (leave O m.token m.reach t x))
    eat {c = c} {t} {ts} d n h = record { so = d.so ∙ stay G P c t ts _ n ∙ cond_yes (has c t.kind) _ _ h }

    pub lack : {c : List ℕ} {t : Tok} {ts : List Tok} → Doing o t₀ ms (one c ∷ is) a (t ∷ ts) x → T (stays G c t) → (T (has c t.kind) → ⊥) → o ≡ refused (miss P c (t ∷ ts))
    lack {c} {t} {ts} d n h = d.so ∙ stay G P c t ts _ n ∙ cond_no (has c t.kind) _ _ h

    -- the first half of a pair, where a half is wanted
    pub eat_half : {m : Mark} {c : List ℕ} {t : Tok} {ts : List Tok} → Doing o t₀ (m ∷ ms) (one c ∷ is) a (t ∷ ts) x → T (has c G.half) → T (eqb t.kind G.pair)
        → Doing o t₀ ms is a (back G.half t ∷ ts)
        (finish O t₀ m.steps (leave O m.token m.reach (front G.half t) x))
    eat_half {m = m} {c} {t} {ts} d n h = record {
      so =
          let on : Tok → List Tok → Outcome = λ t r.
          go G W K P O t₀ ms is a r (finish O t₀ m.steps (leave O m.token m.reach t x)) in
          let b = eqb t.kind G.pair in
          let y = cut_yes G.half (has c G.half && b) t ts (and_intro (has c G.half) b n h) in
          d.so ∙ ap (λ (l : List Tok). on_cut P c l on) y
          ∙ cond_yes (has c G.half) _ _ n;
    }

    -- a phrase beside what is left, under the condition
    module _ {y : Leaf} {r : Reach} {ss : List Step} {s : G.Symbol} {ts : List Tok} (d : Doing o t₀ (mark y pass r ss ∷ ms) (sub s ∷ is) a ts x) where
      pub suits : {z : Acc} {q : List Tok} → phrase s a ts fresh ≡ left z q → T (fits K s z (next q)) → Doing o t₀ ms is a q (finish O t₀ ss (beside r x z))
      suits {z} {q} e h =
          record { so = d.so ∙ ap (λ (o : Outcome). onward o (λ z q. on_fit (fits K s z (next q)) (K.refusal z) (go G W K P O t₀ ms is a q (finish O t₀ ss (beside r x z))))) e ∙ fit_yes (fits K s z (next q)) _ _ h }

      pub unsuits : {z : Acc} {q : List Tok} → phrase s a ts fresh ≡ left z q → (T (fits K s z (next q)) → ⊥) → o ≡ refused (K.refusal z)
      unsuits {z} {q} e h = d.so ∙ ap (λ (o : Outcome). onward o (λ z q. on_fit (fits K s z (next q)) (K.refusal z) (go G W K P O t₀ ms is a q (finish O t₀ ss (beside r x z))))) e ∙ fit_no (fits K s z (next q)) _ _ h

      -- .. and where the condition does not mind it
      pub bring : {z : Acc} {q : List Tok} → T (not (K.minds s)) → phrase s a ts fresh ≡ left z q → Doing o t₀ ms is a q (finish O t₀ ss (beside r x z))
      bring {z} {q} h e = suits e (unminded (K.minds s) (K.suits z (next q)) h)

      pub fails : {e : Refusal} → phrase s a ts fresh ≡ refused e → o ≡ refused e
      fails e = d.so ∙ ap (λ (o : Outcome). onward o (λ z q. on_fit (fits K s z (next q)) (K.refusal z) (go G W K P O t₀ ms is a q (finish O t₀ ss (beside r x z))))) e

    -- a phrase on top of what is left
    module _ {y : Leaf} {r : Reach} {ss : List Step} {s : G.Symbol} {ts : List Tok} (d : Doing o t₀ (mark y fold r ss ∷ ms) (sub s ∷ is) a ts x) where
      pub fold_in : {z : Acc} {q : List Tok} → phrase s a ts x ≡ left z q → Doing o t₀ ms is a q (finish O t₀ ss z)
      fold_in e = record { so = d.so ∙ ap (λ (o : Outcome). onward o (λ z q. go G W K P O t₀ ms is a q (finish O t₀ ss z))) e }

      pub fold_fails : {e : Refusal} → phrase s a ts x ≡ refused e → o ≡ refused e
      fold_fails e = d.so ∙ ap (λ (o : Outcome). onward o (λ z q. go G W K P O t₀ ms is a q (finish O t₀ ss z))) e

  -- the last phrase, on top of all; and the end
  pub last : {o : Outcome} {t₀ : Tok} {y : Leaf} {r : Reach} {s : G.Symbol} {a : ℕ} {ts : List Tok} {x : Acc} → Doing o t₀ (mark y fold r [] ∷ []) (sub s ∷ []) a ts x → o ≡ phrase s a ts x
  last {s = s} {a} {ts} {x} d = d.so ∙ onward_left (phrase s a ts x)

  pub over : {o : Outcome} {t₀ : Tok} {ms : List Mark} {a : ℕ} {ts : List Tok} {x : Acc} → Doing o t₀ ms [] a ts x → o ≡ left x ts
  over d = d.so
