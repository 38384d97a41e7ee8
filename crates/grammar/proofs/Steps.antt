-- The reader's equations, one for each way that a step can go: what the proofs of code cite.
-- Assumes nothing.
use mathlib.Core.Path.{◌≡◌, refl, ap, ◌∙◌}
use mathlib.Core.Bool.{Bool, true, false}
use mathlib.Core.List.{List, ◌∷◌}
use Prim.Native.Nat.{ℕ, ◌-◌, ◌≤◌, ◌<◌}
use native.Mathlib.Omega.{arith}
use lib.Dec.{T, leb, leb→le, le→leb}
use Rattle.grammar.specs.Grammar.{Tok, next, has, Grammar, Forest, Toll, Tolls, fare, Terms}
use Rattle.grammar.specs.Reader.{Res, bad, Choice, use', refuse, Plan, choose, pick, refusal, spot, put_node, parts, paid, act, read}
use Rattle.grammar.specs.Names.{Names}
use Rattle.grammar.proofs.Fix.{ranked, fix}

elim_yes : {R : Type 0} (b : Bool) (x y : Choice R) → T b → elim b as (λ z. Choice R) [ true ↦ x | false ↦ y ] ≡ x
elim_yes true x y t = refl
elim_yes false x y t = absurd t

elim_no : {R : Type 0} (b : Bool) (x y : Choice R) → (T b → ⊥) → elim b as (λ z. Choice R) [ true ↦ x | false ↦ y ] ≡ y
elim_no true x y t = absurd (t tt)
elim_no false x y t = refl

-- the first set has the kind, or does not
pub choose_yes : {R : Type 0} (ks : List ℕ) (p : R) (ws : List (List ℕ × R)) (o : Choice R) (k : ℕ) → T (has ks k) → choose ((ks, p) ∷ ws) o k ≡ use' p
choose_yes ks p ws o k t = elim_yes (has ks k) (use' p) (choose ws o k) t

pub choose_no : {R : Type 0} (ks : List ℕ) (p : R) (ws : List (List ℕ × R)) (o : Choice R) (k : ℕ) → (T (has ks k) → ⊥) → choose ((ks, p) ∷ ws) o k ≡ choose ws o k
choose_no ks p ws o k t = elim_no (has ks k) (use' p) (choose ws o k) t

module _ (G : Grammar) (W : Tolls G) (C : Terms G) (P : Plan G) (N : Names G) (low : T (ranked G N)) where
  yes_paid : (s : G.Symbol) (p : G.Rule s) (b : Bool) → T b → (w : Toll) (q : Res (Forest G (G.parts s p))) (ts : List Tok) → paid P {s = s} p w b q ts ≡ put_node p q
  yes_paid s p true t w q ts = refl
  yes_paid s p false t w q ts = absurd t

  not_paid : (s : G.Symbol) (p : G.Rule s) (b : Bool) → (T b → ⊥) → (w : Toll) (q : Res (Forest G (G.parts s p))) (ts : List Tok) → paid P {s = s} p w b q ts ≡ bad (refusal P.limit (spot w ts))
  not_paid s p true t w q ts = absurd (t tt)
  not_paid s p false t w q ts = refl

  pub takes_it : (s : G.Symbol) (p : G.Rule s) (a : ℕ) (ts : List Tok) → pick (P.guides s) (next ts) ≡ use' p → fare (W s p) ≤ a → read G W C P s a ts ≡ put_node p (parts C P (read G W C P) (G.parts s p) (a - fare (W s p)) ts)
  takes_it s p a ts c h =
      fix G N W C P low s a ts ∙ ap (λ c. act W C P (read G W C P) s c a ts) c
      ∙ yes_paid s p (leb (fare (W s p)) a) (le→leb (fare (W s p)) a h) (W s p) (parts C P (read G W C P) (G.parts s p) (a - fare (W s p)) ts) ts

  pub too_deep : (s : G.Symbol) (p : G.Rule s) (a : ℕ) (ts : List Tok) → pick (P.guides s) (next ts) ≡ use' p → a < fare (W s p) → read G W C P s a ts ≡ bad (refusal P.limit (spot (W s p) ts))
  too_deep s p a ts c h =
      fix G N W C P low s a ts ∙ ap (λ c. act W C P (read G W C P) s c a ts) c
      ∙ not_paid s p (leb (fare (W s p)) a) (λ t. let l = leb→le (fare (W s p)) a t in omega arith) (W s p) (parts C P (read G W C P) (G.parts s p) (a - fare (W s p)) ts) ts

  pub refuses_it : (s : G.Symbol) (n a : ℕ) (ts : List Tok) → pick (P.guides s) (next ts) ≡ refuse n → read G W C P s a ts ≡ bad (refusal n ts)
  refuses_it s n a ts c = fix G N W C P low s a ts ∙ ap (λ c. act W C P (read G W C P) s c a ts) c
