-- Where no pair stands, reading is as it was before there were pairs.
-- Assumes nothing.
use mathlib.Core.Path.{◌≡◌, refl, ap, subst, sym, ◌∙◌}
use mathlib.Core.Bool.{Bool, true, false, not, ◌&&◌}
use mathlib.Core.List.{List, [], ◌∷◌}
use Prim.Native.Nat.{ℕ, zero, suc, ◌+◌, ◌-◌, ◌*◌}
use lib.Dec.{T, eqb, leb}
use lib.ListN.{length}
use Rattle.grammar.specs.Grammar.{Tok, next, Items, one, sub, Grammar, has, Forest, Tolls, fare}
use Rattle.grammar.specs.Grammar.{Terms, Spells}
use Rattle.grammar.specs.Reader.{Res, Choice, use', refuse, Plan, pick, Reads, on_head, cut_if, bulk, on_tree, parts}
use Rattle.grammar.specs.Reader.{paid, act, deep, read}
use Rattle.grammar.specs.Before.{parts_before, act_before, deep_before, read_before}
use Rattle.grammar.proofs.Table.{both, yes_not}
use Rattle.grammar.proofs.Halves.{single, single_rest, spells_single, weigh_half}
use Rattle.grammar.proofs.Sound.{Fine, deep_fine}
use Rattle.grammar.proofs.Fix.{tok_agree, tree_agree}

-- no pair at the front, and none behind it
first_single : (p : ℕ) (t : Tok) (ts : List Tok) → T (single p (t ∷ ts)) → T (not (eqb t.kind p)) × T (single p ts)
first_single p t ts h = both (not (eqb t.kind p)) (single p ts) h

single_bulk : (p : ℕ) (ts : List Tok) → T (single p ts) → bulk p ts ≡ length ts
single_bulk p [] h = refl
single_bulk p (t ∷ ts) h =
    let l = first_single p t ts h in
    weigh_half (eqb t.kind p) (bulk p ts) l.0 ∙ ap suc (single_bulk p ts l.1)

module _ {G : Grammar} (W : Tolls G) (C : Terms G) (P : Plan G) where
  -- what is left behind a phrase has no pair either
  single_left : {ts us r : List Tok} → Spells G ts us r → T (single G.pair ts) → T (single G.pair r)
  single_left {ts} {us} {r} x h =
      single_rest G.pair us r (subst (λ (l : List Tok). T (single G.pair l)) (sym (spells_single x h)) h)

  -- a token that is no pair is not cut
  uncut : (c : List ℕ) {is : Items G} (t : Tok) (ts : List Tok) (b : Bool) → (T b → ⊥)
      → (k k' : List Tok → Res (Forest G is)) → k ts ≡ k' ts
      → on_head P {c = c} (cut_if G.half b t ts) k ≡ on_head P (t ∷ ts) k'
  uncut c t ts true n k k' e = absurd (n tt)
  uncut c t ts false n k k' e = tok_agree W C P c t ts (has c t.kind) (λ x. x) k k' e

  module _ (rec rec' : Reads G)
      (same : (s : G.Symbol) (a : ℕ) (ts : List Tok) → T (single G.pair ts) → rec s a ts ≡ rec' s a ts)
      (fine : (s : G.Symbol) (a : ℕ) (ts : List Tok) → Fine G W C P a ts (rec s a ts)) where
    parts_before_lem : (is : Items G) (a : ℕ) (ts : List Tok) → T (single G.pair ts)
        → parts C P rec is a ts ≡ parts_before W C P rec' is a ts
    parts_before_lem [] a ts h = refl
    parts_before_lem (one c ∷ is) a [] h = refl
    parts_before_lem (one c ∷ is) a (t ∷ ts) h =
        let l = first_single G.pair t ts h in
        let e = eqb t.kind G.pair in
        uncut c t ts (has c G.half && e) (λ x. yes_not e l.0 (both (has c G.half) e x).1)
        (parts C P rec is a) (parts_before W C P rec' is a) (parts_before_lem is a ts l.1)
    parts_before_lem (sub s ∷ is) a ts h =
        tree_agree W C P a ts (rec s a ts) (fine s a ts) (parts C P rec is a) (parts_before W C P rec' is a)
        (λ d r x. parts_before_lem is a r (single_left x h))
        ∙ ap (λ q. on_tree C P q (parts_before W C P rec' is a)) (same s a ts h)

    act_before_lem : (s : G.Symbol) (c : Choice (G.Rule s)) (a : ℕ) (ts : List Tok) → T (single G.pair ts)
        → act W C P rec s c a ts ≡ act_before W C P rec' s c a ts
    act_before_lem s (use' p) a ts h =
        ap (λ r. paid P p (W s p) (leb (fare (W s p)) a) r ts) (parts_before_lem (G.parts s p) (a - fare (W s p)) ts h)
    act_before_lem s (refuse n) a ts h = refl

  deep_before_lem : (n : ℕ) (s : G.Symbol) (a : ℕ) (ts : List Tok) → T (single G.pair ts)
      → deep G W C P n s a ts ≡ deep_before G W C P n s a ts
  unfolding deep deep_before
  deep_before_lem zero s a ts h = refl
  deep_before_lem (suc n) s a ts h =
      act_before_lem (deep G W C P n) (deep_before G W C P n) (deep_before_lem n) (deep_fine G W C P n)
      s (pick (P.guides s) (next ts)) a ts h

  pub read_before_lem : (s : G.Symbol) (a : ℕ) (ts : List Tok) → T (single G.pair ts)
      → read G W C P s a ts ≡ read_before G W C P s a ts
  unfolding read read_before
  read_before_lem s a ts h =
      deep_before_lem (64 + 64 * bulk G.pair ts) s a ts h
      ∙ ap (λ (n : ℕ). deep_before G W C P (64 + 64 * n) s a ts) (single_bulk G.pair ts h)
