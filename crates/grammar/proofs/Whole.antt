-- A call reads to the end: of a symbol whose phrases end in a token of kind z, on tokens with one at their end alone, nothing is left.
-- Assumes nothing.
use mathlib.Core.Path.{◌≡◌, refl, ap, sym, ◌∙◌, subst}
use mathlib.Core.Bool.{Bool, false, not, ◌&&◌}
use mathlib.Core.List.{List, [], ◌∷◌, ◌++◌, append_assoc}
use Prim.Native.Nat.{ℕ}
use lib.Dec.{T, eqb, eqb→eq}
use Rattle.grammar.specs.Grammar.{Tok, Item, Items, one, sub, Grammar, Tree, node, Forest, end, leaf, down, Tolls, yield, yields, Terms, Spells}
use Rattle.grammar.specs.Reader.{got, Plan, read}
use Rattle.grammar.specs.Facts.{shut}
use Rattle.grammar.specs.Names.{Names}
use Rattle.grammar.proofs.Table.{both, every, all_at, at_entry}
use Rattle.grammar.proofs.Halves.{spells_shut}
use Rattle.grammar.proofs.Sound.{Fine, sound}

abbrev pub last_is : {S : Type 0} → ℕ → List (Item S) → Bool
last_is z [] = false
last_is z (one c ∷ []) = every (λ k. eqb k z) c
last_is z (sub s ∷ []) = false
last_is z (i ∷ (j ∷ is)) = last_is z (j ∷ is)

-- each production of s ends in z, and z is neither a pair nor a half
abbrev pub closes : (G : Grammar) → Names G → ℕ → G.Symbol → Bool
closes G N z s = (not (eqb G.pair z) && not (eqb G.half z)) && every (λ p. last_is z (G.parts s p)) (N.rules s)

pub record Ended (z : ℕ) (ts : List Tok) : Type 0 where
  pub front : List Tok
  pub last : Tok
  pub split : ts ≡ front ++ (last ∷ [])
  pub eof : last.kind ≡ z

more : (x : Tok) {z : ℕ} {ts : List Tok} → Ended z ts → Ended z (x ∷ ts)
more x e = record { front = x ∷ e.front; last = e.last; split = ap {B = List Tok} (x ∷◌) e.split; eof = e.eof }

mores : (xs : List Tok) {z : ℕ} {ts : List Tok} → Ended z ts → Ended z (xs ++ ts)
mores xs e = record { front = xs ++ e.front; last = e.last; split = ap (xs ++◌) e.split ∙ sym (append_assoc xs e.front (e.last ∷ [])); eof = e.eof }

ended : {G : Grammar} (z : ℕ) {is : Items G} (f : Forest G is) → T (last_is z is) → Ended z (yields f)
unfolding yields
ended z end t = absurd t
ended z (leaf {c = c} x h end) t = record { front = []; last = x; split = refl; eof = eqb→eq x.kind z (all_at (λ k. eqb k z) c x.kind t h) }
ended z (leaf x h (leaf y k f)) t = more x (ended z (leaf y k f) t)
ended z (leaf x h (down d f)) t = more x (ended z (down d f) t)
ended z (down d end) t = absurd t
ended z (down d (leaf y k f)) t = mores (yield d) (ended z (leaf y k f) t)
ended z (down d (down e f)) t = mores (yield d) (ended z (down e f) t)

module _ (G : Grammar) (N : Names G) (z : ℕ) (s : G.Symbol) (closed : T (closes G N z s)) where
  closed_by : T (not (eqb G.pair z) && not (eqb G.half z)) × T (every (λ p. last_is z (G.parts s p)) (N.rules s))
  closed_by =
      both (not (eqb G.pair z) && not (eqb G.half z)) (every (λ p. last_is z (G.parts s p)) (N.rules s)) closed

  closing : (d : Tree G s) → Ended z (yield d)
  unfolding yield
  closing (node p f) = ended z f (at_entry (λ p. last_is z (G.parts s p)) (N.rule s p).no (N.rules s) p closed_by.1 (N.rule s p).there)

  pub whole : (W : Tolls G) (C : Terms G) (P : Plan G) (a : ℕ) (ts : List Tok) → T (shut z ts) → (d : Tree G s) (r : List Tok) → read G W C P s a ts ≡ got d r → r ≡ []
  whole W C P a ts h d r e =
      let f : Fine G W C P a ts (got d r) = subst (λ q. Fine G W C P a ts q) e (sound G W C P s a ts) in
      let x = closing d in
      let n = both (not (eqb G.pair z)) (not (eqb G.half z)) closed_by.0 in
      spells_shut z n.0 n.1 x.front x.last x.eof (subst (λ us. Spells G ts us r) x.split f.0) h
