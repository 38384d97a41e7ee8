-- A grammar's names in lists, a computed test of each of them, and what it says of each.
-- Assumes nothing.
use mathlib.Core.Path.{◌≡◌, ap, sym, ◌∙◌}
use mathlib.Core.Bool.{Bool, true, false, not, ◌&&◌, ◌||◌}
use mathlib.Core.List.{List, [], ◌∷◌}
use mathlib.Core.Option.{some}
use Prim.Native.Nat.{ℕ, zero, suc}
use native.Mathlib.Omega.{arith}
use lib.Dec.{T, eqb, eqb→eq}
use Rattle.grammar.specs.Grammar.{has, Item, one, sub, Grammar}
use Rattle.grammar.specs.Names.{entry, Placed, Names}
use Rattle.grammar.specs.Records.{Way, pass, fold}
use Rattle.grammar.specs.Reader.{Choice, use', refuse}

pub both : (a b : Bool) → T (a && b) → T a × T b
both true true t = (tt, tt)
both true false t = absurd t
both false b t = absurd t

pub and_intro : (a b : Bool) → T a → T b → T (a && b)
and_intro true b p q = q
and_intro false b p q = p

pub or_cases : {A : Type 0} (a b : Bool) → T (a || b) → (T a → A) → (T b → A) → A
or_cases true b t f g = f tt
or_cases false b t f g = g t

pub or_left : (a b : Bool) → T a → T (a || b)
or_left true b t = tt
or_left false b t = absurd t

pub or_right : (a b : Bool) → T b → T (a || b)
or_right true b t = tt
or_right false b t = t

pub or_false : (b : Bool) → T (b || false) → T b
or_false true t = tt
or_false false t = t

pub implies : (a b : Bool) → T (not a || b) → T a → T b
implies true b t h = t
implies false b t h = absurd h

pub not_yes : (b : Bool) → (T b → ⊥) → T (not b)
not_yes true h = h tt
not_yes false h = tt

pub yes_not : (b : Bool) → T (not b) → T b → ⊥
yes_not true h t = h
yes_not false h t = t

-- f at each entry of a list
abbrev pub every : {A : Type 0} → (A → Bool) → List A → Bool
every f [] = true
every f (x ∷ xs) = f x && every f xs

pub at_entry : {A : Type 0} (f : A → Bool) (n : ℕ) (xs : List A) (x : A) → T (every f xs) → entry xs n ≡ some x → T (f x)
at_entry f n [] x t e = let z : ◌≡◌ {A = ℕ} 0 1 = cc in absurd (omega arith)
at_entry f zero (y ∷ xs) x t e = let z : y ≡ x = cc in rw z at (both (f y) (every f xs) t).0
at_entry f (suc n) (y ∷ xs) x t e = at_entry f n xs x (both (f y) (every f xs) t).1 e

-- two that stand at one place are the same
pub same_place : {A : Type 0} {xs : List A} {x y : A} (a : Placed xs x) (b : Placed xs y) → a.no ≡ b.no → x ≡ y
same_place {xs = xs} {x} {y} a b e = let z : some x ≡ some y = sym a.there ∙ ap (entry xs) e ∙ b.there in cc

module _ {G : Grammar} (N : Names G) where
  -- a test of every symbol
  abbrev pub every_symbol : (G.Symbol → Bool) → Bool
  every_symbol f = every f N.symbols

  pub at_symbol : (f : G.Symbol → Bool) → T (every_symbol f) → (s : G.Symbol) → T (f s)
  at_symbol f t s = at_entry f (N.symbol s).no N.symbols s t (N.symbol s).there

  -- a test of every production
  abbrev pub every_rule : ((s : G.Symbol) → G.Rule s → Bool) → Bool
  every_rule f = every_symbol (λ s. every (f s) (N.rules s))

  pub at_rule : (f : (s : G.Symbol) → G.Rule s → Bool) → T (every_rule f) → (s : G.Symbol) (p : G.Rule s) → T (f s p)
  at_rule f t s p = at_entry (f s) (N.rule s p).no (N.rules s) p (at_symbol (λ s. every (f s) (N.rules s)) t s) (N.rule s p).there

  -- the reader takes production p
  abbrev pub takes : (s : G.Symbol) → G.Rule s → Choice (G.Rule s) → Bool
  takes s p (use' q) = eqb (N.rule s p).no (N.rule s q).no
  takes s p (refuse n) = false

  pub takes→eq : (s : G.Symbol) (p : G.Rule s) (c : Choice (G.Rule s)) → T (takes s p c) → c ≡ use' p
  takes→eq s p (use' q) t = ap use' (sym (same_place (N.rule s p) (N.rule s q) (eqb→eq (N.rule s p).no (N.rule s q).no t)))
  takes→eq s p (refuse n) t = absurd t

-- g at each kind of a set
pub all_at : (g : ℕ → Bool) (ks : List ℕ) (k : ℕ) → T (every g ks) → T (has ks k) → T (g k)
all_at g [] k t h = absurd h
all_at g (x ∷ ks) k t h =
    let l = both (g x) (every g ks) t in
    or_cases (eqb k x) (has ks k) h (λ e. rw (eqb→eq k x e) l.0) (λ e. all_at g ks k l.1 e)

-- the parts have a token
abbrev pub tokened : {S : Type 0} → List (Item S) → Bool
tokened [] = false
tokened (one c ∷ is) = true
tokened (sub s ∷ is) = tokened is

-- the phrase goes on with what is left so far
abbrev pub folds : Way → Bool
folds pass = false
folds fold = true
