-- What is computed of a grammar for the tests to check: which symbols spell something, their ranks, the kinds that may begin and follow each,
-- a short derivation of each, and which of them leave the own token alone.
-- Nothing here is to be believed: a wrong set only fails a test.
-- Assumes nothing.
use mathlib.Core.Bool.{Bool, true, false}
use mathlib.Core.List.{List, [], ◌∷◌, ◌++◌}
use mathlib.Core.Option.{Option, none, some}
use Prim.Native.Nat.{ℕ, zero, suc, max}
use lib.Dec.{eqb, leb}
use lib.ListN.{length}
use Rattle.grammar.specs.Grammar.{has, Item, one, sub, Grammar}
use Rattle.grammar.specs.Names.{entry, Names}
use Rattle.grammar.specs.Records.{Leaf, nothing, own, word, Step, make, plus, start, Mark, first_mark, rest, Outs}
use Rattle.grammar.proofs.Table.{folds}

abbrev all : {A : Type 0} → (A → Bool) → List A → Bool
all f [] = true
all f (x ∷ xs) = elim (f x) [ true ↦ all f xs | false ↦ false ]

abbrev pub any : {A : Type 0} → (A → Bool) → List A → Bool
any f [] = false
any f (x ∷ xs) = elim (f x) [ true ↦ true | false ↦ any f xs ]

abbrev pub collect : {A B : Type 0} → (A → List B) → List A → List B
collect f [] = []
collect f (x ∷ xs) = f x ++ collect f xs

abbrev greatest : {A : Type 0} → (A → ℕ) → List A → ℕ
greatest f [] = 0
greatest f (x ∷ xs) = max (f x) (greatest f xs)

abbrev keep : {A : Type 0} → (A → Bool) → List A → List A
keep f [] = []
keep f (x ∷ xs) = elim (f x) [ true ↦ x ∷ keep f xs | false ↦ keep f xs ]

-- the first entry of the least size
abbrev least : {A : Type 0} → (A → ℕ) → List A → Option A
least f [] = none
least f (x ∷ xs) = elim (least f xs) [ none ↦ some x | some y ↦ elim (leb (f x) (f y)) [ true ↦ some x | false ↦ some y ] ]

-- both sets, each kind once
abbrev add : List ℕ → List ℕ → List ℕ
add [] ys = ys
add (x ∷ xs) ys = elim (has ys x) [ true ↦ add xs ys | false ↦ add xs (x ∷ ys) ]

-- the row of a table
abbrev pub row : {A : Type 0} → List (List A) → ℕ → List A
row t n = elim (entry t n) [ none ↦ [] | some x ↦ x ]

-- a list of all that f gives for a list
abbrev pub table : {A B : Type 0} → (A → B) → List A → List B
table f [] = []
table f (x ∷ xs) = f x ∷ table f xs

abbrev makes : List Step → Bool
makes [] = false
makes (make k ∷ ss) = true
makes (plus n ∷ ss) = makes ss
makes (start ∷ ss) = makes ss

abbrev owns : Leaf → Bool
owns nothing = false
owns own = true
owns word = false

module _ {S : Type 0} where
  -- parts that spell at least one token; F s: the symbol does
  abbrev firmly : (S → Bool) → List (Item S) → Bool
  firmly F [] = false
  firmly F (one c ∷ is) = true
  firmly F (sub s ∷ is) = elim (F s) [ true ↦ true | false ↦ firmly F is ]

  -- above the ranks of the symbols that may begin where the parts begin
  abbrev leads : (S → Bool) → (S → ℕ) → List (Item S) → ℕ
  leads F R [] = 0
  leads F R (one c ∷ is) = 0
  leads F R (sub s ∷ is) = elim (F s) [ true ↦ suc (R s) | false ↦ max (suc (R s)) (leads F R is) ]

  -- the kinds that may begin the parts; with a half, the pair q
  abbrev begins : ℕ → ℕ → (S → Bool) → (S → List ℕ) → List (Item S) → List ℕ
  begins q h F K [] = []
  begins q h F K (one c ∷ is) = elim (has c h) [ true ↦ q ∷ c | false ↦ c ]
  begins q h F K (sub s ∷ is) = elim (F s) [ true ↦ K s | false ↦ K s ++ begins q h F K is ]

  -- what may begin behind the symbol numbered n among the parts; whether it may be the last to spell something; whether it is there
  abbrev behind : ℕ → ℕ → (S → ℕ) → (S → Bool) → (S → List ℕ) → ℕ → List (Item S) → List ℕ
  behind q h N F K n [] = []
  behind q h N F K n (one c ∷ is) = behind q h N F K n is
  behind q h N F K n (sub s ∷ is) = elim (eqb (N s) n) [ true ↦ begins q h F K is ++ behind q h N F K n is | false ↦ behind q h N F K n is ]

  abbrev ends : (S → ℕ) → (S → Bool) → ℕ → List (Item S) → Bool
  ends N F n [] = false
  ends N F n (one c ∷ is) = ends N F n is
  ends N F n (sub s ∷ is) = elim (ends N F n is) [ true ↦ true | false ↦ elim (eqb (N s) n) [ true ↦ elim (firmly F is) [ true ↦ false | false ↦ true ] | false ↦ false ] ]

  abbrev names : (S → ℕ) → ℕ → List (Item S) → Bool
  names N n [] = false
  names N n (one c ∷ is) = names N n is
  names N n (sub s ∷ is) = elim (eqb (N s) n) [ true ↦ true | false ↦ names N n is ]

  -- above the heights of the symbols
  abbrev tops : (S → ℕ) → List (Item S) → ℕ
  tops H [] = 0
  tops H (one c ∷ is) = tops H is
  tops H (sub s ∷ is) = max (suc (H s)) (tops H is)

  -- no token is marked as a record's own, no record is made, and only such symbols are folded
  abbrev plain : (S → Bool) → List Mark → List (Item S) → Bool
  plain U ms [] = true
  plain U ms (one c ∷ is) = elim (makes (first_mark ms).steps) [ true ↦ false | false ↦ elim (owns (first_mark ms).token) [ true ↦ false | false ↦ plain U (rest ms) is ] ]
  plain U ms (sub s ∷ is) = elim (makes (first_mark ms).steps) [ true ↦ false | false ↦ elim (elim (folds (first_mark ms).phrase) as (λ b. Bool) [ true ↦ U s | false ↦ true ]) [ true ↦ plain U (rest ms) is | false ↦ false ] ]

-- how far the walks below go
abbrev fuel : ℕ
fuel = 64

module _ {G : Grammar} (N : Names G) where
  abbrev no : G.Symbol → ℕ
  no s = (N.symbol s).no

  solid_in : ℕ → G.Symbol → Bool
  solid_in zero s = false
  solid_in (suc n) s = all (λ p. firmly (solid_in n) (G.parts s p)) (N.rules s)

  -- the symbol spells at least one token
  unfoldable pub solid : G.Symbol → Bool
  unfolding solid_in
  solid s = solid_in fuel s

  rank_in : ℕ → G.Symbol → ℕ
  rank_in zero s = fuel
  rank_in (suc n) s = greatest (λ p. leads solid (rank_in n) (G.parts s p)) (N.rules s)

  -- above those of the symbols that may begin where it begins
  unfoldable pub rank : G.Symbol → ℕ
  unfolding rank_in
  rank s = rank_in fuel s

  begins_in : ℕ → G.Symbol → List ℕ
  begins_in zero s = []
  begins_in (suc n) s = collect (λ p. begins G.pair G.half solid (begins_in n) (G.parts s p)) (N.rules s)

  -- the kinds that may begin it, where it spells something
  unfoldable pub first : G.Symbol → List ℕ
  unfolding begins_in
  first s = begins_in fuel s

  -- the kinds that may follow it in some production; the symbols that it may end
  around : G.Symbol → List ℕ
  around q =
      collect (λ s. collect (λ p. behind G.pair G.half no solid first (no q) (G.parts s p)) (N.rules s))
      N.symbols

  hosts : G.Symbol → List G.Symbol
  hosts q = keep (λ s. any (λ p. ends no solid (no q) (G.parts s p)) (N.rules s)) N.symbols

  -- no production names it: it may stand at the end of all
  free : G.Symbol → Bool
  free q = elim (any (λ s. any (λ p. names no (no q) (G.parts s p)) (N.rules s)) N.symbols) [ true ↦ false | false ↦ true ]

  spread : ℕ → List G.Symbol → List ℕ → List ℕ → List ℕ
  spread zero todo seen ks = ks
  spread (suc n) [] seen ks = ks
  spread (suc n) (q ∷ todo) seen ks =
      elim (has seen (no q)) [ true ↦ spread n todo seen ks | false ↦ spread n (hosts q ++ todo) (no q ∷ seen) (add (elim (free q) [ true ↦ 0 ∷ [] | false ↦ around q ]) ks) ]

  -- the kinds that may follow it, 0 for the end of all
  unfoldable pub follow : G.Symbol → List ℕ
  unfolding spread around hosts free
  follow s = spread 1024 (s ∷ []) [] []

  -- the production with the fewest parts, and the height of the derivation by such productions
  unfoldable pub shortest : (s : G.Symbol) → Option (G.Rule s)
  shortest s = least (λ p. length (G.parts s p)) (N.rules s)

  height_in : ℕ → G.Symbol → ℕ
  unfolding shortest
  height_in zero s = fuel
  height_in (suc n) s = elim (shortest s) [ none ↦ fuel | some p ↦ tops (height_in n) (G.parts s p) ]

  unfoldable pub height : G.Symbol → ℕ
  unfolding height_in
  height s = height_in fuel s

  pure_in : Outs G → ℕ → G.Symbol → Bool
  pure_in O zero s = true
  pure_in O (suc n) s = all (λ p. plain (pure_in O n) (O.marks s p) (G.parts s p)) (N.rules s)

  -- it leaves the own token of a record to come alone
  unfoldable pub pure : Outs G → G.Symbol → Bool
  unfolding pure_in
  pure O s = pure_in O fuel s
