-- Grammars as named productions, derivations as trees of them, what a derivation spells, its measure, and conditions on it.
-- Assumes nothing.
use Rattle.std.specs.Prelude.{◌≡◌, Bool, false, ◌||◌, List, [], ◌∷◌, ◌++◌, ℕ, ◌+◌, ◌-◌, max, T, eqb}

-- a token: its place in the list, its kind, its span
pub record Tok : Type 0 where
  pub place : ℕ
  pub kind : ℕ
  pub start : ℕ
  pub stop : ℕ

abbrev pub no_tok : Tok
no_tok = record { place = 0; kind = 0; start = 0; stop = 0 }

abbrev pub head : List Tok → Tok
head [] = no_tok
head (t ∷ ts) = t

abbrev pub next : List Tok → ℕ
next ts = (head ts).kind

-- a part of a production: a token of one of these kinds, or a phrase of this symbol
pub data Item (S : Type 0) : Type 0 where
  one : List ℕ → Item S
  sub : S → Item S

-- the symbols, the names of each symbol's productions, and the parts of each production
pub record Grammar : Type 1 where
  pub Symbol : Type 0
  pub Rule : Symbol → Type 0
  pub parts : (s : Symbol) → Rule s → List (Item Symbol)
  -- a kind of token that counts as two of the kind `half` where a half is wanted
  pub pair : ℕ
  pub half : ℕ

abbrev pub Items : Grammar → Type 0
Items G = List (Item G.Symbol)

abbrev pub has : List ℕ → ℕ → Bool
has [] k = false
has (c ∷ cs) k = eqb k c || has cs k

-- the two halves of a token: the last byte, and what is before it
abbrev pub middle : Tok → ℕ
middle t = max t.start (t.stop - 1)

abbrev pub front : ℕ → Tok → Tok
front h t = record { place = t.place; kind = h; start = t.start; stop = middle t }

abbrev pub back : ℕ → Tok → Tok
back h t = record { place = t.place; kind = h; start = middle t; stop = t.stop }

-- the tokens us stand at the front of ts, and r is left behind them: each token whole, or a pair in halves
pub data Spells (G : Grammar) : List Tok → List Tok → List Tok → Type 0 where
  done : {r : List Tok} → Spells G r [] r
  whole : {t : Tok} {ts us r : List Tok} → Spells G ts us r → Spells G (t ∷ ts) (t ∷ us) r
  halved : {t : Tok} {ts us r : List Tok} → T (eqb t.kind G.pair) → Spells G (back G.half t ∷ ts) us r
      → Spells G (t ∷ ts) (front G.half t ∷ us) r

-- a derivation of a symbol: a production of the symbol, and a derivation of each of its parts
mutual
  pub data Tree (G : Grammar) : G.Symbol → Type 0 where
    node : {s : G.Symbol} (p : G.Rule s) → Forest G (G.parts s p) → Tree G s

  pub data Forest (G : Grammar) : Items G → Type 0 where
    end : Forest G []
    leaf : {c : List ℕ} {is : Items G} (t : Tok) → T (has c t.kind) → Forest G is → Forest G (one c ∷ is)
    down : {s : G.Symbol} {is : Items G} → Tree G s → Forest G is → Forest G (sub s ∷ is)

-- the tokens that a derivation spells
unfoldable mutual
  pub yield : {G : Grammar} {s : G.Symbol} → Tree G s → List Tok
  yield (node p f) = yields f

  pub yields : {G : Grammar} {is : Items G} → Forest G is → List Tok
  yields end = []
  yields (leaf t h f) = t ∷ yields f
  yields (down d f) = yield d ++ yields f

-- Whether a production counts in the measure; and which token the reader marks where the allowance is spent: that at which the production begins,
-- or the one behind it.
pub data Toll : Type 0 where
  free before behind : Toll

abbrev pub Tolls : Grammar → Type 0
Tolls G = (s : G.Symbol) → G.Rule s → Toll

abbrev pub fare : Toll → ℕ
fare free = 0
fare before = 1
fare behind = 1

-- the greatest number of productions with a toll on a way down
unfoldable mutual
  pub measure : {G : Grammar} (W : Tolls G) {s : G.Symbol} → Tree G s → ℕ
  measure W (node {s = s} p f) = fare (W s p) + measures W f

  pub measures : {G : Grammar} (W : Tolls G) {is : Items G} → Forest G is → ℕ
  measures W end = 0
  measures W (leaf t h f) = measures W f
  measures W (down d f) = max (measure W d) (measures W f)

-- a condition on productions: which phrase may stand before which kind of token; a pair and a half are alike to it
pub record Terms (G : Grammar) : Type 0 where
  pub suits : (s : G.Symbol) → Tree G s → ℕ → Bool
  pub even : (s : G.Symbol) (d : Tree G s) → suits s d G.pair ≡ suits s d G.half

-- the condition holds in a derivation that stands before the tokens r
unfoldable mutual
  pub Lawful : {G : Grammar} (C : Terms G) {s : G.Symbol} → Tree G s → List Tok → Type 0
  Lawful C (node p f) r = Lawfuls C f r

  pub Lawfuls : {G : Grammar} (C : Terms G) {is : Items G} → Forest G is → List Tok → Type 0
  Lawfuls C end r = Unit {0}
  Lawfuls C (leaf t h f) r = Lawfuls C f r
  Lawfuls C (down {s = s} d f) r = T (C.suits s d (next (yields f ++ r))) × Lawful C d (yields f ++ r) × Lawfuls C f r
