-- The tree records of a derivation: each production says what its parts leave.
-- Assumes nothing.
use Rattle.std.specs.Prelude.{Bool, true, false, List, [], ◌∷◌, ◌++◌, ℕ, suc, ◌+◌, min, max, eqb}
use Rattle.grammar.specs.Grammar.{Tok, no_tok, head, has, Item, one, sub as phrase_of, Grammar, Tree, node, Forest, end, leaf, down, Items, yields}

pub record Rec : Type 0 where
  pub kind : ℕ
  pub flag : ℕ
  pub own : ℕ
  pub start : ℕ
  pub stop : ℕ
  pub count : ℕ

-- Trees of records side by side: those before the last, the last one's record, and those below it.
pub data Row : Type 0 where
  none : Row
  put : Row → Rec → Row → Row

abbrev pub count : Row → ℕ
count none = 0
count (put b r ks) = suc (count b)

abbrev pub glue : Row → Row → Row
glue b none = b
glue b (put b' r ks) = put (glue b b') r ks

-- as they are written: children before their parent
unfoldable pub records : Row → List Rec
records none = []
records (put b r ks) = records b ++ (records ks ++ (r ∷ []))

-- a span, or none yet
pub data Span : Type 0 where
  nil : Span
  span : ℕ → ℕ → Span

-- from the least start to the greatest end
abbrev pub join : Span → Span → Span
join nil y = y
join (span a b) nil = span a b
join (span a b) (span c d) = span (min a c) (max b d)

abbrev pub or_else : Span → Span → Span
or_else nil y = y
or_else (span a b) y = span a b

abbrev pub from : Span → ℕ
from nil = 0
from (span a b) = a

abbrev pub upto : Span → ℕ
upto nil = 0
upto (span a b) = b

abbrev pub span_of : Tok → Span
span_of t = span t.start t.stop

-- What a token leaves in the tree: nothing; itself as the own token of the record to come; a record of its own.
pub data Leaf : Type 0 where
  nothing own word : Leaf

-- What a phrase leaves: its records beside those so far; or it goes on with what is left so far.
pub data Way : Type 0 where
  pass fold : Way

-- What the part's span does to the span so far: nothing; it widens it; it takes its place.
pub data Reach : Type 0 where
  apart widens replaces : Reach

-- And then: a record of this kind over all that is left so far; so much more for the flag of the record to come;
-- the first token of the production widens the span.
pub data Step : Type 0 where
  make : ℕ → Step
  plus : ℕ → Step
  start : Step

-- A production's text: its parts, each with what it leaves, and between them the steps.
pub data Part (S : Type 0) : Type 0 where
  part : Leaf → Way → Reach → Item S → Part S
  then : Step → Part S

-- a token of one of these kinds; a phrase; and what the span does
abbrev pub token : {S : Type 0} → Leaf → List ℕ → Part S
token x ks = part x pass apart (one ks)

abbrev pub phrase : {S : Type 0} → Way → S → Part S
phrase w s = part nothing w apart (phrase_of s)

abbrev pub reaching : {S : Type 0} → Reach → Part S → Part S
reaching r (part x w r' i) = part x w r i
reaching r (then s) = then s

-- what one part leaves
pub record Mark : Type 0 where
  pub token : Leaf
  pub phrase : Way
  pub reach : Reach
  pub steps : List Step

-- the parts alone, which the grammar is made of; and what they leave
abbrev pub items : {S : Type 0} → List (Part S) → List (Item S)
items [] = []
items (part x w r i ∷ ps) = i ∷ items ps
items (then s ∷ ps) = items ps

abbrev pub steps_at : {S : Type 0} → List (Part S) → List Step
steps_at [] = []
steps_at (part x w r i ∷ ps) = []
steps_at (then s ∷ ps) = s ∷ steps_at ps

abbrev pub marks : {S : Type 0} → List (Part S) → List Mark
marks [] = []
marks (part x w r i ∷ ps) = record { token = x; phrase = w; reach = r; steps = steps_at ps } ∷ marks ps
marks (then s ∷ ps) = marks ps

-- the marks of each production's parts; the record's kind for a token that leaves one; the sets that number its flag
pub record Outs (G : Grammar) : Type 0 where
  pub marks : (s : G.Symbol) → G.Rule s → List Mark
  pub leafs : List (ℕ × List ℕ)
  pub flags : List (ℕ × List (List ℕ))

abbrev pub pick_n : Bool → ℕ → ℕ → ℕ
pick_n true a b = a
pick_n false a b = b

abbrev pub leaf_kind : List (ℕ × List ℕ) → ℕ → ℕ
leaf_kind [] k = 0
leaf_kind (x ∷ xs) k = pick_n (has x.1 k) x.0 (leaf_kind xs k)

-- the place of the first set with k in a list of sets, from 0
abbrev pub place_in : List (List ℕ) → ℕ → ℕ
place_in [] k = 0
place_in (x ∷ xs) k = pick_n (has x k) 0 (suc (place_in xs k))

abbrev pub flag_of : List (ℕ × List (List ℕ)) → ℕ → ℕ → ℕ
flag_of [] r k = 0
flag_of (x ∷ xs) r k = pick_n (eqb r x.0) (place_in x.1 k) (flag_of xs r k)

-- What has been left so far: records, the span, the own token of the record to come, and what its flag has so far.
pub record Acc : Type 0 where
  pub row : Row
  pub reach : Span
  pub mine : Tok
  pub sum : ℕ

abbrev pub fresh : Acc
fresh = record { row = none; reach = nil; mine = no_tok; sum = 0 }

-- the span so far, and the part's
abbrev pub widen : Reach → Span → Span → Span
widen apart u v = u
widen widens u v = join u v
widen replaces u v = or_else v u

abbrev pub leaf_row : {G : Grammar} → Outs G → Leaf → Tok → Row → Row
leaf_row O nothing t x = x
leaf_row O own t x = x
leaf_row O word t x = put x (record { kind = leaf_kind O.leafs t.kind; flag = 0; own = t.place; start = t.start; stop = t.stop; count = 0 }) none

abbrev pub owner : Leaf → Tok → Tok → Tok
owner nothing t m = m
owner own t m = t
owner word t m = m

-- a token
abbrev pub leave : {G : Grammar} → Outs G → Leaf → Reach → Tok → Acc → Acc
leave O x r t c = record { row = leaf_row O x t c.row; reach = widen r c.reach (span_of t); mine = owner x t c.mine; sum = c.sum }

-- a phrase that leaves y, beside c
abbrev pub beside : Reach → Acc → Acc → Acc
beside r c y = record { row = glue c.row y.row; reach = widen r c.reach y.reach; mine = c.mine; sum = c.sum }

-- a phrase that leaves g of what is left so far
abbrev pub bring : Way → Reach → (Acc → Acc) → Acc → Acc
bring pass r g c = beside r c (g fresh)
bring fold r g c = g c

-- a record over all so far
abbrev pub made : {G : Grammar} → Outs G → ℕ → Acc → Rec
made O k c = record { kind = k; flag = flag_of O.flags k c.mine.kind + c.sum; own = c.mine.place; start = from c.reach; stop = upto c.reach; count = count c.row }

-- the steps behind a part, in a production whose first token is t
abbrev pub finish : {G : Grammar} → Outs G → Tok → List Step → Acc → Acc
finish O t [] c = c
finish O t (make k ∷ ss) c = finish O t ss (record { row = put none (made O k c) c.row; reach = c.reach; mine = no_tok; sum = 0 })
finish O t (plus n ∷ ss) c = finish O t ss (record { row = c.row; reach = c.reach; mine = c.mine; sum = c.sum + n })
finish O t (start ∷ ss) c = finish O t ss (record { row = c.row; reach = join (span_of t) c.reach; mine = c.mine; sum = c.sum })

abbrev pub first_mark : List Mark → Mark
first_mark [] = record { token = nothing; phrase = pass; reach = apart; steps = [] }
first_mark (m ∷ ms) = m

abbrev pub rest : List Mark → List Mark
rest [] = []
rest (m ∷ ms) = ms

-- what a derivation leaves on top of c, part by part
unfoldable mutual
  pub walk : {G : Grammar} (O : Outs G) {s : G.Symbol} → Tree G s → Acc → Acc
  walk O (node {s = s} p f) c = walks O (head (yields f)) (O.marks s p) f c

  pub walks : {G : Grammar} (O : Outs G) {is : Items G} → Tok → List Mark → Forest G is → Acc → Acc
  walks O t₀ ms end c = c
  walks O t₀ ms (leaf t h f) c = walks O t₀ (rest ms) f (finish O t₀ (first_mark ms).steps (leave O (first_mark ms).token (first_mark ms).reach t c))
  walks O t₀ ms (down d f) c = walks O t₀ (rest ms) f (finish O t₀ (first_mark ms).steps (bring (first_mark ms).phrase (first_mark ms).reach (λ x. walk O d x) c))

-- the tree of records that a derivation leaves, and its records as they are written
abbrev pub tree_of : {G : Grammar} (O : Outs G) {s : G.Symbol} → Tree G s → Row
tree_of O d = (walk O d fresh).row

unfoldable pub nodes : {G : Grammar} (O : Outs G) {s : G.Symbol} → Tree G s → List Rec
nodes O d = records (tree_of O d)
