-- Where the tokens' spans stand in order, each record's span holds those below it, and those side by side stand in order.
-- Assumes nothing.
use mathlib.Core.Path.{◌≡◌, refl, subst}
use mathlib.Core.Bool.{Bool, true, false, not, ◌&&◌, ◌||◌}
use mathlib.Core.List.{List, [], ◌∷◌, ◌++◌}
use Prim.Native.Nat.{ℕ, ◌≤◌, min, max}
use native.Mathlib.Omega.{arith}
use lib.Dec.{T}
use Rattle.grammar.specs.Grammar.{Tok, head, Item, Items, one, sub, Grammar, Tree, node, Forest, end, leaf, down, yield, yields}
use Rattle.grammar.specs.Names.{Names}
use Rattle.grammar.specs.Records.{Row, none, put, glue, Span, nil, span, join, or_else, from, upto, span_of, Leaf, nothing, own, word, Way, pass, fold, Reach, apart, widens, replaces, Step, make, plus, start, Mark, Outs, leaf_row, Acc, fresh, leave, beside, bring, finish, first_mark, rest, walk, walks}
use Rattle.grammar.specs.Facts.{Spaced, Within}
use Rattle.grammar.proofs.Table.{both, or_cases, implies, tokened, every_rule, at_rule}

-- rows between bounds
stretch : (x : Row) (lo hi lo' hi' : ℕ) → lo' ≤ lo → hi ≤ hi' → Within lo hi x → Within lo' hi' x
stretch none lo hi lo' hi' p q w = omega arith
stretch (put b r ks) lo hi lo' hi' p q w = (stretch b lo r.start lo' r.start p (omega arith) w.0, w.1, omega (arith, w.2))

ordered : (x : Row) (lo hi : ℕ) → Within lo hi x → lo ≤ hi
ordered none lo hi w = w
ordered (put b r ks) lo hi w = let p = ordered b lo r.start w.0 in let q = ordered ks r.start r.stop w.1 in omega (arith, w.2)

within_glue : (x y : Row) (a b c d : ℕ) → Within a b x → b ≤ c → Within c d y → Within a d (glue x y)
within_glue x none a b c d w p v = stretch x a b a d (omega arith) (omega arith) w
within_glue x (put y r ks) a b c d w p v = (within_glue x y a b c r.start w p v.0, v.1, v.2)

-- from the bound of the one and up to the bound of the other
within_both : (x : Row) (a hi lo e : ℕ) → a ≤ e → Within a hi x → Within lo e x → Within a e x
within_both none a hi lo e p w v = p
within_both (put b r ks) a hi lo e p w v = (w.0, w.1, v.2)

abbrev empty : Row → Bool
empty none = true
empty (put b r ks) = false

none_within : (x : Row) → T (empty x) → (a e : ℕ) → a ≤ e → Within a e x
none_within none t a e h = h
none_within (put b r ks) t a e h = absurd t

glue_empty : (x y : Row) → T (empty x) → T (empty y) → T (empty (glue x y))
glue_empty x none p q = p
glue_empty x (put b r ks) p q = absurd q

-- What is known of the span so far: there is one; nothing that is left begins before it; nothing that is left ends behind it.
pub record State : Type 0 where
  pub seen : Bool
  pub low : Bool
  pub high : Bool

abbrev pub state : Bool → Bool → Bool → State
state v l h = record { seen = v; low = l; high = h }

abbrev pub whole : State
whole = state true true true

-- nothing is left yet
abbrev pub clear : State
clear = state false true true

abbrev Seen : Span → Type 0
Seen nil = ⊥
Seen (span a e) = Unit {0}

abbrev Inside : ℕ → ℕ → Span → Type 0
Inside lo hi nil = Unit {0}
Inside lo hi (span a e) = (lo ≤ a) × (a ≤ e) × (e ≤ hi)

abbrev Low : ℕ → Span → Row → Type 0
Low hi nil x = T (empty x)
Low hi (span a e) x = Within a hi x

abbrev High : ℕ → Span → Row → Type 0
High lo nil x = T (empty x)
High lo (span a e) x = Within lo e x

-- what is left stands between lo and hi, and the state tells the truth of it
record Held (σ : State) (lo hi : ℕ) (u : Span) (x : Row) : Type 0 where
  rows : Within lo hi x
  reach : Inside lo hi u
  seen : T σ.seen → Seen u
  low : T σ.low → Low hi u x
  high : T σ.high → High lo u x

inside_up : (u : Span) (lo m hi : ℕ) → m ≤ hi → Inside lo m u → Inside lo hi u
inside_up nil lo m hi p h = tt
inside_up (span a e) lo m hi p h = (h.0, h.1, omega (arith, h.2))

inside_down : (u : Span) (lo lo' hi : ℕ) → lo' ≤ lo → Inside lo hi u → Inside lo' hi u
inside_down nil lo lo' hi p h = tt
inside_down (span a e) lo lo' hi p h = (omega (arith, h.0), h.1, h.2)

low_up : (u : Span) (x : Row) (m hi : ℕ) → m ≤ hi → Low m u x → Low hi u x
low_up nil x m hi p h = h
low_up (span a e) x m hi p h = stretch x a m a hi (omega arith) p h

high_down : (u : Span) (x : Row) (lo lo' : ℕ) → lo' ≤ lo → High lo u x → High lo' u x
high_down nil x lo lo' p h = h
high_down (span a e) x lo lo' p h = stretch x lo e lo' e p (omega arith) h

-- further bounds
later : {σ : State} {lo m : ℕ} {u : Span} {x : Row} (hi : ℕ) → m ≤ hi → Held σ lo m u x → Held σ lo hi u x
later {lo = lo} {m} {u} {x} hi p h = record {
  rows = stretch x lo m lo hi (omega arith) p h.rows;
  reach = inside_up u lo m hi p h.reach;
  seen = h.seen;
  low = λ t. low_up u x m hi p (h.low t);
  high = h.high;
}

earlier : {σ : State} {lo hi : ℕ} {u : Span} {x : Row} (lo' : ℕ) → lo' ≤ lo → Held σ lo hi u x → Held σ lo' hi u x
earlier {lo = lo} {hi} {u} {x} lo' p h = record {
  rows = stretch x lo hi lo' hi p (omega arith) h.rows;
  reach = inside_down u lo lo' hi p h.reach;
  seen = h.seen;
  low = h.low;
  high = λ t. high_down u x lo lo' p (h.high t);
}

-- less is known
abbrev pub covers : State → State → Bool
covers σ τ = (not τ.seen || σ.seen) && ((not τ.low || σ.low) && (not τ.high || σ.high))

less : {σ : State} (τ : State) {lo hi : ℕ} {u : Span} {x : Row} → T (covers σ τ) → Held σ lo hi u x → Held τ lo hi u x
less {σ} τ c h =
    let p = both (not τ.seen || σ.seen) ((not τ.low || σ.low) && (not τ.high || σ.high)) c in
    let q = both (not τ.low || σ.low) (not τ.high || σ.high) p.1 in
    record {
      rows = h.rows;
      reach = h.reach;
      seen = λ t. h.seen (implies τ.seen σ.seen p.0 t);
      low = λ t. h.low (implies τ.low σ.low q.0 t);
      high = λ t. h.high (implies τ.high σ.high q.1 t);
    }

-- THE STATE BEHIND A TOKEN. One with a record of its own that stands apart may begin before the span, and ends behind it.
abbrev pub besides : Leaf → State → State
besides nothing σ = σ
besides own σ = σ
besides word σ = state σ.seen (σ.low && σ.seen) false

abbrev pub on_token : Leaf → Reach → State → State
on_token x apart σ = besides x σ
on_token x widens σ = state true σ.low true
on_token x replaces σ = state true false true

module _ {G : Grammar} (O : Outs G) (t : Tok) (q : t.start ≤ t.stop) where
  leaf_row_lem : (x : Leaf) (y : Row) (a m : ℕ) → m ≤ t.start → Within a m y → Within a t.stop (leaf_row O x t y)
  leaf_row_lem nothing y a m p w = stretch y a m a t.stop (omega arith) (omega arith) w
  leaf_row_lem own y a m p w = stretch y a m a t.stop (omega arith) (omega arith) w
  leaf_row_lem word y a m p w = (stretch y a m a t.start (omega arith) p w, q, omega arith)

  token_low : (x : Leaf) (u : Span) (y : Row) (σ : State) (lo m : ℕ) → m ≤ t.start → Held σ lo m u y → T (besides x σ).low → Low t.stop u (leaf_row O x t y)
  token_low nothing u y σ lo m p h l = low_up u y m t.stop (omega arith) (h.low l)
  token_low own u y σ lo m p h l = low_up u y m t.stop (omega arith) (h.low l)
  token_low word nil y σ lo m p h l = absurd (h.seen (both σ.low σ.seen l).1)
  token_low word (span a e) y σ lo m p h l = leaf_row_lem word y a m p (h.low (both σ.low σ.seen l).0)

  token_high : (x : Leaf) (u : Span) (y : Row) (σ : State) (lo m : ℕ) → Held σ lo m u y → T (besides x σ).high → High lo u (leaf_row O x t y)
  token_high nothing u y σ lo m h l = h.high l
  token_high own u y σ lo m h l = h.high l
  token_high word u y σ lo m h l = absurd l

  token_seen : (x : Leaf) (u : Span) (y : Row) (σ : State) (lo m : ℕ) → Held σ lo m u y → T (besides x σ).seen → Seen u
  token_seen nothing u y σ lo m h l = h.seen l
  token_seen own u y σ lo m h l = h.seen l
  token_seen word u y σ lo m h l = h.seen l

  token_held : (x : Leaf) (r : Reach) (σ : State) (lo m : ℕ) (c : Acc) → m ≤ t.start → Held σ lo m c.reach c.row → Held (on_token x r σ) lo t.stop (leave O x r t c).reach (leaf_row O x t c.row)
  token_held x apart σ lo m c p h = record {
    rows = leaf_row_lem x c.row lo m p h.rows;
    reach = inside_up c.reach lo m t.stop (omega arith) h.reach;
    seen = token_seen x c.reach c.row σ lo m h;
    low = token_low x c.reach c.row σ lo m p h;
    high = token_high x c.reach c.row σ lo m h;
  }
  token_held x widens σ lo m c p h = joined c.reach c.row h
    where
      joined : (u : Span) (y : Row) → Held σ lo m u y → Held (state true σ.low true) lo t.stop (join u (span_of t)) (leaf_row O x t y)
      joined nil y h =
          let o = ordered y lo m h.rows in
          record {
            rows = leaf_row_lem x y lo m p h.rows;
            reach = (omega arith, q, omega arith);
            seen = λ l. tt;
            low = λ l. leaf_row_lem x y t.start t.start (omega arith) (none_within y (h.low l) t.start t.start (omega arith));
            high = λ l. leaf_row_lem x y lo m p h.rows;
          }
      joined (span a e) y h =
          let z = h.reach in
          let w = leaf_row_lem x y lo m p h.rows in
          record {
            rows = w;
            reach = (omega (arith, z.0, z.1, z.2), omega (arith, z.0, z.1, z.2), omega (arith, z.0, z.1, z.2));
            seen = λ l. tt;
            low = λ l. stretch (leaf_row O x t y) a t.stop (min a t.start) t.stop (omega arith) (omega arith) (leaf_row_lem x y a m p (h.low l));
            high = λ l. stretch (leaf_row O x t y) lo t.stop lo (max e t.stop) (omega arith) (omega arith) w;
          }
  token_held x replaces σ lo m c p h =
      let o = ordered c.row lo m h.rows in
      record {
        rows = leaf_row_lem x c.row lo m p h.rows;
        reach = (omega arith, q, omega arith);
        seen = λ l. tt;
        low = λ l. absurd l;
        high = λ l. leaf_row_lem x c.row lo m p h.rows;
      }

-- THE STATE BEHIND A PHRASE that is read by itself and left with the state τ.
abbrev pub on_phrase : Reach → State → State → State
on_phrase apart τ σ = state σ.seen (σ.low && σ.seen) false
on_phrase widens τ σ = state (σ.seen || τ.seen) (σ.low && (τ.low || σ.seen)) (τ.high && (σ.high || τ.seen))
on_phrase replaces τ σ = state (σ.seen || τ.seen) false (τ.high && (σ.high || τ.seen))

module _ (σ τ : State) (lo m hi : ℕ) (u v : Span) (x y : Row) (h : Held σ lo m u x) (k : Held τ m hi v y) where
  glued : (a : ℕ) → Within a m x → Within a hi (glue x y)
  glued a w = within_glue x y a m m hi w (omega arith) k.rows

  low_le : lo ≤ m
  low_le = ordered x lo m h.rows

  up_le : m ≤ hi
  up_le = ordered y m hi k.rows

-- with no span of the phrase's own, the span stays
rest_held : (σ τ : State) (lo m hi : ℕ) (u : Span) (x y : Row) → Held σ lo m u x → Held τ m hi nil y → (T (τ.high && (σ.high || τ.seen)) → High lo u (glue x y)) × (T (σ.seen || τ.seen) → Seen u)
rest_held σ τ lo m hi u x y h k = (go u h, λ t. or_cases σ.seen τ.seen t h.seen (λ z. absurd (k.seen z)))
  where
    go : (u : Span) → Held σ lo m u x → T (τ.high && (σ.high || τ.seen)) → High lo u (glue x y)
    go nil h t = let l = both τ.high (σ.high || τ.seen) t in or_cases σ.high τ.seen l.1 (λ z. glue_empty x y (h.high z) (k.high l.0)) (λ z. absurd (k.seen z))
    go (span a e) h t =
        let l = both τ.high (σ.high || τ.seen) t in
        or_cases σ.high τ.seen l.1 (λ z. within_glue x y lo e e e (h.high z) (omega arith) (none_within y (k.high l.0) e e (omega arith))) (λ z. absurd (k.seen z))

phrase_held : (r : Reach) (σ τ : State) (lo m hi : ℕ) (c y : Acc) → Held σ lo m c.reach c.row → Held τ m hi y.reach y.row → Held (on_phrase r τ σ) lo hi (beside r c y).reach (glue c.row y.row)
phrase_held apart σ τ lo m hi c y h k = record {
  rows = glued σ τ lo m hi c.reach y.reach c.row y.row h k lo h.rows;
  reach = inside_up c.reach lo m hi (up_le σ τ lo m hi c.reach y.reach c.row y.row h k) h.reach;
  seen = h.seen;
  low = go c.reach h;
  high = λ t. absurd t;
}
  where
    go : (u : Span) → Held σ lo m u c.row → T (σ.low && σ.seen) → Low hi u (glue c.row y.row)
    go nil h t = absurd (h.seen (both σ.low σ.seen t).1)
    go (span a e) h t = within_glue c.row y.row a m m hi (h.low (both σ.low σ.seen t).0) (omega arith) k.rows
phrase_held widens σ τ lo m hi c y h k = go c.reach y.reach h k
  where
    go : (u v : Span) → Held σ lo m u c.row → Held τ m hi v y.row → Held (on_phrase widens τ σ) lo hi (join u v) (glue c.row y.row)
    go nil nil h k =
        let b = rest_held σ τ lo m hi nil c.row y.row h k in
        record {
          rows = glued σ τ lo m hi nil nil c.row y.row h k lo h.rows;
          reach = tt;
          seen = b.1;
          low = λ t. let l = both σ.low (τ.low || σ.seen) t in or_cases τ.low σ.seen l.1 (λ z. glue_empty c.row y.row (h.low l.0) (k.low z)) (λ z. absurd (h.seen z));
          high = b.0;
        }
    go nil (span a e) h k =
        let z = k.reach in
        let o = low_le σ τ lo m hi nil (span a e) c.row y.row h k in
        record {
          rows = glued σ τ lo m hi nil (span a e) c.row y.row h k lo h.rows;
          reach = (omega (arith, z.0), z.1, z.2);
          seen = λ t. tt;
          low = λ t. let l = both σ.low (τ.low || σ.seen) t in
              or_cases τ.low σ.seen l.1 (λ n. within_glue c.row y.row a a a hi (none_within c.row (h.low l.0) a a (omega arith)) (omega arith) (k.low n)) (λ n. absurd (h.seen n));
          high = λ t. within_glue c.row y.row lo m m e h.rows (omega arith) (k.high (both τ.high (σ.high || τ.seen) t).0);
        }
    go (span a e) nil h k =
        let z = h.reach in
        let o = up_le σ τ lo m hi (span a e) nil c.row y.row h k in
        let b = rest_held σ τ lo m hi (span a e) c.row y.row h k in
        record {
          rows = glued σ τ lo m hi (span a e) nil c.row y.row h k lo h.rows;
          reach = (z.0, z.1, omega (arith, z.2));
          seen = b.1;
          low = λ t. glued σ τ lo m hi (span a e) nil c.row y.row h k a (h.low (both σ.low (τ.low || σ.seen) t).0);
          high = b.0;
        }
    go (span a e) (span f g) h k =
        let z = h.reach in
        let w = k.reach in
        record {
          rows = glued σ τ lo m hi (span a e) (span f g) c.row y.row h k lo h.rows;
          reach = (omega (arith, z.0, z.1, z.2, w.0), omega (arith, z.1, w.1), omega (arith, z.2, w.0, w.1, w.2));
          seen = λ t. tt;
          low = λ t. stretch (glue c.row y.row) a hi (min a f) hi (omega arith) (omega arith) (glued σ τ lo m hi (span a e) (span f g) c.row y.row h k a (h.low (both σ.low (τ.low || σ.seen) t).0));
          high = λ t. stretch (glue c.row y.row) lo g lo (max e g) (omega arith) (omega arith) (within_glue c.row y.row lo m m g h.rows (omega arith) (k.high (both τ.high (σ.high || τ.seen) t).0));
        }
phrase_held replaces σ τ lo m hi c y h k = go y.reach k
  where
    go : (v : Span) → Held τ m hi v y.row → Held (on_phrase replaces τ σ) lo hi (or_else v c.reach) (glue c.row y.row)
    go nil k =
        let b = rest_held σ τ lo m hi c.reach c.row y.row h k in
        record {
          rows = glued σ τ lo m hi c.reach nil c.row y.row h k lo h.rows;
          reach = inside_up c.reach lo m hi (up_le σ τ lo m hi c.reach nil c.row y.row h k) h.reach;
          seen = b.1;
          low = λ t. absurd t;
          high = b.0;
        }
    go (span a e) k =
        let z = k.reach in
        let o = low_le σ τ lo m hi c.reach (span a e) c.row y.row h k in
        record {
          rows = glued σ τ lo m hi c.reach (span a e) c.row y.row h k lo h.rows;
          reach = (omega (arith, z.0), z.1, z.2);
          seen = λ t. tt;
          low = λ t. absurd t;
          high = λ t. within_glue c.row y.row lo m m e h.rows (omega arith) (k.high (both τ.high (σ.high || τ.seen) t).0);
        }

-- THE STATE BEHIND STEPS. A record is made only under a span that holds all; `f`: the production's first token may widen the span.
abbrev pub settles : List Step → State → State
settles [] σ = σ
settles (make k ∷ ss) σ = settles ss whole
settles (plus n ∷ ss) σ = settles ss σ
settles (start ∷ ss) σ = settles ss (state true true σ.high)

abbrev calm : Bool → List Step → State → Bool
calm f [] σ = true
calm f (make k ∷ ss) σ = σ.seen && (σ.low && (σ.high && calm f ss whole))
calm f (plus n ∷ ss) σ = calm f ss σ
calm f (start ∷ ss) σ = f && calm f ss (state true true σ.high)

-- lo is where the first token begins, and it ends before m
abbrev First : Tok → ℕ → ℕ → Type 0
First t lo m = (lo ≡ t.start) × (t.start ≤ t.stop) × (t.stop ≤ m)

make_held : {σ : State} {lo m : ℕ} (u : Span) (x : Row) (k f n c : ℕ) → T σ.seen → T σ.low → T σ.high → Held σ lo m u x → Held whole lo m u (put none (record { kind = k; flag = f; own = n; start = from u; stop = upto u; count = c }) x)
make_held nil x k f n c s l g h = absurd (h.seen s)
make_held {lo = lo} {m} (span a e) x k f n c s l g h =
    let z = h.reach in
    let w = within_both x a m lo e z.1 (h.low l) (h.high g) in
    record {
      rows = (z.0, w, z.2);
      reach = z;
      seen = λ t. tt;
      low = λ t. (omega arith, w, z.2);
      high = λ t. (z.0, w, omega arith);
    }

start_held : {σ : State} {lo m : ℕ} (t : Tok) (u : Span) (x : Row) → First t lo m → Held σ lo m u x → Held (state true true σ.high) lo m (join (span_of t) u) x
start_held {lo = lo} {m} t nil x p h =
    let e = p.0 in
    let o = ordered x lo m h.rows in
    record {
      rows = h.rows;
      reach = (omega arith, p.1, p.2);
      seen = λ z. tt;
      low = λ z. stretch x lo m t.start m (omega arith) (omega arith) h.rows;
      high = λ z. none_within x (h.high z) lo t.stop (omega (arith, p.1));
    }
start_held {lo = lo} {m} t (span a e) x p h =
    let i = p.0 in
    let z = h.reach in
    record {
      rows = h.rows;
      reach = (omega (arith, z.0), omega (arith, p.1, z.1), omega (arith, p.2, z.2));
      seen = λ z. tt;
      low = λ n. stretch x lo m (min t.start a) m (omega arith) (omega arith) h.rows;
      high = λ n. stretch x lo e lo (max t.stop e) (omega arith) (omega arith) (h.high n);
    }

finish_held : {G : Grammar} (O : Outs G) (t : Tok) (f : Bool) (ss : List Step) (σ : State) (lo m : ℕ) (c : Acc) → (T f → First t lo m) → T (calm f ss σ) → Held σ lo m c.reach c.row
    → Held (settles ss σ) lo m (finish O t ss c).reach (finish O t ss c).row
finish_held O t f [] σ lo m c p k h = h
finish_held O t f (make n ∷ ss) σ lo m c p k h =
    let a = both σ.seen (σ.low && (σ.high && calm f ss whole)) k in
    let b = both σ.low (σ.high && calm f ss whole) a.1 in
    let d = both σ.high (calm f ss whole) b.1 in
    finish_held O t f ss whole lo m _ p d.1 (make_held c.reach c.row _ _ _ _ a.0 b.0 d.0 h)
finish_held O t f (plus n ∷ ss) σ lo m c p k h = finish_held O t f ss σ lo m _ p k h
finish_held O t f (start ∷ ss) σ lo m c p k h =
    let a = both f (calm f ss (state true true σ.high)) k in
    finish_held O t f ss (state true true σ.high) lo m _ p a.1 (start_held t c.reach c.row (p a.0) h)

-- HOW A SYMBOL IS READ: only by itself, and left with a state; or on top of what is left with one state, and left with another.
pub data Shape : Type 0 where
  alone : State → Shape
  over : State → State → Shape

abbrev pub lone : Shape → Bool
lone (alone τ) = true
lone (over ρ τ) = false

abbrev joins : Way → Shape → State → Bool
joins pass (alone τ) σ = true
joins pass (over ρ τ) σ = covers clear ρ
joins fold (alone τ) σ = false
joins fold (over ρ τ) σ = covers σ ρ

abbrev pub on_symbol : Way → Reach → Shape → State → State
on_symbol pass r (alone τ) σ = on_phrase r τ σ
on_symbol pass r (over ρ τ) σ = on_phrase r τ σ
on_symbol fold r (alone τ) σ = σ
on_symbol fold r (over ρ τ) σ = τ

abbrev last : {S : Type 0} → List (Item S) → Bool
last [] = true
last (i ∷ is) = false

-- the parts from the state σ on, up to the state τ; `f`: at the end the first token may widen the span
abbrev sober : {S : Type 0} → (S → Shape) → Bool → State → List Mark → List (Item S) → State → Bool
sober H f σ ms [] τ = covers σ τ
sober H f σ ms (one c ∷ is) τ =
    calm (f && last is) (first_mark ms).steps (on_token (first_mark ms).token (first_mark ms).reach σ)
    && sober H f (settles (first_mark ms).steps (on_token (first_mark ms).token (first_mark ms).reach σ)) (rest ms) is τ
sober H f σ ms (sub s ∷ is) τ =
    joins (first_mark ms).phrase (H s) σ
    && (calm (f && last is) (first_mark ms).steps (on_symbol (first_mark ms).phrase (first_mark ms).reach (H s) σ)
    && sober H f (settles (first_mark ms).steps (on_symbol (first_mark ms).phrase (first_mark ms).reach (H s) σ)) (rest ms) is τ)

abbrev sound : {S : Type 0} → (S → Shape) → Shape → List Mark → List (Item S) → Bool
sound H (alone τ) ms is = sober H (tokened is) clear ms is τ
sound H (over ρ τ) ms is = sober H false ρ ms is τ

abbrev stead : (G : Grammar) → Outs G → (G.Symbol → Shape) → (s : G.Symbol) → G.Rule s → Bool
stead G O H s p = sound H (H s) (O.marks s p) (G.parts s p)

unfoldable pub steady : (G : Grammar) → Names G → Outs G → (G.Symbol → Shape) → Bool
steady G N O H = every_rule N (stead G O H)

-- where the first of two lists of tokens ends
mid : ℕ → List Tok → ℕ
mid lo [] = lo
mid lo (t ∷ ts) = mid t.stop ts

spaced_split : (lo hi : ℕ) (xs ys : List Tok) → Spaced lo hi (xs ++ ys) → Spaced lo (mid lo xs) xs × Spaced (mid lo xs) hi ys
unfolding mid
spaced_split lo hi [] ys h = (omega arith, h)
spaced_split lo hi (t ∷ xs) ys h = let l = spaced_split t.stop hi xs ys h.2 in ((h.0, h.1, l.0), l.1)

spaced_le : (lo hi : ℕ) (xs : List Tok) → Spaced lo hi xs → lo ≤ hi
spaced_le lo hi [] h = h
spaced_le lo hi (t ∷ xs) h = let l = spaced_le t.stop hi xs h.2 in omega (arith, h.0, h.1)

-- behind the last part all is read
record Reached {G : Grammar} {is : Items G} (m hi : ℕ) (f : Forest G is) : Type 0 where
  place : ℕ
  after : m ≤ place
  spaced : Spaced place hi (yields f)
  done : T (last is) → hi ≤ place

reached : {G : Grammar} {is : Items G} (m hi : ℕ) (f : Forest G is) → Spaced m hi (yields f) → Reached m hi f
unfolding yield
reached m hi end h = record { place = hi; after = h; spaced = omega arith; done = λ t. omega arith }
reached m hi (leaf t k f) h = record { place = m; after = omega arith; spaced = h; done = λ t. absurd t }
reached m hi (down d f) h = record { place = m; after = omega arith; spaced = h; done = λ t. absurd t }

-- parts with a token spell a first one
record Begun (m hi : ℕ) (ts : List Tok) : Type 0 where
  starts : m ≤ (head ts).start
  real : (head ts).start ≤ (head ts).stop
  ends : (head ts).stop ≤ hi
  from_there : Spaced (head ts).start hi ts

begun_cons : (m hi : ℕ) (t : Tok) (ts : List Tok) → Spaced m hi (t ∷ ts) → Begun m hi (t ∷ ts)
begun_cons m hi t ts h = record { starts = h.0; real = h.1; ends = spaced_le t.stop hi ts h.2; from_there = (omega arith, h.1, h.2) }

begun_append : (m hi : ℕ) (xs ys : List Tok) → ((h : Spaced m hi ys) → Begun m hi ys) → Spaced m hi (xs ++ ys) → Begun m hi (xs ++ ys)
begun_append m hi [] ys k h = k h
begun_append m hi (x ∷ xs) ys k h = begun_cons m hi x (xs ++ ys) h

begun : {G : Grammar} {is : Items G} (m hi : ℕ) (f : Forest G is) → T (tokened is) → Spaced m hi (yields f) → Begun m hi (yields f)
unfolding yield
begun m hi end t h = absurd t
begun m hi (leaf x k f) t h = begun_cons m hi x (yields f) h
begun m hi (down d f) t h = begun_append m hi (yield d) (yields f) (λ k. begun m hi f t k) h

fresh_held : (m : ℕ) → Held clear m m nil none
fresh_held m = record { rows = omega arith; reach = tt; seen = λ t. absurd t; low = λ t. tt; high = λ t. tt }

-- read by itself, from its first token on where there is one
by_itself : (b : Bool) (ts : List Tok) (τ : State) (m hi : ℕ) {u : Span} {x : Row} → (T b → Begun m hi ts)
    → ((lo m' : ℕ) → (T b → First (head ts) lo hi) → Spaced m' hi ts → Held clear lo m' nil none → Held τ lo hi u x) → Spaced m hi ts → Held τ m hi u x
by_itself true ts τ m hi g run q = let z = g tt in earlier m z.starts (run (head ts).start (head ts).start (λ t. (refl, z.real, z.ends)) z.from_there (fresh_held (head ts).start))
by_itself false ts τ m hi g run q = run m m (λ t. absurd t) q (fresh_held m)

module _ (G : Grammar) (N : Names G) (O : Outs G) (H : G.Symbol → Shape) (ok : T (steady G N O H)) where
  steady_at : (s : G.Symbol) (p : G.Rule s) → T (stead G O H s p)
  unfolding steady
  steady_at s p = at_rule N (stead G O H) ok s p

  -- a derivation read as its symbol is
  abbrev Read : {s : G.Symbol} → Shape → Tree G s → ℕ → ℕ → Type 0
  Read (alone τ) d m hi = Held τ m hi (walk O d fresh).reach (walk O d fresh).row
  Read (over ρ τ) d m hi = (lo : ℕ) (c : Acc) → Held ρ lo m c.reach c.row → Held τ lo hi (walk O d c).reach (walk O d c).row

  bring_held : {s : G.Symbol} (w : Way) (r : Reach) (σ : State) (lo m hi : ℕ) (c : Acc) (d : Tree G s) (e : Shape) → T (joins w e σ) → Read e d m hi → Held σ lo m c.reach c.row
      → Held (on_symbol w r e σ) lo hi (bring w r (λ x. walk O d x) c).reach (bring w r (λ x. walk O d x) c).row
  bring_held pass r σ lo m hi c d (alone τ) j k h = phrase_held r σ τ lo m hi c (walk O d fresh) h k
  bring_held pass r σ lo m hi c d (over ρ τ) j k h = phrase_held r σ τ lo m hi c (walk O d fresh) h (k m fresh (less ρ j (fresh_held m)))
  bring_held fold r σ lo m hi c d (alone τ) j k h = absurd j
  bring_held fold r σ lo m hi c d (over ρ τ) j k h = k lo c (less ρ j h)

  FirstAt : (b : Bool) (t₀ : Tok) (is : Items G) (lo hi m : ℕ) → (T b → First t₀ lo hi) → (T (last is) → hi ≤ m) → T (b && last is) → First t₀ lo m
  FirstAt b t₀ is lo hi m p q t =
      let l = both b (last is) t in
      let z = p l.0 in
      let y = q l.1 in
      (z.0, z.1, omega (arith, z.2))

  mutual
    unfolding walk yield

    walk_held : {s : G.Symbol} (d : Tree G s) (m hi : ℕ) → Spaced m hi (yield d) → (e : Shape) → H s ≡ e → Read e d m hi
    walk_held (node {s = s} p f) m hi q (alone τ) e =
        let b = tokened (G.parts s p) in
        let t = subst (λ e. T (sound H e (O.marks s p) (G.parts s p))) e (steady_at s p) in
        by_itself b (yields f) τ m hi (λ z. begun m hi f z q) (λ lo m' g w h. walks_held (head (yields f)) (O.marks s p) f b clear τ lo m' hi fresh t g w h) q
    walk_held (node {s = s} p f) m hi q (over ρ τ) e = λ lo c h. walks_held (head (yields f)) (O.marks s p) f false ρ τ lo m hi c (subst (λ e. T (sound H e (O.marks s p) (G.parts s p))) e (steady_at s p)) (λ z. absurd z) q h

    walks_held : {is : Items G} (t₀ : Tok) (ms : List Mark) (f : Forest G is) (b : Bool) (σ τ : State) (lo m hi : ℕ) (c : Acc) → T (sober H b σ ms is τ) → (T b → First t₀ lo hi) → Spaced m hi (yields f) → Held σ lo m c.reach c.row
        → Held τ lo hi (walks O t₀ ms f c).reach (walks O t₀ ms f c).row
    walks_held t₀ ms end b σ τ lo m hi c t p q h = less τ t (later hi q h)
    walks_held t₀ ms (leaf {is = is} x y f) b σ τ lo m hi c t p q h =
        let ss = (first_mark ms).steps in
        let σ' = on_token (first_mark ms).token (first_mark ms).reach σ in
        let l = both (calm (b && last is) ss σ') (sober H b (settles ss σ') (rest ms) is τ) t in
        let w = reached x.stop hi f q.2 in
        let c' = leave O (first_mark ms).token (first_mark ms).reach x c in
        walks_held t₀ (rest ms) f b (settles ss σ') τ lo w.place hi (finish O t₀ ss c') l.1 p w.spaced
        (finish_held O t₀ (b && last is) ss σ' lo w.place c' (FirstAt b t₀ is lo hi w.place p w.done) l.0
        (later w.place w.after (token_held O x q.1 (first_mark ms).token (first_mark ms).reach σ lo m c q.0 h)))
    walks_held t₀ ms (down {s = s} {is = is} d f) b σ τ lo m hi c t p q h =
        let ss = (first_mark ms).steps in
        let g = (first_mark ms).phrase in
        let r = (first_mark ms).reach in
        let σ' = on_symbol g r (H s) σ in
        let j = both (joins g (H s) σ) (calm (b && last is) ss σ' && sober H b (settles ss σ') (rest ms) is τ) t in
        let l = both (calm (b && last is) ss σ') (sober H b (settles ss σ') (rest ms) is τ) j.1 in
        let n = mid m (yield d) in
        let u = spaced_split m hi (yield d) (yields f) q in
        let w = reached n hi f u.1 in
        let c' = bring g r (λ x. walk O d x) c in
        walks_held t₀ (rest ms) f b (settles ss σ') τ lo w.place hi (finish O t₀ ss c') l.1 p w.spaced
        (finish_held O t₀ (b && last is) ss σ' lo w.place c' (FirstAt b t₀ is lo hi w.place p w.done) l.0
        (later w.place w.after (bring_held g r σ lo m n c d (H s) j.0 (walk_held d m n u.0 (H s) refl) h)))

  nested_by : {s : G.Symbol} (d : Tree G s) (lo hi : ℕ) (e : Shape) → T (lone e) → Read e d lo hi → Within lo hi (walk O d fresh).row
  nested_by d lo hi (alone τ) t h = h.rows
  nested_by d lo hi (over ρ τ) t h = absurd t

  -- of a symbol that is read by itself
  pub nested : {s : G.Symbol} (d : Tree G s) → T (lone (H s)) → (lo hi : ℕ) → Spaced lo hi (yield d) → Within lo hi (walk O d fresh).row
  nested {s} d t lo hi h = nested_by d lo hi (H s) t (walk_held d lo hi h (H s) refl)
