-- The laws of line and column.
use Prim.Native.Nat.{ℕ, suc, ◌+◌, ◌-◌, ◌≤◌, ◌<◌}
use mathlib.Core.Path.{◌≡◌, refl, ap, sym, ◌∙◌}
use mathlib.Core.Bool.{Bool, true, false, cond}
use mathlib.Core.List.{List, [], ◌∷◌, ◌++◌}
use native.Mathlib.Omega.{arith}
use lib.ListN.{length, get_or, take, drop, length-take, length-drop}
use lib.Seq.{length-take-le, take-add}
use Rattle.std.proofs.lemmas.List.{take_more}
use lib.Dec.{eqb, leb}
use borrow.Author.Tests.{eq-eqb, ne_eqb, le-leb, lt-leb, leb-true, leb-false}
use Rattle.quanta_text.specs.Places.{LF, feeds_in, since_from, placed, place_of}

-- a text, and what follows it
feeds_append : (l m : List ℕ) → feeds_in (l ++ m) ≡ feeds_in l + feeds_in m
unfolding feeds_in
feeds_append [] m = omega arith
feeds_append (c ∷ l) m = let rest = feeds_append l m in omega arith

since_append : (n : ℕ) (l m : List ℕ) → since_from n (l ++ m) ≡ since_from (since_from n l) m
unfolding since_from
since_append n [] m = refl
since_append n (c ∷ l) m = since_append (cond (eqb c LF) 0 (n + 1)) l m

-- what is counted of the i bytes at the front: f LFs, and n bytes since the last
pub record Counted (s : List ℕ) (i f n : ℕ) : Type 0 where
  pub feeds : f ≡ feeds_in (take i s)
  pub since : n ≡ since_from 0 (take i s)
  pub few : f ≤ i
  pub near : n ≤ i

pub counted_none : (s : List ℕ) → Counted s 0 0 0
unfolding feeds_in since_from
counted_none s = record { feeds = refl; since = refl; few = omega arith; near = omega arith }

-- the byte behind them: x says whether it is a LF
module _ {s : List ℕ} {i f n c : ℕ} (k : Counted s i f n) (h : i < length s) (q : c ≡ get_or s i 0) where
  lines : (x : Bool) → eqb c LF ≡ x → feeds_in (take (i + 1) s) ≡ feeds_in (take i s) + cond x 1 0
  unfolding feeds_in
  lines x e =
      ap feeds_in (take_more s i 0 h) ∙ feeds_append (take i s) (get_or s i 0 ∷ []) ∙ rw (← q, e) (omega arith)

  bytes : (x : Bool) → eqb c LF ≡ x → since_from 0 (take (i + 1) s) ≡ cond x 0 (since_from 0 (take i s) + 1)
  unfolding since_from
  bytes x e =
      ap (since_from 0) (take_more s i 0 h) ∙ since_append 0 (take i s) (get_or s i 0 ∷ []) ∙ rw (← q, e)

  pub counts_feed : {f' n' : ℕ} → c ≡ LF → f' ≡ f + 1 → n' ≡ 0 → Counted s (i + 1) f' n'
  counts_feed e a b =
      let l = lines true (eq-eqb c LF e) in
      let m = bytes true (eq-eqb c LF e) in
      record { feeds = omega (arith, l, k.feeds); since = b ∙ sym m; few = omega (arith, k.few); near = omega arith }

  pub counts_byte : {f' n' : ℕ} → (c ≡ LF → ⊥) → f' ≡ f → n' ≡ n + 1 → Counted s (i + 1) f' n'
  counts_byte e a b =
      let l = lines false (ne_eqb c LF e) in
      let m = bytes false (ne_eqb c LF e) in
      record {
        feeds = omega (arith, l, k.feeds);
        since = omega (arith, m, k.since);
        few = omega (arith, k.few);
        near = omega (arith, k.near);
      }

-- all bytes before the offset
pub counted :
    (s : List ℕ) (o i f n : ℕ) → o ≤ length s → i ≡ o → Counted s i f n → placed (f + 1) (n + 1) ≡ place_of s o
unfolding place_of
counted s o i f n h e k = rw (le-leb o (length s) h, k.feeds, k.since, e)

pub above : (s : List ℕ) (o : ℕ) → length s < o → placed 0 0 ≡ place_of s o
unfolding place_of
above s o h = rw (lt-leb o (length s) h)

since_bound : (n : ℕ) (l : List ℕ) → since_from n l ≤ n + length l
unfolding since_from
since_bound n [] = omega arith
since_bound n (c ∷ l) = at (eqb c LF) (λ m. since_bound m l)
  where
    at : (b : Bool) → ((m : ℕ) → since_from m l ≤ m + length l) → since_from (cond b 0 (n + 1)) l ≤ n + suc (length l)
    at true rest = omega (arith, rest 0)
    at false rest = omega (arith, rest (n + 1))

-- where no LF stands, each byte counts
since_still : (n : ℕ) (l : List ℕ) → feeds_in l ≡ 0 → since_from n l ≡ n + length l
unfolding since_from feeds_in
since_still n [] h = omega arith
since_still n (c ∷ l) h = at (eqb c LF) h (since_still (n + 1) l)
  where
    at : (b : Bool) → cond b 1 0 + feeds_in l ≡ 0 → (feeds_in l ≡ 0 → since_from (n + 1) l ≡ n + 1 + length l) → since_from (cond b 0 (n + 1)) l ≡ n + suc (length l)
    at true e rest = absurd (omega arith)
    at false e rest = rest (omega arith) ∙ omega arith

-- of two offsets on one line and in one column the later is not later
module _ (s : List ℕ) (a b : ℕ) (h : a ≤ b) (l : b ≤ length s) where
  abbrev between : List ℕ
  between = take (b - a) (drop a s)

  splits : take b s ≡ take a s ++ between
  splits = let sum : b ≡ a + (b - a) = omega arith in ap (λ n. take n s) sum ∙ take-add a (b - a) s

  not_later : feeds_in (take a s) ≡ feeds_in (take b s) → since_from 0 (take a s) ≡ since_from 0 (take b s) → b ≤ a
  not_later f n =
      let still : feeds_in between ≡ 0 = omega (arith, ap feeds_in splits, feeds_append (take a s) between) in
      let same = since_still (since_from 0 (take a s)) between still in
      let long : length between ≡ b - a = simp (length-take, length-drop) (omega arith) in
      omega (arith, n ∙ ap (since_from 0) splits ∙ since_append 0 (take a s) between ∙ same)

within : (s : List ℕ) (o : ℕ) → o ≤ length s → place_of s o ≡ placed (feeds_in (take o s) + 1) (since_from 0 (take o s) + 1)
unfolding place_of
within s o h = rw (le-leb o (length s) h)

-- the column is at most the offset plus 1
pub column_bound : (s : List ℕ) (o : ℕ) → (place_of s o).column ≤ o + 1
column_bound s o = at (leb o (length s)) refl
  where
    at : (b : Bool) → leb o (length s) ≡ b → (place_of s o).column ≤ o + 1
    at true e =
        let l : o ≤ length s = leb-true _ _ e in
        rw (within s o l) (omega (arith, since_bound 0 (take o s), length-take-le o s l))
    at false e = rw (← above s o (leb-false _ _ e)) (omega arith)

-- a place has one offset: two offsets within the source with the same place are equal
pub one_offset : (s : List ℕ) (a b : ℕ) → a ≤ length s → b ≤ length s → place_of s a ≡ place_of s b → a ≡ b
one_offset s a b h l e =
    let same : placed (feeds_in (take a s) + 1) (since_from 0 (take a s) + 1) ≡ placed (feeds_in (take b s) + 1) (since_from 0 (take b s) + 1) = sym (within s a h) ∙ e ∙ within s b l in
    let line : feeds_in (take a s) ≡ feeds_in (take b s) = omega (arith, ap (λ p. p.line) same) in
    let column : since_from 0 (take a s) ≡ since_from 0 (take b s) = omega (arith, ap (λ p. p.column) same) in
    at (leb a b) refl line column
  where
    at : (x : Bool) → leb a b ≡ x → feeds_in (take a s) ≡ feeds_in (take b s) → since_from 0 (take a s) ≡ since_from 0 (take b s) → a ≡ b
    at true q line column = let c : a ≤ b = leb-true _ _ q in omega (arith, not_later s a b c l line column)
    at false q line column =
        let c : b ≤ a = omega (arith, leb-false a b q) in
        omega (arith, not_later s b a c h (sym line) (sym column))
