-- The laws of trivia.
use Prim.Native.Nat.{ℕ, suc, ◌+◌, ◌≤◌, ◌<◌}
use mathlib.Core.Path.{◌≡◌, refl, ap, sym, ◌∙◌}
use mathlib.Core.Bool.{Bool, true, false, not, ◌&&◌}
use mathlib.Core.List.{List, [], ◌∷◌}
use native.Mathlib.Omega.{arith}
use native.Mathlib.Nat.{le_of_lt}
use lib.ListN.{drop, get_or, length, length-drop, get_or-eq_default}
use lib.Seq.{drop-cons, drop-drop, get_or-drop}
use lib.Dec.{eqb, ltb}
use borrow.Author.Tests.{eqb-true, not-false, ltb-true, ltb-false}
use Rattle.quanta_token.specs.Bytes.{blank, goes_on}
use Rattle.quanta_token.specs.declared.bytes.Run.TheVariants.{Blanks, Comment}
use Rattle.quanta_token.specs.Runs.{run, run_end}
use Rattle.quanta_lexer.specs.Trivia.{trivia, trivia_end, comment_at}
use Rattle.quanta_token.proofs.BoolLaws.{both}
use Rattle.quanta_token.proofs.RunLaws.{run_more, run_stop, end_more, end_from, end_within, end_again}

skip_blank : (c : ℕ) (cs : List ℕ) → blank c ≡ true → trivia false (c ∷ cs) ≡ suc (trivia false cs)
unfolding trivia
skip_blank c cs h = rw (h, trivia)

skip_comment : (c : ℕ) (cs : List ℕ) (b : Bool) → not (eqb c 0x0A) ≡ b → trivia true (c ∷ cs) ≡ suc (trivia b cs)
unfolding trivia
skip_comment c cs b h = rw (h, trivia)

-- blanks are skipped
blanks : (l : List ℕ) → trivia false l ≡ run blank l + trivia false (drop (run blank l) l)
unfolding run trivia
blanks [] = refl
blanks (c ∷ cs) = at (blank c) refl (blanks cs)
  where
    at :
        (b : Bool) →
        blank c ≡ b →
        trivia false cs ≡ run blank cs + trivia false (drop (run blank cs) cs) →
        trivia false (c ∷ cs) ≡ run blank (c ∷ cs) + trivia false (drop (run blank (c ∷ cs)) (c ∷ cs))
    at true h ih = rw (run_more blank c cs h, skip_blank c cs h) (omega arith)
    at false h ih = rw (run_stop blank c cs h) (omega arith)

-- an open comment is skipped to before LF
comments : (l : List ℕ) → trivia true l ≡ run (goes_on Comment) l + trivia false (drop (run (goes_on Comment) l) l)
unfolding run trivia
comments [] = refl
comments (c ∷ cs) = at (goes_on Comment c) refl (comments cs)
  where
    at :
        (b : Bool) →
        goes_on Comment c ≡ b →
        trivia true cs ≡ run (goes_on Comment) cs + trivia false (drop (run (goes_on Comment) cs) cs) →
        trivia true (c ∷ cs) ≡ run (goes_on Comment) (c ∷ cs) + trivia false (drop (run (goes_on Comment) (c ∷ cs)) (c ∷ cs))
    at true h ih = rw (run_more (goes_on Comment) c cs h, skip_comment c cs true h) (omega arith)
    at false h ih =
        let e : c ≡ 0x0A = eqb-true c 10 (not-false _ h) in
        rw (run_stop (goes_on Comment) c cs h, skip_comment c cs false h, skip_blank c cs (rw e)) (omega arith)

pub skip_blanks : (s : List ℕ) (i : ℕ) → trivia_end s i ≡ trivia_end s (run_end (goes_on Blanks) s i)
unfolding trivia_end run_end
skip_blanks s i = rw (← drop-drop (run blank (drop i s)) i s) (omega (arith, blanks (drop i s)))

-- a `//` at the front is an open comment
opened : (c : ℕ) (cs : List ℕ) → (eqb c 0x2F && eqb (get_or cs 0 0) 0x2F) ≡ true → trivia false (c ∷ cs) ≡ trivia true (c ∷ cs)
unfolding trivia
opened c cs h =
    let e : c ≡ 0x2F = eqb-true c 0x2F (both (eqb c 0x2F) (eqb (get_or cs 0 0) 0x2F) h).0 in
    let q : eqb (get_or cs 0 0) 0x2F ≡ true = (both (eqb c 0x2F) (eqb (get_or cs 0 0) 0x2F) h).1 in
    rw e (rw (q, trivia))

next : (s : List ℕ) (i : ℕ) → get_or (drop (suc i) s) 0 0 ≡ get_or s (i + 1) 0
next s i = get_or-drop (suc i) s 0 0 ∙ ap (λ (n : ℕ). get_or s n 0) (omega arith)

pub skip_open : (s : List ℕ) (i : ℕ) → i < length s → comment_at s i ≡ true → trivia_end s i ≡ trivia_end s (run_end (goes_on Comment) s i)
unfolding trivia_end run_end
skip_open s i h o =
    let front : trivia false (drop i s) ≡ trivia true (drop i s) = rw (drop-cons s i 0 h) (opened _ _ (rw (next s i) o)) in
    rw (← drop-drop (run (goes_on Comment) (drop i s)) i s) (omega (arith, comments (drop i s)))

-- where neither a blank nor `//` stands at the front, nothing is skipped
shut : (l : List ℕ) → run blank l ≡ 0 → (eqb (get_or l 0 0) 0x2F && eqb (get_or (drop 1 l) 0 0) 0x2F) ≡ false → trivia false l ≡ 0
unfolding trivia
shut [] r o = refl
shut (c ∷ cs) r o = at (blank c) refl
  where
    at : (b : Bool) → blank c ≡ b → trivia false (c ∷ cs) ≡ 0
    at true h = absurd (let e : suc (run blank cs) ≡ 0 = sym (run_more blank c cs h) ∙ r in omega arith)
    at false h = rw (h, o, trivia)

here : (s : List ℕ) (i : ℕ) → get_or (drop i s) 0 0 ≡ get_or s i 0
here s i = get_or-drop i s 0 0 ∙ ap (λ (n : ℕ). get_or s n 0) (omega arith)

pub skip_stop : (s : List ℕ) (i : ℕ) → run_end (goes_on Blanks) s i ≡ i → comment_at s i ≡ false → trivia_end s i ≡ i
unfolding trivia_end run_end
skip_stop s i h o =
    let none : run blank (drop i s) ≡ 0 = omega arith in
    omega (arith, shut (drop i s) none (rw (drop-drop 1 i s, here s i, here s (i + 1)) o))

-- where `//` stands, a comment of at least a byte is open
pub comment_at_within : (s : List ℕ) (i : ℕ) → comment_at s i ≡ true → i < length s
comment_at_within s i o = at (ltb i (length s)) refl
  where
    at : (b : Bool) → ltb i (length s) ≡ b → i < length s
    at true h = ltb-true _ _ h
    at false h =
        let z : get_or s i 0 ≡ 0 = get_or-eq_default s 0 (ltb-false _ _ h) in
        let f : eqb (get_or s i 0) 0x2F ≡ true = (both (eqb (get_or s i 0) 0x2F) (eqb (get_or s (i + 1) 0) 0x2F) o).0 in
        let e : get_or s i 0 ≡ 0x2F = eqb-true _ _ f in
        omega arith

pub open_moves : (s : List ℕ) (i : ℕ) → comment_at s i ≡ true → i < run_end (goes_on Comment) s i
open_moves s i o =
    let f : eqb (get_or s i 0) 0x2F ≡ true = (both (eqb (get_or s i 0) 0x2F) (eqb (get_or s (i + 1) 0) 0x2F) o).0 in
    let e : get_or s i 0 ≡ 0x2F = eqb-true _ _ f in
    omega (arith, end_more (goes_on Comment) s i (comment_at_within s i o) (rw e), end_from (goes_on Comment) s (i + 1))

-- one turn: from i the blanks end at j, where nothing comment_at a comment
pub turn_stop : (s : List ℕ) (i j : ℕ) → j ≡ run_end (goes_on Blanks) s i → comment_at s j ≡ false → trivia_end s i ≡ j
turn_stop s i j e o =
    let again : run_end (goes_on Blanks) s j ≡ j = rw e (end_again (goes_on Blanks) s i) in
    skip_blanks s i ∙ ap (trivia_end s) (sym e) ∙ skip_stop s j again o

-- one turn: from i the blanks end at j, where a comment comment_at, which ends at k
pub turn_more :
    (s : List ℕ) (i j k : ℕ) →
    i ≤ length s →
    j ≡ run_end (goes_on Blanks) s i →
    comment_at s j ≡ true →
    k ≡ run_end (goes_on Comment) s j →
    (i < k) × (k ≤ length s) × (trivia_end s i ≡ trivia_end s k)
turn_more s i j k h e o f = (
  omega (arith, end_from (goes_on Blanks) s i, open_moves s j o),
  omega (arith, end_within (goes_on Comment) s j (le_of_lt (comment_at_within s j o))),
  skip_blanks s i ∙ ap (trivia_end s) (sym e) ∙ skip_open s j (comment_at_within s j o) o ∙ ap (trivia_end s) (sym f),
)

skip_length : (open? : Bool) (l : List ℕ) → trivia open? l ≤ length l
unfolding trivia
skip_length o [] = omega arith
skip_length true (c ∷ cs) = let h = skip_length (not (eqb c 0x0A)) cs in omega arith
skip_length false (c ∷ cs) = at (blank c) refl (skip_length false cs) (skip_length true cs)
  where
    at : (b : Bool) → blank c ≡ b → trivia false cs ≤ length cs → trivia true cs ≤ length cs → trivia false (c ∷ cs) ≤ length (c ∷ cs)
    at true e f g = rw (skip_blank c cs e) (omega arith)
    at false e f g = by (eqb c 0x2F && eqb (get_or cs 0 0) 0x2F) refl
      where
        by : (b : Bool) → (eqb c 0x2F && eqb (get_or cs 0 0) 0x2F) ≡ b → trivia false (c ∷ cs) ≤ length (c ∷ cs)
        by true o = rw (e, o, trivia) (omega arith)
        by false o = rw (e, o, trivia) (omega arith)

pub skip_bounds : (s : List ℕ) (i j : ℕ) → i ≤ length s → j ≡ trivia_end s i → (i ≤ j) × (j ≤ length s)
unfolding trivia_end
skip_bounds s i j h e = rw e (omega arith, omega (arith, skip_length false (drop i s), length-drop i s))
