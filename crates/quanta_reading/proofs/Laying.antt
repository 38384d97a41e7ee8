-- Records that are laid from the first on, where there is room for them: their words stand at the front, and the length stays.
-- Assumes nothing.
use mathlib.Core.Path.{◌≡◌, refl, ap, sym, ◌∙◌}
use mathlib.Core.Bool.{Bool, true, false, cond}
use mathlib.Core.List.{List, [], ◌∷◌, ◌++◌, append-nil, append_assoc}
use Prim.Native.Nat.{ℕ, suc, ◌+◌, ◌-◌, ◌*◌, ◌/◌, ◌≤◌, ◌<◌}
use native.Mathlib.Omega.{arith}
use borrow.Author.Tests.{lt-ltb, ltb-false}
use lib.Dec.{ltb}
use lib.ListN.{length, take, drop, set, replicate, length-append, length-set}
use lib.Seq.{sets, sets-eq, length-take-le, take_at}
use Rattle.grammar.specs.Records.{Rec}
use Rattle.quanta_cursor.specs.Tree.{put_rec, lay}
use Rattle.quanta_reading.specs.Reading.{in_room, record_words, tree_words}
use Rattle.quanta_reading.specs.Finish.{kept}

abbrev six : Rec → List ℕ
six r = r.kind ∷ r.flag ∷ r.own ∷ r.start ∷ r.stop ∷ r.count ∷ []

stores : (t : List ℕ) (r : Rec) (i a b c d e : ℕ) → a ≡ suc i → b ≡ suc (suc i) → c ≡ suc (suc (suc i)) → d ≡ suc (suc (suc (suc i))) → e ≡ suc (suc (suc (suc (suc i))))
    → set (set (set (set (set (set t i r.kind) a r.flag) b r.own) c r.start) d r.stop) e r.count ≡ sets t i (six r)
stores t r i a b c d e p q u v w = rw (p, q, u, v, w)

put_room : (t : List ℕ) (n : ℕ) (r : Rec) → n < length t / 6 → put_rec t n r ≡ sets t (n * 6) (six r)
unfolding put_rec
put_room t n r h = rw (lt-ltb n (length t / 6) h) (stores t r (n * 6) (n * 6 + 1) (n * 6 + 2) (n * 6 + 3) (n * 6 + 4) (n * 6 + 5) (omega arith) (omega arith) (omega arith) (omega arith) (omega arith))

put_length : (t : List ℕ) (n : ℕ) (r : Rec) → length (put_rec t n r) ≡ length t
unfolding put_rec
put_length t n r = at (ltb n (length t / 6))
  where
    at : (b : Bool)
        → length (cond b (set (set (set (set (set (set t (n * 6) r.kind) (n * 6 + 1) r.flag) (n * 6 + 2) r.own) (n * 6 + 3) r.start) (n * 6 + 4) r.stop) (n * 6 + 5) r.count) t) ≡ length t
    at true = simp length-set
    at false = refl

pub lay_length : (t : List ℕ) (n : ℕ) (rs : List Rec) → length (lay t n rs) ≡ length t
unfolding lay
lay_length t n [] = refl
lay_length t n (r ∷ rs) = lay_length (put_rec t n r) (n + 1) rs ∙ put_length t n r

put_front : (t : List ℕ) (n : ℕ) (r : Rec) → 6 * (n + 1) ≤ length t → take (6 * (n + 1)) (put_rec t n r) ≡ take (6 * n) t ++ six r
put_front t n r h =
    let e : n * 6 ≡ 6 * n = omega arith in
    let l : length (take (n * 6) t ++ six r) ≡ 6 * (n + 1) = omega (arith, length-append (take (n * 6) t) (six r), length-take-le (n * 6) t (omega arith)) in
    ap (λ (u : List ℕ). take (6 * (n + 1)) u) (put_room t n r (omega arith) ∙ sets-eq (six r) t (n * 6) (omega arith))
    ∙ take_at (take (n * 6) t ++ six r) (drop (n * 6 + 6) t) (6 * (n + 1)) l
    ∙ ap (λ (k : ℕ). take k t ++ six r) e

lay_front : (t : List ℕ) (n : ℕ) (rs : List Rec) → 6 * (n + length rs) ≤ length t → take (6 * (n + length rs)) (lay t n rs) ≡ take (6 * n) t ++ record_words rs
unfolding lay
lay_front t n [] h = let e : 6 * (n + 0) ≡ 6 * n = omega arith in ap (λ (k : ℕ). take k t) e ∙ sym (append-nil (take (6 * n) t))
lay_front t n (r ∷ rs) h =
    let e : 6 * (n + suc (length rs)) ≡ 6 * (n + 1 + length rs) = omega arith in
    ap (λ (k : ℕ). take k (lay (put_rec t n r) (n + 1) rs)) e
    ∙ lay_front (put_rec t n r) (n + 1) rs (omega (arith, put_length t n r))
    ∙ ap (λ (u : List ℕ). u ++ record_words rs) (put_front t n r (omega arith))
    ∙ append_assoc (take (6 * n) t) (six r) (record_words rs)

front : (t : List ℕ) (rs : List Rec) → 6 * length rs ≤ length t → take (6 * length rs) (lay t 0 rs) ≡ record_words rs
front t rs h = let e : 6 * length rs ≡ 6 * (0 + length rs) = omega arith in ap (λ (k : ℕ). take k (lay t 0 rs)) e ∙ lay_front t 0 rs (omega arith)

-- WHAT IS KEPT of a tree over which the records were laid is what the reading says
pub kept_is : (t t₁ : List ℕ) (n : ℕ) (rs : List Rec) (b : Bool) → ltb (length t / 6) (length rs) ≡ b → t₁ ≡ lay t 0 rs → kept t₁ (in_room b n (length rs)) ≡ tree_words (length t) rs (in_room b n (length rs))
kept_is t t₁ n rs true e w = ap (λ (k : ℕ). replicate k 0) (ap length w ∙ lay_length t 0 rs)
kept_is t t₁ n rs false e w =
    let h = ltb-false (length t / 6) (length rs) e in
    ap (λ (u : List ℕ). take (6 * length rs) u ++ replicate (length u - 6 * length rs) 0) w
    ∙ ap (λ (u : List ℕ). u ++ replicate (length (lay t 0 rs) - 6 * length rs) 0) (front t rs (omega arith))
    ∙ ap (λ (k : ℕ). record_words rs ++ replicate (k - 6 * length rs) 0) (lay_length t 0 rs)
