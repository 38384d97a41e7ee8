-- What is made of the parser's answer, by the way that it goes.
-- Assumes nothing.
use Rattle.std.specs.Prelude.{Err, Ok, Result}
use mathlib.Core.Path.{◌≡◌, ap, sym, ◌∙◌}
use mathlib.Core.List.{List, [], ◌++◌, append-nil}
use Prim.Native.Nat.{ℕ, ◌-◌, ◌*◌, ◌/◌, ◌≤◌, ◌<◌}
use native.Mathlib.Omega.{arith}
use borrow.Author.Tests.{lt-ltb, le-ltb}
use lib.ListN.{length, take, drop, replicate, length-drop, drop_of_length-le}
use lib.Seq.{take_all}
use Rattle.quanta_cursor.specs.declared.parser.Node.{Node}
use Rattle.quanta_cursor.specs.declared.parser.Refusal.{Refusal}
use Rattle.quanta_reading.specs.declared.answer.Failure.TheVariants.{Syntax, NoTreeRoom}
use Rattle.quanta_reading.specs.Reading.{Answer, counted}
use Rattle.quanta_reading.specs.Finish.{ended, kept}

module _ (t : List ℕ) (n : ℕ) (q : Result Node Refusal) where
  by : {r : Answer} {t₂ : List ℕ} → r ≡ ended (length t) n q → t₂ ≡ kept t r → (r ≡ ended (length t) n q) × (t₂ ≡ kept t (ended (length t) n q))
  by e w = (e, w ∙ ap (kept t) e)

  pub refused : {e : Refusal} {t₂ : List ℕ} → q ≡ Err e → t₂ ≡ replicate (length t) 0 → (Err (Syntax e) ≡ ended (length t) n q) × (t₂ ≡ kept t (ended (length t) n q))
  refused z w = by (ap (ended (length t) n) (sym z)) w

  module _ {m : Node} (z : q ≡ Ok m) where
    pub no_room : {t₂ : List ℕ} → length t / 6 < m.no.0 → t₂ ≡ replicate (length t) 0 → (Err (NoTreeRoom m.no.0) ≡ ended (length t) n q) × (t₂ ≡ kept t (ended (length t) n q))
    no_room h w = by (rw (z, lt-ltb (length t / 6) m.no.0 h)) w

    -- the records stay, with zeros in the place of what was behind them
    pub room : {z : List ℕ} → m.no.0 ≤ length t / 6 → z ≡ replicate (length (take (length t - 6 * m.no.0) (drop (6 * m.no.0) t))) 0
        → (counted n m.no.0 ≡ ended (length t) n q) × (take (6 * m.no.0) t ++ (z ++ drop (length t - 6 * m.no.0) (drop (6 * m.no.0) t)) ≡ kept t (ended (length t) n q))
    room {z = zs} h w =
        let k = 6 * m.no.0 in
        let left : length (drop k t) ≤ length t - k = omega (arith, length-drop k t) in
        let none : drop (length t - k) (drop k t) ≡ [] = drop_of_length-le (drop k t) left in
        let many : length (take (length t - k) (drop k t)) ≡ length t - k = ap length (take_all (length t - k) (drop k t) left) ∙ omega (arith, length-drop k t) in
        by (rw (z, le-ltb (length t / 6) m.no.0 h))
        (ap (λ (u : List ℕ). take k t ++ (zs ++ u)) none ∙ ap (λ (u : List ℕ). take k t ++ u) (append-nil zs ∙ w ∙ ap (λ (i : ℕ). replicate i 0) many))
