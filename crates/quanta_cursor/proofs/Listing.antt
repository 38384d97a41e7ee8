-- Lists in the midst of a production: one element and those behind commas, on top of what is left so far.
-- Assumes nothing.
use Rattle.std.specs.Prelude.{Err, Ok, Result}
use mathlib.Core.Path.{◌≡◌, refl, ap, sym, subst, ◌∙◌}
use mathlib.Core.Bool.{Bool, not}
use mathlib.Core.List.{List, [], ◌∷◌}
use Prim.Native.Nat.{ℕ, ◌+◌, ◌<◌, ◌≤◌, zero-le}
use native.Mathlib.Omega.{arith}
use lib.Dec.{T}
use lib.ListN.{length}
use Rattle.grammar.specs.Grammar.{Tok, next, Items, sub}
use Rattle.grammar.specs.Records.{Acc, Leaf, pass, fold, Reach, apart, Mark, fresh, beside}
use Rattle.grammar.specs.Fused.{Outcome, left}
use Rattle.grammar.proofs.Fuse.{onward, onward_onward, fits}
use Rattle.grammar.proofs.Lines.{mark, fit_yes, unminded}
use Rattle.grammar.proofs.Loops.{onward_same}
use Rattle.quanta_grammar.specs.Productions.{Symbol, grammar}
use Rattle.quanta_grammar.specs.Reading.{targets, reads}
use Rattle.quanta_grammar.proofs.Steps.{go}
use Rattle.quanta_cursor.specs.declared.parser.Node.{Node}
use Rattle.quanta_cursor.specs.declared.parser.Nodes.{Nodes}
use Rattle.quanta_cursor.specs.declared.parser.Refusal.{Refusal}
use Rattle.quanta_cursor.specs.Tokens.{fine_at, from, Ready}
use Rattle.quanta_cursor.specs.Answers.{Failed, Took}
use Rattle.quanta_cursor.proofs.Places.{took_onward, took_ready}
use Rattle.quanta_cursor.proofs.Meeting.{failed_onward}
use Rattle.quanta_cursor.proofs.Doing.{Doing}
use Rattle.quanta_cursor.proofs.Lists.{Run, Rolls, roll_in, run_on, run_bad, run_stop, took_more}
use Rattle.quanta_cursor.specs.Lists.{TookOn, AnswersOn, ListsOn}
use Rattle.quanta_grammar.specs.Refine.{Text}

-- an answer that is taken apart
module _ {o : Outcome} {x : Acc} {src : Text} {ws t : List ℕ} {n : ℕ} {r : Result Nodes Refusal} {t' : List ℕ} where
  pub on_of : {m : Nodes} → r ≡ Ok m → ListsOn o x src ws t n r t' → TookOn o x src ws t n m t'
  on_of z m = subst (λ (r : Result Nodes Refusal). AnswersOn o x src ws t n r t') z m.by

  pub on_failed_of : {e : Refusal} → r ≡ Err e → ListsOn o x src ws t n r t' → Failed o e
  on_failed_of z m = subst (λ (r : Result Nodes Refusal). AnswersOn o x src ws t n r t') z m.by

-- an element s and the rest l of the list, as two parts of a production
module _ {o : Outcome} {src : Text} {ws : List ℕ} {t₀ : Tok} {ms : List Mark} {is : Items grammar} {a p : ℕ} {x : Acc} {y y' : Leaf} {r : Reach} {s l : Symbol}
    (d : Doing o src ws t₀ (mark y pass apart [] ∷ mark y' fold r [] ∷ ms) (sub s ∷ sub l ∷ is) a p x) (h : T (not (targets.minds s))) where
  whole : o ≡ onward (onward (reads s a (from src ws p) fresh) (λ z q. reads l a q (beside apart x z))) (λ z q. go t₀ ms is a q z)
  whole =
      d.so ∙ onward_same (reads s a (from src ws p) fresh) _ _ (λ z q. fit_yes (fits targets s z (next q)) _ _ (unminded (targets.minds s) (targets.suits z (next q)) h))
      ∙ sym (onward_onward (reads s a (from src ws p) fresh) (λ z q. reads l a q (beside apart x z)) (λ z q. go t₀ ms is a q z))

  pub list_in : {z : Acc} {p' : ℕ} → onward (reads s a (from src ws p) fresh) (λ z q. reads l a q (beside apart x z)) ≡ left z (from src ws p') → Doing o src ws t₀ ms is a p' z
  list_in e = record { so = whole ∙ ap (λ (o : Outcome). onward o (λ z q. go t₀ ms is a q z)) e }

  pub list_fails : {e : Refusal} → Failed (onward (reads s a (from src ws p) fresh) (λ z q. reads l a q (beside apart x z))) e → Failed o e
  list_fails f = failed_onward (λ z q. go t₀ ms is a q z) whole f

-- a list whose first element is refused
pub list_none : {o : Outcome} (l : Symbol) (a : ℕ) (x : Acc) {e : Refusal} → Failed o e → Failed (onward o (λ y r. reads l a r (beside apart x y))) e
list_none l a x f = failed_onward (λ y r. reads l a r (beside apart x y)) refl f

-- THE INVARIANT OF A LOOP OVER A LIST at one source: what is under way at its start is under way here
pub record Rolling (l : Symbol) (src : Text) (ws : List ℕ) (a p₀ q₀ c₀ : ℕ) (tree₀ : List ℕ) (p q c : ℕ) (tree : List ℕ) : Type 0 where
  pub carries : (o : Outcome) (t : List ℕ) (n : ℕ) (x : Acc) → Rolls l o src ws t n x a p₀ q₀ c₀ tree₀ → Rolls l o src ws t n x a p q c tree
  pub ready : Ready ws p q
  pub few : c ≤ q
  pub long : length tree ≡ length tree₀

pub rolling_in : {l : Symbol} {src : Text} {ws : List ℕ} {a p q c : ℕ} {tree : List ℕ} → Ready ws p q → c ≤ q → Rolling l src ws a p q c tree p q c tree
rolling_in g h = record { carries = λ o t n x r. r; ready = g; few = h; long = refl }

-- A LIST THAT RUNS as long as the next kind tells so: elements s one after the other
module _ {l s : Symbol} {goes : ℕ → Bool} (law : Run l s goes) {src : Text} {ws : List ℕ} (a : ℕ) {i : ℕ} {t : List ℕ} {n : ℕ} (g : Ready ws i n) where
  pub run_begun : Rolling l src ws a i n 0 t i n 0 t
  run_begun = rolling_in g zero-le

  module _ {p q c : ℕ} {tree : List ℕ} (v : Rolling l src ws a i n 0 t p q c tree) where
    run_rolls : (x : Acc) → Rolls l (reads l a (from src ws i) x) src ws t n x a p q c tree
    run_rolls x = v.carries (reads l a (from src ws i) x) t n x (roll_in x refl)

    -- its end
    pub runs_out : {r : Nodes} (x : Acc) → (T (goes (fine_at src ws p)) → ⊥) → r.at.0 ≡ p → r.no.0 ≡ q → r.count ≡ c → TookOn (reads l a (from src ws i) x) x src ws t n r tree
    runs_out x z e f h =
        record {
          row = (run_rolls x).row;
          gave = run_stop (run_rolls x) law v.ready.inside z ∙ rw e refl;
          many = h ∙ (run_rolls x).many;
          laid = rw f (run_rolls x).laid;
          ready = rw (e, f) v.ready;
        }

    -- one more element
    module _ (z : T (goes (fine_at src ws p))) where
      pub runs_bad : {u : Refusal} (x : Acc) → Failed (reads s a (from src ws p) fresh) u → Failed (reads l a (from src ws i) x) u
      runs_bad x f = run_bad (run_rolls x) law v.ready.inside z f

      module _ {m : Node} {tree' : List ℕ} (u : Took (reads s a (from src ws p) fresh) src ws tree q m tree') where
        pub runs_on : {c' : ℕ} → c' ≡ c + 1 → length tree' ≡ length tree → Rolling l src ws a i n 0 t m.at.0 m.no.0 c' tree'
        runs_on {c'} f w =
            let y = took_more u in
            record {
              carries = λ o t n x b. run_on (v.carries o t n x b) law v.ready.inside z u f;
              ready = took_ready src s a v.ready u;
              few = omega (arith, v.few);
              long = w ∙ v.long;
            }

        pub runs_less : p < m.at.0
        runs_less = (took_onward src s a v.ready.inside u).0
