-- The list of clauses: what its next token tells, and one turn of its loop.
-- Assumes nothing.
use Rattle.std.specs.Prelude.{IsErrAnd, Ok, Result}
use mathlib.Core.Path.{◌≡◌, refl, sym, subst}
use mathlib.Core.Bool.{Bool, true, false}
use mathlib.Core.List.{List}
use Prim.Native.Nat.{ℕ, ◌+◌, ◌<◌, ◌≤◌}
use native.Mathlib.Omega.{arith}
use lib.Dec.{T, ltb}
use lib.ListN.{length}
use borrow.Author.Tests.{ltb-true, ltb-false}
use Rattle.grammar.specs.Grammar.{has}
use Rattle.grammar.specs.Records.{fresh}
use Rattle.quanta_token.specs.TokenKind.{code, Writes, Reads, Conserves, Mints, Burns, Limits, Denies, After, Eof}
use Rattle.quanta_grammar.specs.Productions.{clause, clauses}
use Rattle.quanta_grammar.specs.Guides.{clause_start}
use Rattle.quanta_grammar.specs.Reading.{reads}
use Rattle.quanta_grammar.specs.Refine.{Text}
use Rattle.quanta_cursor.specs.declared.parser.TokenPos.{TokenPos}
use Rattle.quanta_cursor.specs.declared.parser.RecordNo.{RecordNo}
use Rattle.quanta_cursor.specs.Tokens.{kind_at, from, fine_at, Ready}
use Rattle.quanta_cursor.specs.Answers.{Failed, Took, Meets, Lists}
use Rattle.quanta_cursor.proofs.Sets.{fine_in, fine_out, is_in, not_in}
use Rattle.quanta_cursor.proofs.Lists.{roll_in, run_stop, rolled, clauses_run}
use Rattle.quanta_cursor.proofs.Listing.{Rolling, runs_bad}
use Rattle.quanta_cursor.proofs.Meeting.{took_of, took_all, fails_all}
use Rattle.quanta_clause.specs.Clauses.{of_names, of_name, of_expr}
use Rattle.quanta_clause.proofs.Clauses.{has_two, has_three}
use Rattle.quanta_cursor.specs.declared.parser.Node.{Node}
use Rattle.quanta_cursor.specs.declared.parser.Nodes.{Nodes}
use Rattle.quanta_cursor.specs.declared.parser.Refusal.{Refusal}

-- WHAT THE NEXT TOKEN TELLS, by the numbers that the code compared
at_or : {A : Type 0} (c k : ℕ) → c ≤ k → (k ≡ c → A) → (c + 1 ≤ k → A) → A
at_or {A} c k h f g = go (ltb c k) refl
  where
    go : (b : Bool) → ltb c k ≡ b → A
    go true e = let z = ltb-true c k e in g (omega arith)
    go false e = let z = ltb-false c k e in f (omega arith)

module _ {j k : ℕ} (e : j ≡ k) where
  pub is_name : code Mints ≤ j → j < code Writes → T (has of_name k)
  is_name h l = at_or (code Mints) j h (λ z. is_in of_name (code Mints) e z tt) (λ h. at_or (code Burns) j h (λ z. is_in of_name (code Burns) e z tt) (λ h. is_in of_name (code Conserves) e (omega arith) tt))

  pub is_names : code Writes ≤ j → j < code Limits → T (has of_names k)
  is_names h l = at_or (code Writes) j h (λ z. is_in of_names (code Writes) e z tt) (λ h. is_in of_names (code Reads) e (omega arith) tt)

  pub is_expr : code Limits ≤ j → j < code Denies + 1 → T (has of_expr k)
  is_expr h l = at_or (code Limits) j h (λ z. is_in of_expr (code Limits) e z tt) (λ h. is_in of_expr (code Denies) e (omega arith) tt)

-- a clause begins there, or none
module _ (src : Text) (ws : List ℕ) (i : ℕ) where
  starts : T (has clause_start (kind_at ws i)) → T (has clause_start (fine_at src ws i))
  starts t = fine_in clause_start tt src ws i t

  pub names_start : T (has of_names (kind_at ws i)) → T (has clause_start (fine_at src ws i))
  names_start w = starts (has_two (kind_at ws i) (code Writes) (code Reads) w (λ e. is_in clause_start (code Writes) refl e tt) (λ e. is_in clause_start (code Reads) refl e tt))

  pub name_start : T (has of_name (kind_at ws i)) → T (has clause_start (fine_at src ws i))
  name_start w =
      starts (has_three (kind_at ws i) (code Conserves) (code Mints) (code Burns) w (λ e. is_in clause_start (code Conserves) refl e tt) (λ e. is_in clause_start (code Mints) refl e tt) (λ e. is_in clause_start (code Burns) refl e tt))

  pub expr_start : T (has of_expr (kind_at ws i)) → T (has clause_start (fine_at src ws i))
  expr_start w = starts (has_two (kind_at ws i) (code Limits) (code Denies) w (λ e. is_in clause_start (code Limits) refl e tt) (λ e. is_in clause_start (code Denies) refl e tt))

  pub after_start : kind_at ws i ≡ code After → T (has clause_start (fine_at src ws i))
  after_start e = starts (is_in clause_start (code After) refl e tt)

  no_start : {j : ℕ} → j ≡ kind_at ws i → kind_at ws i ≤ code Eof → (j ≡ code After → ⊥)
      → ((c : ℕ) → code Mints ≤ c → c ≤ code Denies → j ≡ c → ⊥) → T (has clause_start (fine_at src ws i)) → ⊥
  no_start e h n m =
      fine_out clause_start tt src ws i (not_in clause_start e h (
        m (code Writes) (omega arith) (omega arith),
        (
          m (code Reads) (omega arith) (omega arith),
          (
            m (code Conserves) (omega arith) (omega arith),
            (
              m (code Mints) (omega arith) (omega arith),
              (m (code Burns) (omega arith) (omega arith), (m (code Limits) (omega arith) (omega arith), (m (code Denies) (omega arith) (omega arith), (n, tt)))),
            ),
          ),
        ),
      ))

-- ONE TURN: the clause at i was read, and it is m
pub record Turn (src : Text) (ws : List ℕ) (a i n : ℕ) (t : List ℕ) (m : Node) (t' : List ℕ) : Type 0 where
  pub goes : T (has clause_start (fine_at src ws i))
  pub took : Took (reads clause a (from src ws i) fresh) src ws t n m t'
  pub long : length t' ≡ length t

pub turned : {src : Text} {ws : List ℕ} {a i n : ℕ} {t : List ℕ} {r : Result Node Refusal}
    {m m' : Node} {t' t'' : List ℕ}
    → T (has clause_start (fine_at src ws i)) → m' ≡ m → t'' ≡ t' → r ≡ Ok m
    → Meets (reads clause a (from src ws i) fresh) src ws t n r t' → length t' ≡ length t
    → Turn src ws a i n t m' t''
turned {src} {ws} {a} {i} {n} {t} {m' = m'} {t'} g e f z v l =
    subst (λ (t' : List ℕ). Turn src ws a i n t m' t') (sym f)
    (subst (λ (m : Node). Turn src ws a i n t m t') (sym e) (record { goes = g; took = took_of z v; long = l }))

-- .. or it was refused
pub refused : {src : Text} {ws : List ℕ} {a i n p q c : ℕ} {t tree t' : List ℕ} {r : Result Nodes Refusal} {u : Refusal}
    → IsErrAnd r (λ y. y ≡ u) → Ready ws i n → Rolling clauses src ws a i n 0 t p q c tree
    → T (has clause_start (fine_at src ws p)) → Failed (reads clause a (from src ws p) fresh) u
    → Lists src clauses ws i n a t r t'
refused {a = a} h g v s f = fails_all h (runs_bad clauses_run a g v s fresh f)

-- THE END of the list
pub clauses_end : {src : Text} {ws : List ℕ} {a i n : ℕ} {t : List ℕ} {p : TokenPos} {q : RecordNo} {c : ℕ}
    {tree : List ℕ} → Ready ws i n → Rolling clauses src ws a i n 0 t p.0 q.0 c tree → {j : ℕ} → j ≡ kind_at ws p.0
    → (j ≡ code After → ⊥) → ((k : ℕ) → code Mints ≤ k → k ≤ code Denies → j ≡ k → ⊥)
    → Lists src clauses ws i n a t (Ok (record { at = p; no = q; count = c })) tree
clauses_end {src} {ws} {a} {i} {n} {t} {p} b v e o m =
    let none = no_start src ws p.0 e (b.closed.known p.0 v.ready.inside).1 o m in
    let g = v.carries (reads clauses a (from src ws i) fresh) t n fresh (roll_in fresh refl) in
    took_all (rolled g (run_stop g clauses_run v.ready.inside none) v.ready.inside)
