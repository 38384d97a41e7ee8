-- A statement without a keyword: an expression by itself, or an assignment to it.
-- Assumes nothing.
use Rattle.std.specs.Prelude.{Option, Some, None, Result}
use mathlib.Core.Path.{◌≡◌, refl, ap, sym, subst, ◌∙◌}
use mathlib.Core.Bool.{Bool, true, false}
use mathlib.Core.List.{List, [], ◌∷◌}
use Prim.Native.Nat.{ℕ, ◌+◌}
use native.Mathlib.Omega.{arith}
use lib.Dec.{T}
use Rattle.grammar.specs.Grammar.{one, sub, has}
use Rattle.grammar.specs.Records.{Acc, none, put, fresh, nothing, own, pass, fold, apart, widens, make, leave, flag_of}
use Rattle.grammar.specs.Reader.{use', Choice}
use Rattle.grammar.specs.Fused.{Outcome}
use Rattle.grammar.proofs.Lines.{mark}
use Rattle.quanta_token.specs.TokenKind.{code, Guard, Let, Emit, Semi}
use Rattle.quanta_grammar.specs.NodeKind.{node_code, assign_node, expr_node}
use Rattle.quanta_grammar.specs.RefusalKind.{refusal_code, bad_target}
use Rattle.quanta_grammar.specs.Productions.{Production, outs, assigns, expr, stmt, subject, tail}
use Rattle.quanta_grammar.specs.Productions.{guard_stmt, let_stmt, emit_stmt, assign_or_expr_stmt}
use Rattle.quanta_grammar.specs.Productions.{subject_expr, assign_tail, semi_tail}
use Rattle.quanta_grammar.specs.Reading.{reads}
use Rattle.quanta_grammar.specs.Refine.{Text}
use Rattle.quanta_cursor.specs.declared.parser.Node.{Node}
use Rattle.quanta_cursor.specs.declared.parser.Refusal.{Refusal}
use Rattle.quanta_cursor.specs.Tokens.{kind_at, from, fine_at, tok_at, Ready}
use Rattle.quanta_cursor.specs.Answers.{single, Failed, Took, Meets}
use Rattle.quanta_cursor.specs.Cursor.{joined, span_at, close_rec, Closes}
use Rattle.quanta_cursor.proofs.Sets.{Apart, apart as apart_from, fine_kind, fine_in, fine_out, not_one}
use Rattle.quanta_cursor.proofs.Places.{past_in, ready_past, took_ready, laid_glue}
use Rattle.quanta_cursor.proofs.Meeting.{failed_as, meets_as}
use Rattle.quanta_cursor.proofs.Doing.{Doing, picks, skips, begin, eat, bring, fails, suits, unsuits, last, over, seal}
use Rattle.quanta_stmt.specs.Targets.{lvalues, Assignment, Keyless}

abbrev bare : Choice (Production stmt)
bare = use' assign_or_expr_stmt

-- the target rule, as `targets` has it
abbrev fitting : Bool → Bool → Bool
fitting b b' = elim b [ true ↦ b' | false ↦ true ]

fits_none : (b b' : Bool) → (T b → ⊥) → T (fitting b b')
fits_none true b' n = absurd (n tt)
fits_none false b' n = tt

fits_target : (b b' : Bool) → T b → T (fitting b b') → T b'
fits_target true b' t u = u
fits_target false b' t u = absurd t

target_fits : (b b' : Bool) → T b' → T (fitting b b')
target_fits true b' t = t
target_fits false b' t = tt

is_true : (b : Bool) → T b → true ≡ b
is_true true t = refl
is_true false t = absurd t

is_false : (b : Bool) → (T b → ⊥) → false ≡ b
is_false true n = absurd (n tt)
is_false false n = refl

pub is_target_lem : {k : ℕ} (c : ℕ) → k ≡ c → T (has lvalues c) → true ≡ has lvalues k
is_target_lem {k} c e t = is_true (has lvalues k) (subst (λ (i : ℕ). T (has lvalues i)) (sym e) t)

pub not_target : {k : ℕ} → Apart lvalues k → false ≡ has lvalues k
not_target {k} a = is_false (has lvalues k) (apart_from lvalues k a)

-- `!` of a test
denied : (b : Bool) → b ≡ false → T b → ⊥
denied b e t = subst T e t

granted : (b : Bool) → b ≡ true → T b
granted b e = subst T (sym e) tt

-- behind the operator there is a token
pub assign_ready : {ws : List ℕ} {i n p : ℕ} → Ready ws i n → T (has assigns (kind_at ws i)) → p ≡ i + 1 → Ready ws p n
assign_ready g t e = ready_past g (past_in assigns (λ u. u) g.closed g.inside t) e

-- WHAT ASSIGNS: an arm of the table, and the last one
abbrev Flag : ℕ → ℕ → Type 0
Flag k f = T (has assigns k) × (f ≡ flag_of outs.flags (node_code assign_node) k)

pub assign_is : (c : ℕ) {k f : ℕ} → k ≡ c → Flag c f → Assignment k (Some f)
assign_is c {k} {f} e t = record { by = subst (λ (i : ℕ). Flag i f) (sym e) t }

pub assign_none : {k : ℕ} → Apart assigns k → Assignment k None
assign_none {k} a = record { by = apart_from assigns k a }

-- .. at a token
module _ {j k : ℕ} (e : j ≡ k) {r : Option ℕ} (v : Assignment j r) where
  pub assigned : {f : ℕ} → r ≡ Some f → Flag k f
  assigned {f} z =
      subst (λ (i : ℕ). Flag i f) e (subst (λ (r : Option ℕ). Assignment j r) z v).by

  pub unassigned : r ≡ None → T (has assigns k) → ⊥
  unassigned z t = (subst (λ (r : Option ℕ). Assignment j r) z v).by (subst (λ (i : ℕ). T (has assigns i)) (sym e) t)

module _ (src : Text) (a : ℕ) {ws : List ℕ} {at n : ℕ} (b : Ready ws at n × Keyless (kind_at ws at)) where
  abbrev whole : Outcome
  whole = reads stmt a (from src ws at) fresh

  plain : Doing whole src ws (tok_at src ws at) (mark nothing pass widens [] ∷ mark nothing fold apart [] ∷ [])
      (sub subject ∷ sub tail ∷ []) a at fresh
  plain =
      begin src ws at b.0.inside stmt assign_or_expr_stmt a fresh
      (skips (code Guard ∷ []) guard_stmt ((code Let ∷ [], let_stmt) ∷ (code Emit ∷ [], emit_stmt) ∷ [])
      bare tt src ws at (not_one (code Guard) b.1.guard)
      ∙ skips (code Let ∷ []) let_stmt ((code Emit ∷ [], emit_stmt) ∷ []) bare tt src ws at
      (not_one (code Let) b.1.let')
      ∙ skips (code Emit ∷ []) emit_stmt [] bare tt src ws at (not_one (code Emit) b.1.emit)) refl

  subject_of : Doing (reads subject a (from src ws at) fresh) src ws (tok_at src ws at)
      (mark nothing pass widens [] ∷ []) (sub expr ∷ []) a at fresh
  subject_of = begin src ws at b.0.inside subject subject_expr a fresh refl refl

  pub subject_bad : {u : Refusal} → Failed (reads expr a (from src ws at) fresh) u → Failed whole u
  subject_bad f = fails plain (fails subject_of f)

  module _ {t : List ℕ} {m : Node} {tree : List ℕ}
      (k : Took (reads expr a (from src ws at) fresh) src ws t n m tree) where
    abbrev behind : Acc
    behind = single k.top k.below m.span

    abbrev goes : Bool
    goes = has assigns (fine_at src ws m.at.0)

    abbrev fits : Bool
    fits = has lvalues k.top.kind

    tail_of : T (fitting goes fits) → whole ≡ reads tail a (from src ws m.at.0) behind
    tail_of x = last (suits plain m.at.0 (over (bring subject_of tt k.gave)) k.inside x)

    -- AN EXPRESSION by itself
    pub expr_met : {r : Result Node Refusal} {t' : List ℕ} → (T (has assigns (kind_at ws m.at.0)) → ⊥)
        → Closes ws tree (code Semi) m.at.0 m.no.0 (node_code expr_node) 0 m.at.0 m.span 1 r t'
        → Meets whole src ws t n r t'
    expr_met u c =
        meets_as (tail_of (fits_none goes fits (fine_out assigns tt src ws m.at.0 u)))
        (seal m.span (code Semi) tt (λ u. u) tt (λ i. refl) (begin src ws m.at.0 k.inside tail semi_tail a behind
        (skips assigns assign_tail [] (use' semi_tail) tt src ws m.at.0 u) refl)
        (took_ready src expr a b.0 k) k.laid refl c)

    -- AN ASSIGNMENT
    module _ {flag : ℕ} (u : Flag (kind_at ws m.at.0) flag) where
      pub no_target : {x : Bool} {e : Refusal} → x ≡ has lvalues m.kind → x ≡ false
          → e ≡ record { number = refusal_code bad_target; span = m.span; wanted = 0; found = 0 } → Failed whole e
      no_target {x} y z w =
          unsuits plain m.at.0 (over (bring subject_of tt k.gave)) k.inside
          (λ v. denied x z (subst T (ap (has lvalues) (sym k.kind) ∙ sym y)
          (fits_target goes fits (fine_in assigns tt src ws m.at.0 u.0) v))) w

      module _ {x : Bool} (y : x ≡ has lvalues m.kind) (z : x ≡ true) {p : ℕ} (q : p ≡ m.at.0 + 1) where
        valued : whole ≡ reads tail a (from src ws m.at.0) behind
        valued = tail_of (target_fits goes fits (subst T (y ∙ ap (has lvalues) k.kind) (granted x z)))

        assigning : Doing (reads tail a (from src ws m.at.0) behind) src ws (tok_at src ws m.at.0)
            (mark nothing pass apart [] ∷ mark nothing pass widens (make (node_code assign_node) ∷ []) ∷ [])
            (sub expr ∷ one (code Semi ∷ []) ∷ []) a p (leave outs own apart (tok_at src ws m.at.0) behind)
        assigning =
            eat (begin src ws m.at.0 k.inside tail assign_tail a behind
            (picks assigns assign_tail [] (use' semi_tail) tt src ws m.at.0 u.0) refl) tt k.inside u.0 q

        pub assign_bad : {e : Refusal} → Failed (reads expr a (from src ws p) fresh) e → Failed whole e
        assign_bad f = failed_as valued (fails assigning f)

        pub assign_met : {l : Node} {tree₂ : List ℕ} {r : Result Node Refusal} {t' : List ℕ}
            → Took (reads expr a (from src ws p) fresh) src ws tree m.no.0 l tree₂
            → Closes ws tree₂ (code Semi) l.at.0 l.no.0 (node_code assign_node) flag m.at.0 m.span 2 r t'
            → Meets whole src ws t n r t'
        assign_met {l} y c =
            meets_as valued (seal m.span (code Semi) tt (λ u. u) tt (λ i. refl) (bring assigning tt y.gave)
            (took_ready src expr a (assign_ready (took_ready src expr a b.0 k) u.0 q) y) (laid_glue k.laid y.laid)
            (ap (λ (f : ℕ). single (close_rec ws l.at.0 (node_code assign_node) f m.at.0 m.span 2)
            (put (put none k.top k.below) y.top y.below) (joined m.span (span_at ws l.at.0))) flags) c)
          where
            flags : flag_of outs.flags (node_code assign_node) (fine_at src ws m.at.0) + 0 ≡ flag
            flags =
                let y = fine_kind (flag_of outs.flags (node_code assign_node)) refl refl refl refl src ws m.at.0 in
                let x = u.1 in
                omega arith
