-- The clauses one by one: each way through their readers.
-- Assumes nothing.
use Rattle.std.specs.Prelude.{Err, IsErrAnd, Ok, Result}
use mathlib.Core.Path.{◌≡◌, refl, ap, sym, subst, ◌∙◌}
use mathlib.Core.Bool.{Bool, true, false, not}
use mathlib.Core.List.{List, [], ◌∷◌}
use mathlib.Core.Logic.{⊎_elim, inl, inr}
use Prim.Native.Nat.{ℕ, ◌+◌, ◌<◌, ◌≤◌}
use native.Mathlib.Omega.{arith}
use lib.Dec.{T, eqb, eqb→eq}
use lib.ListN.{length}
use borrow.Author.Tests.{ne_eqb}
use Rattle.grammar.specs.Grammar.{no_tok, Items, one, sub, has}
use Rattle.grammar.specs.Records.{Acc, Row, none, put, glue, count, Span as Reached, nil, span, or_else, fresh, nothing, own, word, pass, fold, apart, widens, replaces, Mark, Step, make, plus, start, leave, beside, finish, leaf_kind, flag_of, pick_n}
use Rattle.grammar.specs.Reader.{use', pick}
use Rattle.grammar.specs.Fused.{Outcome, left}
use Rattle.grammar.proofs.Lines.{mark}
use Rattle.grammar.proofs.Table.{both, or_cases}
use Rattle.quanta_token.specs.TokenKind.{TokenKind, code, Ident, Int}
use Rattle.quanta_token.specs.TokenKind.{Writes, Reads, Conserves, Mints, Burns, Limits, Denies}
use Rattle.quanta_token.specs.TokenKind.{After, From, LParen, RParen, Comma}
use Rattle.quanta_grammar.specs.FineKind.{fine, UnitWord, AfterSpan}
use Rattle.quanta_grammar.specs.NodeKind.{NodeKind, node_code, flag_code, has_from, has_duration, after_node, name_node, int_node}
use Rattle.quanta_grammar.specs.RefusalKind.{refusal_code, expected_identifier}
use Rattle.quanta_grammar.specs.Productions.{grammar, outs, name, more_names, expr, clause, duration, from_opt, int_unit, writes, reads as reads_clause, conserves, mints, burns, limits, denies, after_expr, after_duration, from_expr, no_from}
use Rattle.quanta_grammar.specs.Guides.{guide}
use Rattle.quanta_grammar.specs.Reading.{targets, reads}
use Rattle.quanta_grammar.specs.Refine.{Text, plain_kind}
use Rattle.quanta_cursor.specs.declared.parser.TokenPos.{TokenPos}
use Rattle.quanta_cursor.specs.declared.parser.Span.{Span}
use Rattle.quanta_cursor.specs.declared.parser.Node.{Node}
use Rattle.quanta_cursor.specs.declared.parser.Refusal.{Refusal}
use Rattle.quanta_cursor.specs.Tokens.{size, kind_at, from, fine_at, tok_at, Ready}
use Rattle.quanta_cursor.specs.Tree.{rec_of, put_rec}
use Rattle.quanta_cursor.specs.Answers.{single, Failed, Took, Meets}
use Rattle.quanta_cursor.specs.Cursor.{joined, span_at, Expects, leaf_rec, leaf_node, Words, Closes}
use Rattle.quanta_cursor.proofs.Sets.{coarse, fine_in, fine_kind, plain_at_lem, is_one, not_one}
use Rattle.quanta_cursor.proofs.Places.{past_in, past_as, laid_none, laid_glue, laid_word, all_ready, all_few, ready_past, ready_word, ready_behind}
use Rattle.quanta_cursor.proofs.Exits.{handed}
use Rattle.quanta_cursor.proofs.Meeting.{next_of, lacks_of, word_of, no_word_of}
use Rattle.quanta_cursor.proofs.Doing.{Doing, picks, skips, begin, eat, eat_fine, lack, bring, fails, fold_in, fold_fails, over, ends}
use Rattle.quanta_cursor.proofs.Lists.{glue_none, Rolling as Names}
use Rattle.quanta_cursor.proofs.WordLists.{names_law, first_bad_lem}
use Rattle.quanta_cursor.proofs.WordLists.{list_begun, list_ends, comma_past, list_bad, list_on, list_less}
use Rattle.quanta_cursor.proofs.Under.{Under, passes, listed_in, unlisted, closed_by}
use Rattle.quanta_clause.specs.declared.decl.AfterTarget.{AfterTarget}
use Rattle.quanta_clause.specs.Units.{is_unit, is_duration}
use Rattle.quanta_clause.specs.Clauses.{of_names, of_name, of_expr, kind_in, clause_kind, First, FirstName, Ends, EndsAfter, target_of, flag_if, TookTarget, AnswersTarget, Targets}
use Rattle.quanta_clause.proofs.Units.{after_kind, after_kind_lem}

has_one : (k c : ℕ) → T (has (c ∷ []) k) → k ≡ c
has_one k c t = or_cases (eqb k c) false t (λ z. eqb→eq k c z) (λ z. absurd z)

pub has_two : {A : Type 0} (k c d : ℕ) → T (has (c ∷ d ∷ []) k) → (k ≡ c → A) → (k ≡ d → A) → A
has_two k c d t f g = or_cases (eqb k c) (has (d ∷ []) k) t (λ z. f (eqb→eq k c z)) (λ z. g (has_one k d z))

pub has_three : {A : Type 0} (k c d e : ℕ) → T (has (c ∷ d ∷ e ∷ []) k) → (k ≡ c → A) → (k ≡ d → A) → (k ≡ e → A) → A
has_three k c d e t f g h = or_cases (eqb k c) (has (d ∷ e ∷ []) k) t (λ z. f (eqb→eq k c z)) (λ z. has_two k d e z g h)

-- A KEYWORD is of its own kind, and tells the kind of its clause's record
fine_is : (k : ℕ) → T (coarse (k ∷ [])) → (src : Text) (ws : List ℕ) (i : ℕ) → kind_at ws i ≡ k → fine_at src ws i ≡ k
fine_is k c src ws i e = has_one (fine_at src ws i) k (fine_in (k ∷ []) c src ws i (is_one k e))

abbrev Away : List (TokenKind × NodeKind) → ℕ → Type 0
Away [] k = Unit {0}
Away (r ∷ rs) k = (k ≡ code r.0 → ⊥) × Away rs k

pub kind_none : (rs : List (TokenKind × NodeKind)) (k : ℕ) → Away rs k → kind_in rs k ≡ node_code after_node
kind_none [] k a = refl
kind_none (r ∷ rs) k a = ap (λ (b : Bool). pick_n b (node_code r.1) (kind_in rs k)) (ne_eqb k (code r.0) a.0) ∙ kind_none rs k a.1

-- a name, as `expect_ident` answers
abbrev pub Named : List ℕ → List ℕ → ℕ → ℕ → Result Node Refusal → List ℕ → Type 0
Named ws t p n r t' = Words name (node_code name_node) (refusal_code expected_identifier) ws t p n r t'

-- a name leaves the record of a name
name_kind : (src : Text) (ws : List ℕ) (i : ℕ) → T (has name (kind_at ws i)) → leaf_kind outs.leafs (fine_at src ws i) ≡ node_code name_node
name_kind src ws i t =
    has_three (fine_at src ws i) _ _ _ (fine_in name tt src ws i t) (λ z. ap (leaf_kind outs.leafs) z) (λ z. ap (leaf_kind outs.leafs) z) (λ z. ap (leaf_kind outs.leafs) z)

zero_plus : (n : ℕ) → 0 + n ≡ n
zero_plus n = omega arith

-- what is under way behind the keyword k at i, whose span and place are the clause's
pub record Opening (src : Text) (ws : List ℕ) (i a p k : ℕ) (ms : ℕ → List Mark) (is : Items grammar) : Type 0 where
  pub doing : Doing (reads clause a (from src ws i) fresh) src ws (tok_at src ws i) (ms (clause_kind k)) is a p (leave outs own widens (tok_at src ws i) fresh)
  pub flagless : (j : ℕ) → flag_of outs.flags (clause_kind k) j ≡ 0

-- behind the keyword of a clause of one name, of one expression, of a list of names
abbrev name_marks : ℕ → List Mark
name_marks k = mark word pass widens (make k ∷ []) ∷ []

abbrev expr_marks : ℕ → List Mark
expr_marks k = mark nothing pass widens (make k ∷ []) ∷ []

abbrev names_marks : ℕ → List Mark
names_marks k = mark nothing pass apart [] ∷ mark word pass apart [] ∷ mark nothing fold apart [] ∷ mark nothing pass widens (make k ∷ []) ∷ []

-- .. and of an `after`
abbrev after_steps : Bool → List Step
after_steps true = plus (flag_code has_duration) ∷ []
after_steps false = []

module _ (src : Text) (ws : List ℕ) (i a : ℕ) (h : i < size ws) {p : ℕ} (q : p ≡ i + 1) where
  chosen : (k : ℕ) → T (coarse (k ∷ [])) → kind_at ws i ≡ k → pick (guide clause) (fine_at src ws i) ≡ pick (guide clause) k
  chosen k f e = ap (pick (guide clause)) (fine_is k f src ws i e)

  opening : {k : ℕ} {ms : ℕ → List Mark} {is : Items grammar} → kind_at ws i ≡ k → Opening src ws i a p k ms is → Opening src ws i a p (kind_at ws i) ms is
  opening {k} {ms} {is} e o = subst (λ (k : ℕ). Opening src ws i a p k ms is) (sym e) o

  names_opening : T (has of_names (kind_at ws i)) → Opening src ws i a p (kind_at ws i) names_marks (one (code LParen ∷ []) ∷ one name ∷ sub more_names ∷ one (code RParen ∷ []) ∷ [])
  names_opening w =
      has_two (kind_at ws i) (code Writes) (code Reads) w
      (λ e. opening e (record { doing = eat (begin src ws i h clause writes a fresh (chosen (code Writes) tt e) refl) tt h (is_one (code Writes) e) q; flagless = λ j. refl }))
      (λ e. opening e (record { doing = eat (begin src ws i h clause reads_clause a fresh (chosen (code Reads) tt e) refl) tt h (is_one (code Reads) e) q; flagless = λ j. refl }))

  name_opening : T (has of_name (kind_at ws i)) → Opening src ws i a p (kind_at ws i) name_marks (one name ∷ [])
  name_opening w =
      has_three (kind_at ws i) (code Conserves) (code Mints) (code Burns) w
      (λ e. opening e (record { doing = eat (begin src ws i h clause conserves a fresh (chosen (code Conserves) tt e) refl) tt h (is_one (code Conserves) e) q; flagless = λ j. refl }))
      (λ e. opening e (record { doing = eat (begin src ws i h clause mints a fresh (chosen (code Mints) tt e) refl) tt h (is_one (code Mints) e) q; flagless = λ j. refl }))
      (λ e. opening e (record { doing = eat (begin src ws i h clause burns a fresh (chosen (code Burns) tt e) refl) tt h (is_one (code Burns) e) q; flagless = λ j. refl }))

  expr_opening : T (has of_expr (kind_at ws i)) → Opening src ws i a p (kind_at ws i) expr_marks (sub expr ∷ [])
  expr_opening w =
      has_two (kind_at ws i) (code Limits) (code Denies) w
      (λ e. opening e (record { doing = eat (begin src ws i h clause limits a fresh (chosen (code Limits) tt e) refl) tt h (is_one (code Limits) e) q; flagless = λ j. refl }))
      (λ e. opening e (record { doing = eat (begin src ws i h clause denies a fresh (chosen (code Denies) tt e) refl) tt h (is_one (code Denies) e) q; flagless = λ j. refl }))

-- A CLAUSE OF ONE NAME
module _ {ws : List ℕ} {i n p : ℕ} (q : p ≡ i + 1) (b : Ready ws i n × T (has of_name (kind_at ws i))) where
  pub name_past : Ready ws p n
  name_past = ready_past b.0 (past_in of_name (λ u. u) b.0.closed b.0.inside b.1) q

  pub name_ready : {t t₁ : List ℕ} {r : Result Node Refusal} {m : Node} → Named ws t p n r t₁ → r ≡ Ok m
      → Ready ws m.at.0 m.no.0
  name_ready v z =
      let d = word_of z v in
      subst (λ (m : Node). Ready ws m.at.0 m.no.0) (sym d.1)
      (ready_word name_past (past_in name (λ u. u) b.0.closed name_past.inside d.0) refl refl)

module _ (src : Text) (a : ℕ) {ws : List ℕ} {i n p : ℕ} (q : p ≡ i + 1)
    (b : Ready ws i n × T (has of_name (kind_at ws i))) where
  module _ {t t₁ : List ℕ} {r : Result Node Refusal} (v : Named ws t p n r t₁) where
    pub name_bad : {e : Refusal} → r ≡ Err e → Failed (reads clause a (from src ws i) fresh) e
    name_bad z =
        let d = no_word_of z v in
        lack (name_opening src ws i a b.0.inside q b.1).doing tt b.0.closed (name_past q b).inside d.0 tt d.1

    module _ {m : Node} (z : r ≡ Ok m) where
      pub name_took : {u : Node} {t₂ : List ℕ} → Ends ws t₁ i m u t₂ → Took (reads clause a (from src ws i) fresh) src ws t n u t₂
      name_took {u} {t₂} x =
          let d = word_of z v in
          let o = name_opening src ws i a b.0.inside q b.1 in
          let k = clause_kind (kind_at ws i) in
          let y = subst (λ (m : Node). Ends ws t₁ i m u t₂) d.1 x in
          subst (λ (u : Node). Took (reads clause a (from src ws i) fresh) src ws t n u t₂) (sym y.node)
          (ends (rec_of k 0 i (joined (span_at ws i) (span_at ws p)).start (joined (span_at ws i) (span_at ws p)).end 1)
          (eat o.doing tt (name_past q b).inside d.0 refl) refl
          (ap (λ (f : ℕ). single (rec_of k (f + 0) i (joined (span_at ws i) (span_at ws p)).start (joined (span_at ws i) (span_at ws p)).end 1) (put none (leaf_rec ws p (leaf_kind outs.leafs (fine_at src ws p))) none) (joined (span_at ws i) (span_at ws p))) (o.flagless (fine_at src ws i))
          ∙ ap (λ (j : ℕ). single (rec_of k 0 i (joined (span_at ws i) (span_at ws p)).start (joined (span_at ws i) (span_at ws p)).end 1) (put none (leaf_rec ws p j) none) (joined (span_at ws i) (span_at ws p))) (name_kind src ws p d.0))
          refl (laid_word (leaf_rec ws p (node_code name_node)) laid_none d.2 refl) y.words refl
          (past_in name (λ u. u) b.0.closed (name_past q b).inside d.0))

-- A CLAUSE OF ONE EXPRESSION
pub expr_past : {ws : List ℕ} {i n p : ℕ} → p ≡ i + 1 → Ready ws i n × T (has of_expr (kind_at ws i)) → Ready ws p n
expr_past q b = ready_past b.0 (past_in of_expr (λ u. u) b.0.closed b.0.inside b.1) q

module _ (src : Text) (a : ℕ) {ws : List ℕ} {i n p : ℕ} (q : p ≡ i + 1)
    (b : Ready ws i n × T (has of_expr (kind_at ws i))) where
  pub expr_bad : {e : Refusal} → Failed (reads expr a (from src ws p) fresh) e → Failed (reads clause a (from src ws i) fresh) e
  expr_bad f = fails (expr_opening src ws i a b.0.inside q b.1).doing f

  pub expr_took : {t t₁ : List ℕ} {m u : Node} {t₂ : List ℕ} → Took (reads expr a (from src ws p) fresh) src ws t n m t₁ → Ends ws t₁ i m u t₂ → Took (reads clause a (from src ws i) fresh) src ws t n u t₂
  expr_took {t} {t₁} {m} {u} {t₂} k x =
      let o = expr_opening src ws i a b.0.inside q b.1 in
      let c = clause_kind (kind_at ws i) in
      subst (λ (u : Node). Took (reads clause a (from src ws i) fresh) src ws t n u t₂) (sym x.node)
      (ends (rec_of c 0 i (joined (span_at ws i) m.span).start (joined (span_at ws i) m.span).end 1)
      (bring o.doing tt k.gave) refl
      (ap (λ (f : ℕ). single (rec_of c (f + 0) i (joined (span_at ws i) m.span).start (joined (span_at ws i) m.span).end 1) (put none k.top k.below) (joined (span_at ws i) m.span)) (o.flagless (fine_at src ws i)))
      refl k.laid x.words refl k.inside)

-- A CLAUSE OF A LIST OF NAMES: the `(` and the first name
pub first_ready : {ws : List ℕ} {i n : ℕ} {y : Result TokenPos Refusal} {p : TokenPos} → Expects ws i (code LParen) y → y ≡ Ok p → Ready ws i n → Ready ws p.0 n
first_ready v z g = let w = next_of z v in ready_behind (code LParen) (λ u. u) g w.0 w.1

module _ {ws t : List ℕ} {i n : ℕ} {y : Result TokenPos Refusal} (v : Expects ws i (code LParen) y) where
  pub first_unopened : {e : Refusal} {r : Result Node Refusal} {t' : List ℕ} → y ≡ Err e → IsErrAnd r (λ y. y ≡ e)
      → FirstName ws t i n r t'
  first_unopened {t' = t'} z h =
      subst (λ (r : Result Node Refusal). FirstName ws t i n r t') (sym (handed h)) (record { by = inr (lacks_of z v) })

  module _ {p : TokenPos} (z : y ≡ Ok p) where
    first_by : (r : Result Node Refusal) {t' : List ℕ} → Named ws t (i + 1) n r t' → First ws t i n r t'
    first_by (Ok m) x = ((next_of z v).0, x)
    first_by (Err e) x = inl ((next_of z v).0, x)

    pub first_inside : {r : Result Node Refusal} {t' : List ℕ} → Named ws t p.0 n r t' → FirstName ws t i n r t'
    first_inside {r} {t'} x =
        record { by = first_by r (subst (λ (j : ℕ). Named ws t j n r t') (next_of z v).1 x) }

module _ {ws : List ℕ} {i n p : ℕ} (q : p ≡ i + 1) (g : Ready ws i n) (w : T (has of_names (kind_at ws i))) where
  pub names_past : Ready ws p n
  names_past = ready_past g (past_in of_names (λ u. u) g.closed g.inside w) q

  abbrev behind : Text → Acc
  behind src = leave outs own widens (tok_at src ws i) fresh

  module _ (src : Text) (a : ℕ) {t : List ℕ} where
    begun : Under (reads clause a (from src ws i) fresh) src ws (tok_at src ws i)
        (names_marks (clause_kind (kind_at ws i)))
        (one (code LParen ∷ []) ∷ one name ∷ sub more_names ∷ one (code RParen ∷ []) ∷ []) a p (behind src) t n t n
    begun = record { doing = (names_opening src ws i a g.inside q w).doing; laid = laid_none; ready = names_past }

    inside : kind_at ws p ≡ code LParen
        → Under (reads clause a (from src ws i) fresh) src ws (tok_at src ws i)
        (mark word pass apart [] ∷ mark nothing fold apart []
        ∷ mark nothing pass widens (make (clause_kind (kind_at ws i)) ∷ []) ∷ [])
        (one name ∷ sub more_names ∷ one (code RParen ∷ []) ∷ []) a (p + 1) (behind src) t n t n
    inside e = passes begun tt (λ u. u) (is_one (code LParen) e) refl

    first_lacks : {e : Refusal} {t₁ : List ℕ} → First ws t p n (Err e) t₁ → Failed (reads clause a (from src ws i) fresh) e
    first_lacks f =
        ⊎_elim
        (λ z. unlisted (inside z.0)
        (first_bad_lem names_law (inside z.0).ready z.1 refl src (tok_at src ws i) a (behind src)))
        (λ z. lack begun.doing tt g.closed names_past.inside (not_one (code LParen) z.0) tt z.1) f

  module _ {t t₁ : List ℕ} {y : Result Node Refusal} (v : FirstName ws t p n y t₁) where
    pub names_none : {e : Refusal} → y ≡ Err e → (src : Text) (a : ℕ) → Failed (reads clause a (from src ws i) fresh) e
    names_none z src a = first_lacks src a (subst (λ (y : Result Node Refusal). First ws t p n y t₁) z v.by)

    module _ {m : Node} (z : y ≡ Ok m) where
      first : First ws t p n (Ok m) t₁
      first = subst (λ (y : Result Node Refusal). First ws t p n y t₁) z v.by

      abbrev So : ℕ → ℕ → ℕ → List ℕ → Type 0
      So e u c tree = (a : ℕ) → Names more_names ws a m.at.0 m.no.0 1 t₁ e u c tree

      inside_ready : Ready ws (p + 1) n
      inside_ready = ready_behind (code LParen) (λ u. u) names_past first.0 refl

      -- THE NAMES, from the first on
      pub names_begun : So m.at.0 m.no.0 1 t₁
      names_begun = list_begun names_law inside_ready first.1 refl

      module _ {e u c : ℕ} {tree : List ℕ} (r : So e u c tree) where
        -- .. one more behind a comma
        module _ (x : kind_at ws e ≡ code Comma) {j : ℕ} (f : j ≡ e + 1) where
          pub names_comma : Ready ws j u
          names_comma = comma_past names_law inside_ready first.1 refl r x f

          module _ {y' : Result Node Refusal} {tree' : List ℕ} (v' : Named ws tree j u y' tree') where
            pub names_bad : {k : Refusal} → y' ≡ Err k → (src : Text) (a : ℕ)
                → Failed (reads clause a (from src ws i) fresh) k
            names_bad z' src a =
                unlisted (inside src a {t = t} first.0)
                (list_bad names_law inside_ready first.1 refl r x f v' z' src (tok_at src ws i) a (behind src))

            module _ {m' : Node} (z' : y' ≡ Ok m') where
              pub names_on : length tree' ≡ length tree → So m'.at.0 m'.no.0 (c + 1) tree'
              names_on h = list_on names_law inside_ready first.1 refl r x f v' z' refl h

              pub names_less : e < m'.at.0
              names_less = list_less names_law inside_ready first.1 refl r x f v' z'

        -- .. and their end
        pub names_met : (kind_at ws e ≡ code Comma → ⊥) → {k : Result Node Refusal} {t₃ : List ℕ}
            → Closes ws tree (code RParen) e u (clause_kind (kind_at ws i)) 0 i (span_at ws i) c k t₃
            → (src : Text) (a : ℕ) → Meets (reads clause a (from src ws i) fresh) src ws t n k t₃
        names_met o x src a =
            let l = list_ends names_law inside_ready first.1 refl r
            {k = record { at = record { 0 = e }; no = record { 0 = u }; count = c }} o refl refl refl
            src (tok_at src ws i) a (behind src) in
            let N = clause_kind (kind_at ws i) in
            let s = joined (span_at ws i) (span_at ws e) in
            closed_by (span_at ws i) (code RParen) tt (λ u. u) tt (λ i. refl)
            (listed_in (inside src a {t = t} first.0) l)
            (ap (λ (f : ℕ). single (rec_of N (f + 0) i s.start s.end (count (glue none l.row))) (glue none l.row) s)
            ((names_opening src ws i a g.inside q w).flagless (fine_at src ws i))
            ∙ ap (λ (c : ℕ). single (rec_of N 0 i s.start s.end c) (glue none l.row) s)
            (ap count (glue_none l.row) ∙ sym l.many))
            x

-- AN `AFTER`: its target is a duration or an expression
pub after_past : {ws : List ℕ} {i n p : ℕ} → p ≡ i + 1 → Ready ws i n × (kind_at ws i ≡ code After) → Ready ws p n
after_past q b = ready_behind (code After) (λ u. u) b.0 b.1 q

abbrev after_mark : Mark
after_mark = mark nothing fold apart (start ∷ make (node_code after_node) ∷ [])

module _ (src : Text) (a : ℕ) {ws : List ℕ} {i n p : ℕ} (q : p ≡ i + 1)
    (b : Ready ws i n × (kind_at ws i ≡ code After)) where
  abbrev held : Row → Reached → ℕ → Acc
  held row s f = record { row = row; reach = s; mine = tok_at src ws i; sum = f }

  abbrev waiting : Row → AfterTarget → Acc
  waiting row r = held row (span r.span.start r.span.end) r.flag

  after_is : fine_at src ws i ≡ after_kind (is_duration src ws p)
  after_is =
      after_kind_lem src ws i b.0.closed b.0.inside b.1
      ∙ ap (λ (j : ℕ). after_kind (is_duration src ws j)) (sym q)

  after_begun : (d : Bool) → fine_at src ws i ≡ after_kind d
      → Doing (reads clause a (from src ws i) fresh) src ws (tok_at src ws i)
      (mark nothing pass replaces (after_steps d) ∷ after_mark ∷ []) (sub (target_of d) ∷ sub from_opt ∷ [])
      a p (leave outs own apart (tok_at src ws i) fresh)
  after_begun true e =
      eat_fine (begin src ws i b.0.inside clause after_duration a fresh (ap (pick (guide clause)) e) refl)
      tt b.0.inside (subst (λ (k : ℕ). T (has (fine AfterSpan ∷ []) k)) (sym e) tt) q
  after_begun false e =
      eat_fine (begin src ws i b.0.inside clause after_expr a fresh (ap (pick (guide clause)) e) refl)
      tt b.0.inside (subst (λ (k : ℕ). T (has (code After ∷ []) k)) (sym e) tt) q

  pub after_bad : {e : Refusal} → Failed (reads (target_of (is_duration src ws p)) a (from src ws p) fresh) e → Failed (reads clause a (from src ws i) fresh) e
  after_bad f = fails (after_begun (is_duration src ws p) after_is) f

  aimed_by : (d : Bool) → fine_at src ws i ≡ after_kind d → {t : List ℕ} {r : AfterTarget} {t₁ : List ℕ}
      (k : TookTarget (reads (target_of d) a (from src ws p) fresh) src ws t n (flag_if d) r t₁)
      → Doing (reads clause a (from src ws i) fresh) src ws (tok_at src ws i)
      (after_mark ∷ []) (sub from_opt ∷ []) a r.at.0 (waiting k.all.acc.row r)
  aimed_by d e {t} {r} {t₁} k =
      subst (λ (x : Acc). Doing (reads clause a (from src ws i) fresh) src ws (tok_at src ws i)
      (after_mark ∷ []) (sub from_opt ∷ []) a r.at.0 x)
      (state d k.flagged) (bring (after_begun d e) (minds d) k.all.gave)
    where
      minds : (d : Bool) → T (not (targets.minds (target_of d)))
      minds true = tt
      minds false = tt

      spread : (f : ℕ) → held (glue none k.all.acc.row) (or_else k.all.acc.reach nil) f ≡ held k.all.acc.row (span r.span.start r.span.end) f
      spread f =
          ap (λ (s : Reached). held (glue none k.all.acc.row) (or_else s nil) f) k.reach
          ∙ ap (λ (z : Row). held z (span r.span.start r.span.end) f) (glue_none k.all.acc.row)

      state : (d : Bool) → r.flag ≡ flag_if d
          → finish outs (tok_at src ws i) (after_steps d)
          (beside replaces (leave outs own apart (tok_at src ws i) fresh) k.all.acc)
          ≡ waiting k.all.acc.row r
      state true z = spread (flag_code has_duration) ∙ ap (λ (f : ℕ). held k.all.acc.row (span r.span.start r.span.end) f) (sym z)
      state false z = spread 0 ∙ ap (λ (f : ℕ). held k.all.acc.row (span r.span.start r.span.end) f) (sym z)

  module _ {t : List ℕ} {r : AfterTarget} {t₁ : List ℕ} (k : TookTarget (reads (target_of (is_duration src ws p)) a (from src ws p) fresh) src ws t n (flag_if (is_duration src ws p)) r t₁) where
    pub target_ready : Ready ws r.at.0 r.no.0
    target_ready = all_ready src (target_of (is_duration src ws p)) a (after_past q b) k.all

    pub target_few : (r.flag ≤ 2) × (r.count + n ≤ r.no.0)
    target_few = (few (is_duration src ws p) k.flagged, all_few k.all)
      where
        few : (d : Bool) → r.flag ≡ flag_if d → r.flag ≤ 2
        few true z = omega arith
        few false z = omega arith

    aimed : Doing (reads clause a (from src ws i) fresh) src ws (tok_at src ws i)
        (after_mark ∷ []) (sub from_opt ∷ []) a r.at.0 (waiting k.all.acc.row r)
    aimed = aimed_by (is_duration src ws p) after_is k

    -- the record of an `after` over so many records, with the flag and the span so far
    abbrev ended : ℕ → ℕ → Span → Row → Acc
    ended f c s row = single (rec_of (node_code after_node) f i (joined (span_at ws i) s).start (joined (span_at ws i) s).end c) row (joined (span_at ws i) s)

    -- no `from`
    pub after_plain : {u : Node} {t₂ : List ℕ} → (kind_at ws r.at.0 ≡ code From → ⊥) → EndsAfter ws t₁ i r u t₂ → Took (reads clause a (from src ws i) fresh) src ws t n u t₂
    after_plain {u} {t₂} z x =
        subst (λ (u : Node). Took (reads clause a (from src ws i) fresh) src ws t n u t₂) (sym x.node)
        (ends (rec_of (node_code after_node) r.flag i (joined (span_at ws i) r.span).start (joined (span_at ws i) r.span).end r.count)
        (fold_in aimed (over (begin src ws r.at.0 k.all.inside from_opt no_from a (waiting k.all.acc.row r) (skips (code From ∷ []) from_expr [] (use' no_from) tt src ws r.at.0 (not_one (code From) z)) refl)))
        refl
        (ap (λ (f : ℕ). ended f (count k.all.acc.row) r.span k.all.acc.row) (zero_plus r.flag) ∙ ap (λ (c : ℕ). ended r.flag c r.span k.all.acc.row) (sym k.all.many))
        refl k.all.laid x.words refl k.all.inside)

    module _ (z : kind_at ws r.at.0 ≡ code From) {p' : ℕ} (e : p' ≡ r.at.0 + 1) where
      pub from_past : Ready ws p' r.no.0
      from_past = ready_past target_ready (past_as (code From) (λ u. u) b.0.closed k.all.inside z) e

      sourced : Doing (reads from_opt a (from src ws r.at.0) (waiting k.all.acc.row r)) src ws (tok_at src ws r.at.0) (mark nothing pass replaces (plus (flag_code has_from) ∷ []) ∷ []) (sub expr ∷ []) a p' (waiting k.all.acc.row r)
      sourced = eat (begin src ws r.at.0 k.all.inside from_opt from_expr a (waiting k.all.acc.row r) (picks (code From ∷ []) from_expr [] (use' no_from) tt src ws r.at.0 (is_one (code From) z)) refl) tt k.all.inside (is_one (code From) z) e

      pub from_bad : {u : Refusal} → Failed (reads expr a (from src ws p') fresh) u → Failed (reads clause a (from src ws i) fresh) u
      from_bad f = fold_fails aimed (fails sourced f)

      pub from_took : {m : Node} {t₂ : List ℕ} {u : Node} {t₃ : List ℕ} → Took (reads expr a (from src ws p') fresh) src ws t₁ r.no.0 m t₂
          → EndsAfter ws t₂ i (record { at = m.at; no = m.no; span = m.span; flag = r.flag + 1; count = r.count + 1 }) u t₃ → Took (reads clause a (from src ws i) fresh) src ws t n u t₃
      from_took {m} {t₂} {u} {t₃} y x =
          let row = glue k.all.acc.row (put none y.top y.below) in
          subst (λ (u : Node). Took (reads clause a (from src ws i) fresh) src ws t n u t₃) (sym x.node)
          (ends (rec_of (node_code after_node) (r.flag + 1) i (joined (span_at ws i) m.span).start (joined (span_at ws i) m.span).end (r.count + 1))
          (fold_in aimed (over (bring sourced tt y.gave))) refl
          (ap (λ (f : ℕ). ended f (count row) m.span row) (zero_plus (r.flag + 1)) ∙ ap (λ (c : ℕ). ended (r.flag + 1) c m.span row) (let v = k.all.many in omega arith))
          refl (laid_glue k.all.laid y.laid) x.words refl y.inside)

-- THE TARGET: an integer and a unit of time
abbrev two : List ℕ → ℕ → ℕ → ℕ → Acc
two ws i j k = record { row = put (put none (leaf_rec ws i j) none) (leaf_rec ws (i + 1) k) none; reach = span (joined (span_at ws i) (span_at ws (i + 1))).start (joined (span_at ws i) (span_at ws (i + 1))).end; mine = no_tok; sum = 0 }

module _ (src : Text) (ws : List ℕ) {i n : ℕ} (g : Ready ws i n) (d : T (is_duration src ws i)) where
  parts : T (eqb (kind_at ws i) (code Int)) × T (is_unit src ws (i + 1))
  parts = both (eqb (kind_at ws i) (code Int)) (is_unit src ws (i + 1)) d

  integer : kind_at ws i ≡ code Int
  integer = eqb→eq (kind_at ws i) (code Int) parts.0

  unit_kind : fine_at src ws (i + 1) ≡ fine UnitWord
  unit_kind = has_one (fine_at src ws (i + 1)) (fine UnitWord) parts.1

  value_past : i + 1 < size ws
  value_past = past_as (code Int) (λ u. u) g.closed g.inside integer

  unit_past : i + 1 + 1 < size ws
  unit_past = past_as (code Ident) (λ u. u) g.closed value_past (sym (plain_at_lem src (i + 1) g.closed value_past) ∙ ap plain_kind unit_kind)

  module _ {m : Node} (x : m ≡ leaf_node ws i n (node_code int_node)) where
    pub unit_ready : Ready ws m.at.0 m.no.0
    unit_ready = subst (λ (m : Node). Ready ws m.at.0 m.no.0) (sym x) (ready_word g value_past refl refl)

    module _ {u : Node} (y : u ≡ leaf_node ws m.at.0 m.no.0 (node_code name_node)) where
      value_at : m.at.0 ≡ i + 1
      value_at = ap (λ (m : Node). m.at.0) x

      unit_at : u.at.0 ≡ i + 1 + 1
      unit_at = ap (λ (u : Node). u.at.0) y ∙ ap (λ (j : ℕ). j + 1) value_at

      duration_took : (a : ℕ) {t t₁ t₂ : List ℕ} {s : Span} {flag : ℕ} → t₁ ≡ put_rec t n (leaf_rec ws i (node_code int_node)) → t₂ ≡ put_rec t₁ m.no.0 (leaf_rec ws m.at.0 (node_code name_node)) → s ≡ joined m.span u.span → flag ≡ flag_code has_duration
          → TookTarget (reads duration a (from src ws i) fresh) src ws t n (flag_code has_duration) (record { at = u.at; no = u.no; span = s; flag = flag; count = 2 }) t₂
      duration_took a {t} {t₁} {t₂} {s} f h l w =
          record {
            all = record {
              acc = two ws i (node_code int_node) (node_code name_node);
              gave = over (eat_fine (eat (begin src ws i g.inside duration int_unit a fresh refl refl) tt g.inside (is_one (code Int) integer) refl) tt value_past parts.1 refl)
                  ∙ ap (λ (j : ℕ). left (two ws i j (leaf_kind outs.leafs (fine_at src ws (i + 1)))) (from src ws (i + 1 + 1))) (fine_kind (leaf_kind outs.leafs) refl refl refl refl src ws i ∙ ap (leaf_kind outs.leafs) integer)
                  ∙ ap (λ (j : ℕ). left (two ws i (node_code int_node) j) (from src ws (i + 1 + 1))) (ap (leaf_kind outs.leafs) unit_kind)
                  ∙ ap (λ (j : ℕ). left (two ws i (node_code int_node) (node_code name_node)) (from src ws j)) (sym unit_at);
              many = refl;
              laid = laid_word (leaf_rec ws (i + 1) (node_code name_node)) (laid_word (leaf_rec ws i (node_code int_node)) laid_none f (ap (λ (m : Node). m.no.0) x)) (h ∙ ap (λ (j : ℕ). put_rec t₁ m.no.0 (leaf_rec ws j (node_code name_node))) value_at) (ap (λ (u : Node). u.no.0) y);
              inside = subst (λ (j : ℕ). j < size ws) (sym unit_at) unit_past;
            };
            reach = ap (λ (s : Span). span s.start s.end) (sym spanned);
            flagged = w;
          }
        where
          spanned : s ≡ joined (span_at ws i) (span_at ws (i + 1))
          spanned = l ∙ ap (λ (m : Node). joined m.span u.span) x ∙ ap (λ (u : Node). joined (span_at ws i) u.span) y ∙ ap (λ (j : ℕ). joined (span_at ws i) (span_at ws j)) value_at

-- .. or an expression
pub value_took : {o : Outcome} {src : Text} {ws t : List ℕ} {n : ℕ} {m : Node} {t' : List ℕ} → Took o src ws t n m t' → TookTarget o src ws t n 0 (record { at = m.at; no = m.no; span = m.span; flag = 0; count = 1 }) t'
value_took {m = m} k = record { all = record { acc = single k.top k.below m.span; gave = k.gave; many = refl; laid = k.laid; inside = k.inside }; reach = refl; flagged = refl }

-- .. as the code told it
pub target_is : {src : Text} {ws : List ℕ} {i n a : ℕ} {t : List ℕ} {r : Result AfterTarget Refusal} {t' : List ℕ} {b : Bool} (c : Bool) → b ≡ is_duration src ws i → b ≡ c → AnswersTarget c src ws i n a t r t' → Targets src ws i n a t r t'
target_is {src} {ws} {i} {n} {a} {t} {r} {t'} c e f x = record { by = subst (λ (b : Bool). AnswersTarget b src ws i n a t r t') (sym f ∙ e) x }

pub target_bad : {src : Text} {ws : List ℕ} {i n a : ℕ} {t : List ℕ} {r : Result AfterTarget Refusal} {t' : List ℕ}
    {b : Bool}
    → b ≡ is_duration src ws i → b ≡ false → {e : Refusal} → IsErrAnd r (λ y. y ≡ e)
    → Failed (reads expr a (from src ws i) fresh) e → Targets src ws i n a t r t'
target_bad {src} {ws} {i} {n} {a} {t} {t' = t'} e f h x =
    subst (λ (r : Result AfterTarget Refusal). Targets src ws i n a t r t') (sym (handed h)) (target_is false e f x)

pub target_true : (src : Text) (ws : List ℕ) (i : ℕ) {b : Bool} → b ≡ is_duration src ws i → b ≡ true
    → T (is_duration src ws i)
target_true src ws i e f = subst T (sym f ∙ e) tt

pub duration_target : {src : Text} {ws : List ℕ} {i n : ℕ} → Ready ws i n → {b : Bool} → b ≡ is_duration src ws i → b ≡ true → {m : Node} → m ≡ leaf_node ws i n (node_code int_node) → {u : Node} → u ≡ leaf_node ws m.at.0 m.no.0 (node_code name_node)
    → {a : ℕ} {t t₁ t₂ : List ℕ} {s : Span} {flag : ℕ} → t₁ ≡ put_rec t n (leaf_rec ws i (node_code int_node)) → t₂ ≡ put_rec t₁ m.no.0 (leaf_rec ws m.at.0 (node_code name_node)) → s ≡ joined m.span u.span → flag ≡ flag_code has_duration
    → Targets src ws i n a t (Ok (record { at = u.at; no = u.no; span = s; flag = flag; count = 2 })) t₂
duration_target {src} {ws} {i} g e f x y {a} h k l w = target_is true e f (duration_took src ws g (target_true src ws i e f) x y a h k l w)

module _ {src : Text} {ws : List ℕ} {i n a : ℕ} {t : List ℕ} {y : Result AfterTarget Refusal} {t' : List ℕ} (v : Targets src ws i n a t y t') where
  pub target_of_lem : {r : AfterTarget} → y ≡ Ok r → TookTarget (reads (target_of (is_duration src ws i)) a (from src ws i) fresh) src ws t n (flag_if (is_duration src ws i)) r t'
  target_of_lem z = subst (λ (y : Result AfterTarget Refusal). AnswersTarget (is_duration src ws i) src ws i n a t y t') z v.by

  pub untargeted : {e : Refusal} → y ≡ Err e → Failed (reads (target_of (is_duration src ws i)) a (from src ws i) fresh) e
  untargeted z = subst (λ (y : Result AfterTarget Refusal). AnswersTarget (is_duration src ws i) src ws i n a t y t') z v.by

-- WHAT IS WRITTEN, with the kind and the span that the code computed
pub closes_kind : {ws t : List ℕ} {want p q k k' flag own : ℕ} (s : Span) {c : ℕ} {r : Result Node Refusal} {t' : List ℕ} → k ≡ k' → Closes ws t want p q k flag own s c r t' → Closes ws t want p q k' flag own s c r t'
closes_kind {ws} {t} {want} {p} {q} {flag = flag} {own} s {c} {r} {t'} e x = subst (λ (k : ℕ). Closes ws t want p q k flag own s c r t') e x
