-- The statements that begin with a keyword: each way through their readers.
-- Assumes nothing.
use Rattle.std.specs.Prelude.{Err, Ok, Result}
use mathlib.Core.Path.{◌≡◌, refl, ap, subst, ◌∙◌}
use mathlib.Core.List.{List, [], ◌∷◌}
use Prim.Native.Nat.{ℕ, ◌+◌}
use native.Mathlib.Omega.{arith}
use lib.Dec.{T, eqb, eqb→eq}
use Rattle.grammar.specs.Grammar.{Tok, Items, one, sub, has}
use Rattle.grammar.specs.Records.{Acc, Mark, Row, none, put, glue, count, fresh, nothing, own, word, pass, apart}
use Rattle.grammar.specs.Records.{widens, make, leave, leaf_kind}
use Rattle.grammar.specs.Reader.{use', Choice}
use Rattle.grammar.specs.Fused.{Outcome}
use Rattle.grammar.proofs.Lines.{mark}
use Rattle.grammar.proofs.Table.{all_at}
use Rattle.quanta_token.specs.TokenKind.{code, Guard, Let, Emit, Eq, LParen, RParen, Semi}
use Rattle.quanta_grammar.specs.NodeKind.{NodeKind, node_code, guard_node, let_node, emit_node, name_node}
use Rattle.quanta_grammar.specs.Productions.{Production, grammar, outs, name, expr, args, stmt}
use Rattle.quanta_grammar.specs.Productions.{guard_stmt, let_stmt, emit_stmt, assign_or_expr_stmt}
use Rattle.quanta_grammar.specs.Reading.{reads}
use Rattle.quanta_grammar.specs.Refine.{Text}
use Rattle.quanta_cursor.specs.declared.parser.TokenPos.{TokenPos}
use Rattle.quanta_cursor.specs.declared.parser.Node.{Node}
use Rattle.quanta_cursor.specs.declared.parser.Nodes.{Nodes}
use Rattle.quanta_cursor.specs.declared.parser.Span.{Span}
use Rattle.quanta_cursor.specs.declared.parser.Refusal.{Refusal}
use Rattle.quanta_cursor.specs.Tokens.{kind_at, from, tok_at, Ready}
use Rattle.quanta_cursor.specs.Tree.{Laid}
use Rattle.quanta_cursor.specs.Answers.{single, Failed, Took, TookAll, Meets}
use Rattle.quanta_cursor.specs.Cursor.{joined, span_at, leaf_rec, Expects, close_rec, Closes}
use Rattle.quanta_cursor.proofs.Sets.{fine_kind, is_one, not_one}
use Rattle.quanta_cursor.proofs.Places.{laid_none, laid_word, laid_glue, took_ready, all_ready, ready_behind}
use Rattle.quanta_cursor.proofs.Meeting.{word_of, no_word_of, next_of, lacks_of}
use Rattle.quanta_cursor.proofs.Lists.{count_glue}
use Rattle.quanta_cursor.proofs.Doing.{Doing, picks, skips, begin, eat, lack, bring, fails, seal}
use Rattle.quanta_stmt.proofs.Standing.{Named, name_ready, next_ready}

abbrev bare : Choice (Production stmt)
bare = use' assign_or_expr_stmt

abbrev w2 : List (List ℕ × Production stmt)
w2 = (code Emit ∷ [], emit_stmt) ∷ []

abbrev w1 : List (List ℕ × Production stmt)
w1 = (code Let ∷ [], let_stmt) ∷ w2

-- the marks of a token or a phrase in the statement, and of its end
abbrev part : Mark
part = mark nothing pass apart []

abbrev end : NodeKind → Mark
end k = mark nothing pass widens (make (node_code k) ∷ [])

-- A KEYWORD'S NAME, a record of its own
name_kind : (k : ℕ) → T (has name k) → leaf_kind outs.leafs k ≡ node_code name_node
name_kind k t =
    eqb→eq (leaf_kind outs.leafs k) (node_code name_node)
    (all_at (λ k. eqb (leaf_kind outs.leafs k) (node_code name_node)) name k tt t)

abbrev row_of : List ℕ → ℕ → Row
row_of ws p = put none (leaf_rec ws p (node_code name_node)) none

abbrev naming : List ℕ → ℕ → Acc → Acc
naming ws p x =
    record { row = put x.row (leaf_rec ws p (node_code name_node)) none; reach = x.reach; mine = x.mine; sum = x.sum }

module _ {ws : List ℕ} {p n : ℕ} (g : Ready ws p n) {t t₁ : List ℕ} {r : Result Node Refusal}
    (v : Named ws p n t r t₁) where
  name_laid : {m : Node} → r ≡ Ok m → Laid t n (row_of ws p) t₁ m.no.0
  name_laid z =
      let y = word_of z v in
      laid_word (leaf_rec ws p (node_code name_node)) laid_none y.2 (ap (λ (m : Node). m.no.0) y.1)

  module _ {o : Outcome} {src : Text} {t₀ : Tok} {ms : List Mark} {is : Items grammar} {a : ℕ} {x : Acc}
      (d : Doing o src ws t₀ (mark word pass apart [] ∷ ms) (one name ∷ is) a p x) where
    unnamed : {e : Refusal} → r ≡ Err e → Failed o e
    unnamed z = let y = no_word_of z v in lack d tt g.closed g.inside y.0 tt y.1

    named : {m : Node} → r ≡ Ok m → Doing o src ws t₀ ms is a m.at.0 (naming ws p x)
    named {m} z =
        let y = word_of z v in
        subst (λ (k : ℕ). Doing o src ws t₀ ms is a m.at.0
        (record { row = put x.row (leaf_rec ws p k) none; reach = x.reach; mine = x.mine; sum = x.sum }))
        (fine_kind (leaf_kind outs.leafs) refl refl refl refl src ws p ∙ name_kind (kind_at ws p) y.0)
        (eat d tt g.inside y.0 (ap (λ (m : Node). m.at.0) y.1))

-- a keyword stands where the reader may
abbrev pub At : ℕ → List ℕ → ℕ → ℕ → Type 0
At k ws at n = Ready ws at n × (kind_at ws at ≡ k)

module _ {ws : List ℕ} {at n p : ℕ} (q : p ≡ at + 1) where
  -- the reader's places in a guard
  pub guard_value : At (code Guard) ws at n → Ready ws p n
  guard_value b = ready_behind (code Guard) (λ u. u) b.0 b.1 q

  -- .. in a let
  module _ (b : At (code Let) ws at n) where
    pub let_name : Ready ws p n
    let_name = ready_behind (code Let) (λ u. u) b.0 b.1 q

    module _ {t t₁ : List ℕ} {r : Result Node Refusal} (v : Named ws p n t r t₁) {m : Node} (z : r ≡ Ok m) where
      pub let_eq : Ready ws m.at.0 m.no.0
      let_eq = name_ready let_name v z

      pub let_value : {x : Result TokenPos Refusal} {i : TokenPos} → Expects ws m.at.0 (code Eq) x → x ≡ Ok i
          → Ready ws i.0 m.no.0
      let_value w y = next_ready let_eq (code Eq) (λ u. u) w y

  -- .. in an emit
  module _ (b : At (code Emit) ws at n) where
    pub emit_name : Ready ws p n
    emit_name = ready_behind (code Emit) (λ u. u) b.0 b.1 q

    module _ {t t₁ : List ℕ} {r : Result Node Refusal} (v : Named ws p n t r t₁) {m : Node} (z : r ≡ Ok m) where
      pub emit_open : Ready ws m.at.0 m.no.0
      emit_open = name_ready emit_name v z

      pub emit_args : {x : Result TokenPos Refusal} {i : TokenPos} → Expects ws m.at.0 (code LParen) x → x ≡ Ok i
          → Ready ws i.0 m.no.0
      emit_args w y = next_ready emit_open (code LParen) (λ u. u) w y

abbrev whole : Text → ℕ → List ℕ → ℕ → Outcome
whole src a ws at = reads stmt a (from src ws at) fresh

abbrev begun : Text → List ℕ → ℕ → Acc
begun src ws at = leave outs own widens (tok_at src ws at) fresh

not_yet : (k : ℕ) {c i : ℕ} → i ≡ c → (T (has (k ∷ []) c) → ⊥) → T (has (k ∷ []) i) → ⊥
not_yet k e n t = n (subst (λ (j : ℕ). T (has (k ∷ []) j)) e t)

module _ (src : Text) (a : ℕ) {ws : List ℕ} {at n p : ℕ} (q : p ≡ at + 1) where
  -- GUARD
  module _ (b : At (code Guard) ws at n) where
    guarding : Doing (whole src a ws at) src ws (tok_at src ws at) (part ∷ end guard_node ∷ [])
        (sub expr ∷ one (code Semi ∷ []) ∷ []) a p (begun src ws at)
    guarding =
        eat (begin src ws at b.0.inside stmt guard_stmt a fresh
        (picks (code Guard ∷ []) guard_stmt w1 bare tt src ws at (is_one (code Guard) b.1)) refl)
        tt b.0.inside (is_one (code Guard) b.1) q

    pub guard_bad : {u : Refusal} → Failed (reads expr a (from src ws p) fresh) u → Failed (whole src a ws at) u
    guard_bad f = fails guarding f

    pub guard_met : {t : List ℕ} {m : Node} {s : Span} {r : Result Node Refusal} {t₂ t₃ : List ℕ}
        → Took (reads expr a (from src ws p) fresh) src ws t n m t₂ → s ≡ span_at ws at
        → Closes ws t₂ (code Semi) m.at.0 m.no.0 (node_code guard_node) 0 at s 1 r t₃
        → Meets (whole src a ws at) src ws t n r t₃
    guard_met {t} {m} {s} {r} {t₂} {t₃} k z c =
        seal (span_at ws at) (code Semi) tt (λ u. u) tt (λ i. refl)
        (bring guarding tt k.gave) (took_ready src expr a (guard_value q b) k) k.laid refl
        (subst (λ (s : Span). Closes ws t₂ (code Semi) m.at.0 m.no.0 (node_code guard_node) 0 at s 1 r t₃) z c)

  -- LET
  module _ (b : At (code Let) ws at n) {t t₁ : List ℕ} {r : Result Node Refusal} (v : Named ws p n t r t₁) where
    letting : Doing (whole src a ws at) src ws (tok_at src ws at)
        (mark word pass apart [] ∷ part ∷ part ∷ end let_node ∷ [])
        (one name ∷ one (code Eq ∷ []) ∷ sub expr ∷ one (code Semi ∷ []) ∷ []) a p (begun src ws at)
    letting =
        eat (begin src ws at b.0.inside stmt let_stmt a fresh
        (skips (code Guard ∷ []) guard_stmt w1 bare tt src ws at (not_yet (code Guard) b.1 (λ t. t))
        ∙ picks (code Let ∷ []) let_stmt w2 bare tt src ws at (is_one (code Let) b.1)) refl)
        tt b.0.inside (is_one (code Let) b.1) q

    pub let_unnamed : {u : Refusal} → r ≡ Err u → Failed (whole src a ws at) u
    let_unnamed z = unnamed (let_name q b) v letting z

    module _ {m : Node} (z : r ≡ Ok m) {x : Result TokenPos Refusal} (w : Expects ws m.at.0 (code Eq) x) where
      pub let_unset : {u : Refusal} → x ≡ Err u → Failed (whole src a ws at) u
      let_unset y =
          let k = let_eq q b v z in
          let l = lacks_of y w in
          lack (named (let_name q b) v letting z) tt k.closed k.inside (not_one (code Eq) l.0) tt l.1

      module _ {i : TokenPos} (y : x ≡ Ok i) where
        setting : Doing (whole src a ws at) src ws (tok_at src ws at) (part ∷ end let_node ∷ [])
            (sub expr ∷ one (code Semi ∷ []) ∷ []) a i.0 (naming ws p (begun src ws at))
        setting =
            let l = next_of y w in
            eat (named (let_name q b) v letting z) tt (let_eq q b v z).inside (is_one (code Eq) l.0) l.1

        pub let_bad : {u : Refusal} → Failed (reads expr a (from src ws i.0) fresh) u → Failed (whole src a ws at) u
        let_bad f = fails setting f

        pub let_met : {k : Node} {s : Span} {f : Result Node Refusal} {t₂ t₃ : List ℕ}
            → Took (reads expr a (from src ws i.0) fresh) src ws t₁ m.no.0 k t₂ → s ≡ span_at ws at
            → Closes ws t₂ (code Semi) k.at.0 k.no.0 (node_code let_node) 0 at s 2 f t₃
            → Meets (whole src a ws at) src ws t n f t₃
        let_met {k} {s} {f} {t₂} {t₃} l d c =
            seal (span_at ws at) (code Semi) tt (λ u. u) tt (λ i. refl)
            (bring setting tt l.gave) (took_ready src expr a (let_value q b v z w y) l)
            (laid_glue (name_laid (let_name q b) v z) l.laid) refl
            (subst (λ (s : Span). Closes ws t₂ (code Semi) k.at.0 k.no.0 (node_code let_node) 0 at s 2 f t₃) d c)

  -- EMIT
  module _ (b : At (code Emit) ws at n) {t t₁ : List ℕ} {r : Result Node Refusal} (v : Named ws p n t r t₁) where
    emitting : Doing (whole src a ws at) src ws (tok_at src ws at)
        (mark word pass apart [] ∷ part ∷ part ∷ part ∷ end emit_node ∷ [])
        (one name ∷ one (code LParen ∷ []) ∷ sub args ∷ one (code RParen ∷ []) ∷ one (code Semi ∷ []) ∷ [])
        a p (begun src ws at)
    emitting =
        eat (begin src ws at b.0.inside stmt emit_stmt a fresh
        (skips (code Guard ∷ []) guard_stmt w1 bare tt src ws at (not_yet (code Guard) b.1 (λ t. t))
        ∙ skips (code Let ∷ []) let_stmt w2 bare tt src ws at (not_yet (code Let) b.1 (λ t. t))
        ∙ picks (code Emit ∷ []) emit_stmt [] bare tt src ws at (is_one (code Emit) b.1)) refl)
        tt b.0.inside (is_one (code Emit) b.1) q

    pub emit_unnamed : {u : Refusal} → r ≡ Err u → Failed (whole src a ws at) u
    emit_unnamed z = unnamed (emit_name q b) v emitting z

    module _ {m : Node} (z : r ≡ Ok m) {x : Result TokenPos Refusal} (w : Expects ws m.at.0 (code LParen) x) where
      pub emit_unopened : {u : Refusal} → x ≡ Err u → Failed (whole src a ws at) u
      emit_unopened y =
          let k = emit_open q b v z in
          let l = lacks_of y w in
          lack (named (emit_name q b) v emitting z) tt k.closed k.inside (not_one (code LParen) l.0) tt l.1

      module _ {i : TokenPos} (y : x ≡ Ok i) where
        opened : Doing (whole src a ws at) src ws (tok_at src ws at) (part ∷ part ∷ end emit_node ∷ [])
            (sub args ∷ one (code RParen ∷ []) ∷ one (code Semi ∷ []) ∷ []) a i.0 (naming ws p (begun src ws at))
        opened =
            let l = next_of y w in
            eat (named (emit_name q b) v emitting z) tt (emit_open q b v z).inside (is_one (code LParen) l.0) l.1

        pub emit_bad : {u : Refusal} → Failed (reads args a (from src ws i.0) fresh) u → Failed (whole src a ws at) u
        emit_bad f = fails opened f

        module _ {k : Nodes} {t₂ : List ℕ} (l : TookAll (reads args a (from src ws i.0) fresh) src ws t₁ m.no.0 k t₂)
            {x₂ : Result TokenPos Refusal} (w₂ : Expects ws k.at.0 (code RParen) x₂) where
          args_ready : Ready ws k.at.0 k.no.0
          args_ready = all_ready src args a (emit_args q b v z w y) l

          pub emit_unclosed : {u : Refusal} → x₂ ≡ Err u → Failed (whole src a ws at) u
          emit_unclosed y₂ =
              let f = lacks_of y₂ w₂ in
              lack (bring opened tt l.gave) tt args_ready.closed args_ready.inside (not_one (code RParen) f.0) tt f.1

          pub emit_met : {j : TokenPos} → x₂ ≡ Ok j → {s : Span} {f : Result Node Refusal} {t₃ : List ℕ}
              → s ≡ span_at ws at
              → Closes ws t₂ (code Semi) j.0 k.no.0 (node_code emit_node) 0 at s (k.count + 1) f t₃
              → Meets (whole src a ws at) src ws t n f t₃
          emit_met {j} y₂ {s} {f} {t₃} d c =
              let o = next_of y₂ w₂ in
              seal (span_at ws at) (code Semi) tt (λ u. u) tt (λ i. refl)
              (eat (bring opened tt l.gave) tt args_ready.inside (is_one (code RParen) o.0) o.1)
              (next_ready args_ready (code RParen) (λ u. u) w₂ y₂) (laid_glue (name_laid (emit_name q b) v z) l.laid)
              (ap (λ (i : ℕ). single (close_rec ws j.0 (node_code emit_node) 0 at (span_at ws at) i)
              (glue (row_of ws p) l.acc.row) (joined (span_at ws at) (span_at ws j.0))) many)
              (subst (λ (s : Span). Closes ws t₂ (code Semi) j.0 k.no.0 (node_code emit_node) 0 at s (k.count + 1) f t₃)
              d c)
            where
              many : count (glue (row_of ws p) l.acc.row) ≡ k.count + 1
              many = let x = l.many in let y = count_glue (row_of ws p) l.acc.row in omega arith
