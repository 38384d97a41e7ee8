-- The parts of a program, an import and a contract: each way through their readers.
-- Assumes nothing.
use Rattle.std.specs.Prelude.{Err, Ok, Result}
use mathlib.Core.Path.{◌≡◌, refl, ap}
use mathlib.Core.List.{List, [], ◌∷◌}
use Prim.Native.Nat.{ℕ, suc, ◌+◌, ◌<◌, ◌≤◌}
use native.Mathlib.Omega.{arith}
use lib.Dec.{T, eqb}
use lib.ListN.{drop}
use Rattle.grammar.specs.Records.{Acc, none, put, glue, count, own, apart, widens, fresh, leave}
use Rattle.grammar.specs.Fused.{Outcome, left}
use Rattle.quanta_token.specs.TokenKind.{code, codes, Str, Contract, Import, LBrace, RBrace, From, Semi, Eof}
use Rattle.quanta_grammar.specs.NodeKind.{node_code, import_node, contract_node, name_node, str_node}
use Rattle.quanta_grammar.specs.RefusalKind.{refusal_code, expected_identifier, expected_string}
use Rattle.quanta_grammar.specs.Productions.{Symbol, Production, grammar, outs, name, type_name, import, more_imports, import_decl, contract, items, contract_decl}
use Rattle.quanta_grammar.specs.Reading.{reads}
use Rattle.quanta_cursor.specs.declared.parser.TokenPos.{TokenPos}
use Rattle.quanta_cursor.specs.declared.parser.Node.{Node}
use Rattle.quanta_cursor.specs.declared.parser.Nodes.{Nodes}
use Rattle.quanta_cursor.specs.declared.parser.Refusal.{Refusal}
use Rattle.quanta_cursor.specs.Tokens.{kind_at, from, tok_at, Ready}
use Rattle.quanta_cursor.specs.Answers.{single, Failed, Meets, TookAll, Lists}
use Rattle.quanta_cursor.specs.Cursor.{joined, span_at, Expects, leaf_rec, close_rec, Words, Closes}
use Rattle.quanta_cursor.specs.Lists.{grown, TookOn, words, WordList}
use Rattle.quanta_cursor.proofs.Sets.{is_one}
use Rattle.quanta_cursor.proofs.Places.{past_as, ready_past, all_few}
use Rattle.quanta_cursor.proofs.Meeting.{all_of, all_failed_of}
use Rattle.quanta_cursor.proofs.Lists.{glue_none, count_glue}
use Rattle.quanta_cursor.proofs.Listing.{on_of, on_failed_of}
use Rattle.quanta_cursor.proofs.Under.{Under, starts, owned, expects, unexpected, worded, worded_in, unworded, listed_in, unlisted, unphrased, alled, closed_by}
use Rattle.quanta_grammar.specs.Refine.{Text}

-- the production r of s at the token i, when k of its parts are read
abbrev After : {s : Symbol} → Production s → ℕ → Text → List ℕ → ℕ → ℕ → ℕ → Acc → List ℕ → ℕ → List ℕ → ℕ → Type 0
After {s} r k src ws i a p x t n tree q = Under (reads s a (from src ws i) fresh) src ws (tok_at src ws i) (drop k (outs.marks s r)) (drop k (grammar.parts s r)) a p x t n tree q

-- what a production's keyword leaves
abbrev keyed : Text → List ℕ → ℕ → Acc
keyed src ws i = leave outs own widens (tok_at src ws i) fresh

pub keyword_past : {ws : List ℕ} {i n p : ℕ} (c : ℕ) → (T (eqb c (code Eof)) → ⊥) → Ready ws i n → kind_at ws i ≡ c → p ≡ i + 1 → Ready ws p n
keyword_past c z g w e = ready_past g (past_as c z g.closed g.inside w) e

-- AN IMPORT
pub on_few : {o : Outcome} {x : Acc} {src : Text} {ws t : List ℕ} {n : ℕ} {r : Nodes} {t' : List ℕ} → TookOn o x src ws t n r t' → r.count + n ≤ r.no.0
on_few {src = src} {ws} {t} {n} {r} {t'} k =
    all_few {o = left (record { row = k.row; reach = fresh.reach; mine = fresh.mine; sum = 0 }) (from src ws r.at.0)} {src = src} {ws = ws} {t = t} {n = n} {r = r} {t' = t'}
    (record { acc = record { row = k.row; reach = fresh.reach; mine = fresh.mine; sum = 0 }; gave = refl; many = k.many; laid = k.laid; inside = k.ready.inside })

module _ (src : Text) (ws : List ℕ) (a : ℕ) {i n : ℕ} (g : Ready ws i n) (w : kind_at ws i ≡ code Import) {p : ℕ} (e : p ≡ i + 1) (t : List ℕ) where
  import_key : After import_decl 1 src ws i a p (keyed src ws i) t n t n
  import_key = owned (starts src ws import import_decl a g refl refl) tt (λ u. u) (is_one (code Import) w) e

  module _ {y : Result TokenPos Refusal} (v : Expects ws p (code LBrace) y) where
    pub import_unopened : {u : Refusal} → y ≡ Err u → Failed (reads import a (from src ws i) fresh) u
    import_unopened z = unexpected (code LBrace) import_key tt tt (λ i. refl) z v

    module _ {o : TokenPos} (z : y ≡ Ok o) where
      import_open : After import_decl 2 src ws i a o.0 (keyed src ws i) t n t n
      import_open = expects (code LBrace) import_key tt (λ u. u) z v

      pub open_ready : Ready ws o.0 n
      open_ready = import_open.ready

      module _ {y₁ : Result Nodes Refusal} {t₁ : List ℕ} (v₁ : WordList type_name more_imports ws t o.0 n y₁ t₁) where
        pub import_nameless : {u : Refusal} → y₁ ≡ Err u → Failed (reads import a (from src ws i) fresh) u
        import_nameless z = unlisted import_open (on_failed_of z (v₁ src (tok_at src ws i) a (keyed src ws i)))

        module _ {m : Nodes} (z₁ : y₁ ≡ Ok m) where
          k : TookOn (words type_name more_imports (tok_at src ws i) a (from src ws o.0) (keyed src ws i)) (keyed src ws i) src ws t n m t₁
          k = on_of z₁ (v₁ src (tok_at src ws i) a (keyed src ws i))

          pub names_ready : Ready ws m.at.0 m.no.0
          names_ready = k.ready

          pub names_few : m.count + 1 < 4294967296
          names_few = let z = on_few k in omega (arith, k.ready.fits, k.ready.inside, k.ready.closed.few)

          import_named : After import_decl 4 src ws i a m.at.0 (grown (keyed src ws i) k.row) t n t₁ m.no.0
          import_named = listed_in import_open k

          module _ {y₂ : Result TokenPos Refusal} (v₂ : Expects ws m.at.0 (code RBrace) y₂) where
            pub import_unclosed : {u : Refusal} → y₂ ≡ Err u → Failed (reads import a (from src ws i) fresh) u
            import_unclosed z = unexpected (code RBrace) import_named tt tt (λ i. refl) z v₂

            module _ {b : TokenPos} (z₂ : y₂ ≡ Ok b) where
              import_shut : After import_decl 5 src ws i a b.0 (grown (keyed src ws i) k.row) t n t₁ m.no.0
              import_shut = expects (code RBrace) import_named tt (λ u. u) z₂ v₂

              pub shut_ready : Ready ws b.0 m.no.0
              shut_ready = import_shut.ready

              module _ {y₃ : Result TokenPos Refusal} (v₃ : Expects ws b.0 (code From) y₃) where
                pub import_fromless : {u : Refusal} → y₃ ≡ Err u → Failed (reads import a (from src ws i) fresh) u
                import_fromless z = unexpected (code From) import_shut tt tt (λ i. refl) z v₃

                module _ {f : TokenPos} (z₃ : y₃ ≡ Ok f) where
                  import_from : After import_decl 6 src ws i a f.0 (grown (keyed src ws i) k.row) t n t₁ m.no.0
                  import_from = expects (code From) import_shut tt (λ u. u) z₃ v₃

                  pub from_ready : Ready ws f.0 m.no.0
                  from_ready = import_from.ready

                  module _ {y₄ : Result Node Refusal} {t₂ : List ℕ} (v₄ : Words (codes (Str ∷ [])) (node_code str_node) (refusal_code expected_string) ws t₁ f.0 m.no.0 y₄ t₂) where
                    pub import_pathless : {u : Refusal} → y₄ ≡ Err u → Failed (reads import a (from src ws i) fresh) u
                    import_pathless z = unworded (codes (Str ∷ [])) (node_code str_node) import_from tt v₄ tt (λ i. refl) z

                    module _ {s : Node} (z₄ : y₄ ≡ Ok s) where
                      import_path : After import_decl 7 src ws i a s.at.0 (worded apart (node_code str_node) ws f.0 (grown (keyed src ws i) k.row)) t n t₂ s.no.0
                      import_path = worded_in (codes (Str ∷ [])) (node_code str_node) import_from tt v₄ (λ u. u) tt z₄

                      pub path_ready : Ready ws s.at.0 s.no.0
                      path_ready = import_path.ready

                      pub import_met : {r : Result Node Refusal} {t₃ : List ℕ} → Closes ws t₂ (code Semi) s.at.0 s.no.0 (node_code import_node) 0 i (span_at ws i) (m.count + 1) r t₃ → Meets (reads import a (from src ws i) fresh) src ws t n r t₃
                      import_met c =
                          let x = k.many in
                          let y = ap count (glue_none k.row) in
                          let h : suc (count (glue none k.row)) ≡ m.count + 1 = omega arith in
                          closed_by (span_at ws i) (code Semi) tt (λ u. u) tt (λ i. refl) import_path
                          (ap (λ (c : ℕ). single (close_rec ws s.at.0 (node_code import_node) 0 i (span_at ws i) c) (put (glue none k.row) (leaf_rec ws f.0 (node_code str_node)) none) (joined (span_at ws i) (span_at ws s.at.0))) h) c

-- A CONTRACT
module _ (src : Text) (ws : List ℕ) (a : ℕ) {i n : ℕ} (g : Ready ws i n) (w : kind_at ws i ≡ code Contract) {p : ℕ} (e : p ≡ i + 1) (t : List ℕ) where
  contract_key : After contract_decl 1 src ws i a p (keyed src ws i) t n t n
  contract_key = owned (starts src ws contract contract_decl a g refl refl) tt (λ u. u) (is_one (code Contract) w) e

  module _ {y : Result Node Refusal} {t₁ : List ℕ} (v : Words name (node_code name_node) (refusal_code expected_identifier) ws t p n y t₁) where
    pub contract_nameless : {u : Refusal} → y ≡ Err u → Failed (reads contract a (from src ws i) fresh) u
    contract_nameless z = unworded name (node_code name_node) contract_key tt v tt (λ i. refl) z

    module _ {m : Node} (z : y ≡ Ok m) where
      abbrev named : Acc
      named = worded apart (node_code name_node) ws p (keyed src ws i)

      contract_named : After contract_decl 2 src ws i a m.at.0 named t n t₁ m.no.0
      contract_named = worded_in name (node_code name_node) contract_key tt v (λ u. u) tt z

      pub name_ready : Ready ws m.at.0 m.no.0
      name_ready = contract_named.ready

      module _ {y₁ : Result TokenPos Refusal} (v₁ : Expects ws m.at.0 (code LBrace) y₁) where
        pub contract_unopened : {u : Refusal} → y₁ ≡ Err u → Failed (reads contract a (from src ws i) fresh) u
        contract_unopened z = unexpected (code LBrace) contract_named tt tt (λ i. refl) z v₁

        module _ {o : TokenPos} (z₁ : y₁ ≡ Ok o) where
          contract_open : After contract_decl 3 src ws i a o.0 named t n t₁ m.no.0
          contract_open = expects (code LBrace) contract_named tt (λ u. u) z₁ v₁

          pub body_ready : Ready ws o.0 m.no.0
          body_ready = contract_open.ready

          module _ {y₂ : Result Nodes Refusal} {t₂ : List ℕ} (v₂ : Lists src items ws o.0 m.no.0 a t₁ y₂ t₂) where
            pub contract_bad : {u : Refusal} → y₂ ≡ Err u → Failed (reads contract a (from src ws i) fresh) u
            contract_bad z = unphrased contract_open (all_failed_of z v₂)

            module _ {k : Nodes} (z₂ : y₂ ≡ Ok k) where
              body : TookAll (reads items a (from src ws o.0) fresh) src ws t₁ m.no.0 k t₂
              body = all_of z₂ v₂

              contract_full : After contract_decl 4 src ws i a k.at.0 (grown named body.acc.row) t n t₂ k.no.0
              contract_full = alled contract_open tt body

              pub full_ready : Ready ws k.at.0 k.no.0
              full_ready = contract_full.ready

              pub full_few : k.count + 1 < 4294967296
              full_few = let z = all_few body in omega (arith, full_ready.fits, full_ready.inside, full_ready.closed.few)

              pub contract_met : {r : Result Node Refusal} {t₃ : List ℕ} → Closes ws t₂ (code RBrace) k.at.0 k.no.0 (node_code contract_node) 0 i (span_at ws i) (k.count + 1) r t₃ → Meets (reads contract a (from src ws i) fresh) src ws t n r t₃
              contract_met c =
                  let x = body.many in
                  let y = count_glue named.row body.acc.row in
                  let h : count (glue named.row body.acc.row) ≡ k.count + 1 = omega arith in
                  closed_by (span_at ws i) (code RBrace) tt (λ u. u) tt (λ i. refl) contract_full
                  (ap (λ (c : ℕ). single (close_rec ws k.at.0 (node_code contract_node) 0 i (span_at ws i) c) (glue named.row body.acc.row) (joined (span_at ws i) (span_at ws k.at.0))) h) c
