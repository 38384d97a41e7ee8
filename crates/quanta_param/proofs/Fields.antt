-- A field and its default: each way through their readers.
-- Assumes nothing.
use Rattle.std.specs.Prelude.{Err, None, Ok, Option, Result, Some}
use mathlib.Core.Path.{◌≡◌, refl, ap, ◌∙◌}
use mathlib.Core.List.{List, [], ◌∷◌}
use Prim.Native.Nat.{ℕ, ◌+◌, ◌≤◌}
use native.Mathlib.Omega.{arith}
use Rattle.grammar.specs.Grammar.{sub}
use Rattle.grammar.specs.Records.{Acc, Rec, nothing, own, pass, apart, widens, plus, start, make, fresh, leave, beside}
use Rattle.grammar.specs.Reader.{use', miss}
use Rattle.grammar.specs.Fused.{left}
use Rattle.grammar.proofs.Lines.{mark}
use Rattle.quanta_token.specs.TokenKind.{code, Colon, Meta, Eq, Semi}
use Rattle.quanta_grammar.specs.NodeKind.{node_code, name_node, field_node, flag_code, is_meta, has_default}
use Rattle.quanta_grammar.specs.RefusalKind.{refusal_code, expected_token, expected_identifier}
use Rattle.quanta_grammar.specs.Productions.{outs, name, expr, type, field, meta_opt, default, field_decl, meta, no_meta, a_default, no_default}
use Rattle.quanta_grammar.specs.Reading.{plan, reads}
use Rattle.quanta_cursor.specs.declared.parser.TokenPos.{TokenPos}
use Rattle.quanta_cursor.specs.declared.parser.Span.{Span}
use Rattle.quanta_cursor.specs.declared.parser.Node.{Node}
use Rattle.quanta_cursor.specs.declared.parser.Refusal.{Refusal}
use Rattle.quanta_cursor.specs.Tokens.{kind_at, from, tok_at, Ready}
use Rattle.quanta_cursor.specs.Answers.{single, Failed, Took, Meets}
use Rattle.quanta_cursor.specs.Cursor.{joined, span_at, Expects, Words, close_rec, Closes}
use Rattle.quanta_cursor.proofs.Sets.{is_one, not_one}
use Rattle.quanta_cursor.proofs.Places.{took_ready, ready_behind}
use Rattle.quanta_cursor.proofs.Doing.{Doing, picks, skips, begin, eat, bring, fails, over}
use Rattle.quanta_cursor.proofs.Under.{starts, worded, worded_in, unworded, phrased, unphrased, closed_by}
use Rattle.quanta_type.specs.Halves.{half_from, half_err, MeetsType}
use Rattle.quanta_type.proofs.Halves.{half_ready, bring_any, field_tail, semi_shown}
use Rattle.quanta_type.proofs.Types.{typed_of, half_of, untyped_of}
use Rattle.quanta_param.specs.declared.decl.Eaten.{Eaten}
use Rattle.quanta_param.specs.Options.{Eats, added, TookOpt, Opts}
use Rattle.quanta_param.proofs.Options.{After, expects_own, lacks_own, flagged, Keyword, eaten_few, eaten_in, opt_of, without, with_it, opt_bad}
use Rattle.quanta_grammar.specs.Refine.{Text}
use Rattle.quanta_type.specs.declared.half.Typed.TheVariants.{Whole, Half}
use Rattle.quanta_type.specs.declared.half.Typed.{Typed}

-- `meta`
meta_keyword : Keyword meta_opt (code Meta) (flag_code is_meta)
meta_keyword =
    record {
      there = λ src ws i a x h e. over (eat (begin src ws i h meta_opt meta a x (picks (code Meta ∷ []) meta [] (use' no_meta) tt src ws i (is_one (code Meta) e)) refl) tt h (is_one (code Meta) e) refl);
      missing = λ src ws i a x h n. over (begin src ws i h meta_opt no_meta a x (skips (code Meta ∷ []) meta [] (use' no_meta) tt src ws i (not_one (code Meta) n)) refl);
      no_end = λ u. u;
    }

-- THE DEFAULT
module _ (src : Text) (ws : List ℕ) (a : ℕ) {i n : ℕ} (g : Ready ws i n) (x : Acc) where
  pub default_missing : (kind_at ws i ≡ code Eq → ⊥) → reads default a (from src ws i) x ≡ left x (from src ws i)
  default_missing u = over (begin src ws i g.inside default no_default a x (skips (code Eq ∷ []) a_default [] (use' no_default) tt src ws i (not_one (code Eq) u)) refl)

  module _ (u : kind_at ws i ≡ code Eq) {p : ℕ} (e : p ≡ i + 1) where
    default_key : Doing (reads default a (from src ws i) x) src ws (tok_at src ws i) (mark nothing pass apart (plus (flag_code has_default) ∷ []) ∷ []) (sub expr ∷ []) a p x
    default_key = eat (begin src ws i g.inside default a_default a x (picks (code Eq ∷ []) a_default [] (use' no_default) tt src ws i (is_one (code Eq) u)) refl) tt g.inside (is_one (code Eq) u) e

    pub default_past : Ready ws p n
    default_past = ready_behind (code Eq) (λ u. u) g u e

    pub default_bad : {w : Refusal} → Failed (reads expr a (from src ws p) fresh) w → Failed (reads default a (from src ws i) x) w
    default_bad f = fails default_key f

    pub default_took : {t t₁ : List ℕ} {m : Node} → Took (reads expr a (from src ws p) fresh) src ws t n m t₁ → TookOpt (reads default a (from src ws i) x) x apart (flag_code has_default) src ws t n m t₁
    default_took k = record { top = k.top; below = k.below; gave = over (bring default_key tt k.gave); laid = k.laid; ready = took_ready src expr a default_past k }

-- A FIELD
module _ (src : Text) (ws : List ℕ) (a : ℕ) {i n : ℕ} (g : Ready ws i n) {s : Eaten}
    (v₀ : Eats ws i (code Meta) (flag_code is_meta) s) (t : List ℕ) where
  field_meta : After field_decl 1 src ws i a s.at.0 (flagged s.flag fresh) t n t n
  field_meta = eaten_in meta_keyword g v₀ (starts src ws field field_decl a g refl refl)

  pub meta_ready : Ready ws s.at.0 n
  meta_ready = field_meta.ready

  pub meta_few : s.flag ≤ 1
  meta_few = eaten_few meta_keyword g v₀

  module _ {t₁ : List ℕ} {y : Result Node Refusal} (v : Words name (node_code name_node) (refusal_code expected_identifier) ws t s.at.0 n y t₁) where
    pub field_nameless : {u : Refusal} → y ≡ Err u → Failed (reads field a (from src ws i) fresh) u
    field_nameless z = unworded name (node_code name_node) field_meta tt v tt (λ i. refl) z

    module _ {m : Node} (z : y ≡ Ok m) where
      field_named : After field_decl 2 src ws i a m.at.0 (worded apart (node_code name_node) ws s.at.0 (flagged s.flag fresh)) t n t₁ m.no.0
      field_named = worded_in name (node_code name_node) field_meta tt v (λ u. u) tt z

      pub named_ready : Ready ws m.at.0 m.no.0
      named_ready = field_named.ready

      -- its record, up to a `;` at p
      abbrev field_rec : ℕ → ℕ → ℕ → Rec
      field_rec p f c = close_rec ws p (node_code field_node) f m.at.0 (span_at ws i) c

      module _ {y₁ : Result TokenPos Refusal} (v₁ : Expects ws m.at.0 (code Colon) y₁) where
        pub field_colonless : {u : Refusal} → y₁ ≡ Err u → Failed (reads field a (from src ws i) fresh) u
        field_colonless z₁ = lacks_own (code Colon) field_named tt v₁ tt (λ i. refl) z₁

        module _ {b : TokenPos} (z₁ : y₁ ≡ Ok b) where
          abbrev colon : Acc
          colon = leave outs own apart (tok_at src ws m.at.0) (worded apart (node_code name_node) ws s.at.0 (flagged s.flag fresh))

          field_colon : After field_decl 3 src ws i a b.0 colon t n t₁ m.no.0
          field_colon = expects_own (code Colon) field_named tt v₁ (λ u. u) z₁

          pub colon_ready : Ready ws b.0 m.no.0
          colon_ready = field_colon.ready

          module _ {y₂ : Result (Typed Node) Refusal} {t₂ : List ℕ}
              (v₂ : MeetsType (reads type a (from src ws b.0) fresh) src ws t₁ m.no.0 y₂ t₂) where
            pub field_typeless : {u : Refusal} → y₂ ≡ Err u → Failed (reads field a (from src ws i) fresh) u
            field_typeless z₂ = unphrased field_colon (untyped_of z₂ v₂)

            -- the first closer of a `>>` closed its type, and the second is no `;`
            pub half_place : {d : Node} → y₂ ≡ Ok (Half d) → Ready ws d.at.0 d.no.0
            half_place z₂ = half_ready type a (half_of z₂ v₂) colon_ready

            pub field_halved : {d : Node} {u : Refusal} → y₂ ≡ Ok (Half d)
                → u ≡ half_err ws d.at.0 (refusal_code expected_token) (code Semi)
                → Failed (reads field a (from src ws i) fresh) u
            field_halved {d} z₂ e =
                let k = half_of z₂ v₂ in
                record {
                  refusal = miss plan (code Semi ∷ []) (half_from src ws d.at.0);
                  gave = bring_any src ws d.at.0 field_colon.doing tt k.gave
                      ∙ field_tail src ws d.at.0 (tok_at src ws i)
                      (mark nothing pass widens (start ∷ make (node_code field_node) ∷ [])) a
                      (beside apart colon (single k.top k.below d.span));
                  says = e ∙ semi_shown src ws d.at.0;
                }

            module _ {d : Node} (z₂ : y₂ ≡ Ok (Whole d)) where
              k : Took (reads type a (from src ws b.0) fresh) src ws t₁ m.no.0 d t₂
              k = typed_of z₂ v₂

              abbrev known : Acc
              known = beside apart colon (single k.top k.below d.span)

              field_typed : After field_decl 4 src ws i a d.at.0 known t n t₂ d.no.0
              field_typed = phrased field_colon tt k

              pub typed_ready : Ready ws d.at.0 d.no.0
              typed_ready = field_typed.ready

              module _ {y₃ : Result (Option Node) Refusal} {t₃ : List ℕ} (v₃ : Opts src default apart (flag_code has_default) ws d.at.0 d.no.0 a t₂ y₃ t₃) where
                pub field_defaultless : {u : Refusal} → y₃ ≡ Err u → Failed (reads field a (from src ws i) fresh) u
                field_defaultless z₃ = opt_bad field_typed v₃ z₃

                -- its type, and `;`
                pub field_plain : {r : Result Node Refusal} {t₄ : List ℕ} → y₃ ≡ Ok None → Closes ws t₃ (code Semi) d.at.0 d.no.0 (node_code field_node) s.flag m.at.0 (span_at ws i) 2 r t₄
                    → Meets (reads field a (from src ws i) fresh) src ws t n r t₄
                field_plain z₃ c =
                    let e : 0 + (0 + s.flag) ≡ s.flag = omega arith in
                    let u : Span = joined (span_at ws i) (span_at ws d.at.0) in
                    closed_by (span_at ws i) (code Semi) tt (λ u. u) tt (λ i. refl) (without field_typed v₃ z₃)
                    (ap (λ (f : ℕ). single (field_rec d.at.0 f 2) known.row u) e) c

                -- .. or with its default before it
                module _ {l : Node} (z₃ : y₃ ≡ Ok (Some l)) where
                  abbrev valued : Acc
                  valued =
                      let j = opt_of z₃ (v₃ known) in
                      added apart (flag_code has_default) known j.top j.below l.span

                  pub default_ready : Ready ws l.at.0 l.no.0
                  default_ready = (opt_of z₃ (v₃ known)).ready

                  pub field_valued : {f : ℕ} {r : Result Node Refusal} {t₄ : List ℕ} → f ≡ s.flag + 2 → Closes ws t₃ (code Semi) l.at.0 l.no.0 (node_code field_node) f m.at.0 (span_at ws i) 3 r t₄
                      → Meets (reads field a (from src ws i) fresh) src ws t n r t₄
                  field_valued {f} h c =
                      let e : 0 + (0 + s.flag + 2) ≡ f = omega arith in
                      let u : Span = joined (span_at ws i) (span_at ws l.at.0) in
                      closed_by (span_at ws i) (code Semi) tt (λ u. u) tt (λ i. refl) (with_it field_typed v₃ z₃)
                      (ap (λ (f : ℕ). single (field_rec l.at.0 f 3) valued.row u) e) c
