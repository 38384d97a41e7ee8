-- A parameter, its signer, and a list of parameters: each way through their readers.
-- Assumes nothing.
use Rattle.std.specs.Prelude.{Err, None, Ok, Option, Result, Some}
use mathlib.Core.Path.{◌≡◌, refl, ap, sym, subst, ◌∙◌}
use mathlib.Core.List.{List, [], ◌∷◌}
use Prim.Native.Nat.{ℕ, ◌+◌, ◌≤◌}
use native.Mathlib.Omega.{arith}
use Rattle.grammar.specs.Grammar.{one, sub}
use Rattle.grammar.specs.Records.{Acc, Rec, Row, none, count, fresh, leave, beside}
use Rattle.grammar.specs.Records.{nothing, own, word, pass, fold, apart, replaces, plus, start, make}
use Rattle.grammar.specs.Reader.{use', miss}
use Rattle.grammar.specs.Fused.{Outcome, left}
use Rattle.grammar.proofs.Lines.{mark}
use Rattle.quanta_token.specs.TokenKind.{code, Colon, Sealed, Signed, By, LParen, RParen}
use Rattle.quanta_grammar.specs.NodeKind.{node_code, name_node, param_node, flag_code, is_sealed, is_signed}
use Rattle.quanta_grammar.specs.RefusalKind.{refusal_code, expected_token, expected_identifier}
use Rattle.quanta_grammar.specs.Productions.{outs, name, type, param, params, more_params, param_list, sealed_opt, signed_opt, param_decl, parens, some_params, no_params, sealed, no_sealed, signed_by, no_signed}
use Rattle.quanta_grammar.specs.Reading.{plan, reads}
use Rattle.quanta_cursor.specs.declared.parser.TokenPos.{TokenPos}
use Rattle.quanta_cursor.specs.declared.parser.Span.{Span}
use Rattle.quanta_cursor.specs.declared.parser.Node.{Node}
use Rattle.quanta_cursor.specs.declared.parser.Nodes.{Nodes}
use Rattle.quanta_cursor.specs.declared.parser.Refusal.{Refusal}
use Rattle.quanta_cursor.specs.Tokens.{kind_at, from, tok_at, Ready}
use Rattle.quanta_cursor.specs.Tree.{rec_of, Laid}
use Rattle.quanta_cursor.specs.Answers.{single, Failed, Took, TookAll}
use Rattle.quanta_cursor.specs.Cursor.{joined, span_at, Expects, leaf_rec, Words}
use Rattle.quanta_cursor.specs.Lists.{grown, TookOn}
use Rattle.quanta_cursor.proofs.Sets.{is_one, not_one}
use Rattle.quanta_cursor.proofs.Places.{past_as, past_in, ready_past, ready_word, ready_behind}
use Rattle.quanta_cursor.proofs.Places.{laid_none, laid_word, laid_glue, laid_put}
use Rattle.quanta_cursor.proofs.Meeting.{next_of, lacks_of, word_of, no_word_of}
use Rattle.quanta_cursor.proofs.Doing.{Doing, picks, skips, begin, eat, lack, fold_fails, over}
use Rattle.quanta_cursor.proofs.Lists.{glue_none}
use Rattle.quanta_cursor.proofs.Listing.{list_fails}
use Rattle.quanta_cursor.proofs.Under.{starts, expects, unexpected, worded, worded_in, unworded, phrased, unphrased, alled}
use Rattle.quanta_type.specs.Halves.{half_from, half_err, TookHalf, MeetsType, AnswersTypes, ListsTypes}
use Rattle.quanta_type.proofs.Halves.{half_ready, list_any, bring_any, param_tail, paren_tail, paren_shown}
use Rattle.quanta_type.proofs.Types.{typed_of, half_of, untyped_of, types_of, types_half_of, no_types_of}
use Rattle.quanta_type.proofs.Arguments.{whole}
use Rattle.quanta_param.specs.declared.decl.Eaten.{Eaten}
use Rattle.quanta_param.specs.Options.{Eats, added, TookOpt, Opts, EndsAt}
use Rattle.quanta_param.proofs.Options.{After, expects_own, lacks_own, flagged, Keyword, eaten_few, eaten_in, missing_of, opt_of, opt_failed_of, eat_word_then, ended_by}
use Rattle.quanta_grammar.specs.Refine.{Text}
use Rattle.quanta_type.specs.declared.half.Typed.TheVariants.{Whole, Half}
use Rattle.quanta_type.specs.declared.half.Typed.{Typed}

-- `sealed`
sealed_keyword : Keyword sealed_opt (code Sealed) (flag_code is_sealed)
sealed_keyword =
    record {
      there = λ src ws i a x h e. over (eat (begin src ws i h sealed_opt sealed a x (picks (code Sealed ∷ []) sealed [] (use' no_sealed) tt src ws i (is_one (code Sealed) e)) refl) tt h (is_one (code Sealed) e) refl);
      missing = λ src ws i a x h n. over (begin src ws i h sealed_opt no_sealed a x (skips (code Sealed ∷ []) sealed [] (use' no_sealed) tt src ws i (not_one (code Sealed) n)) refl);
      no_end = λ u. u;
    }

-- THE SIGNER
module _ (src : Text) (ws : List ℕ) (a : ℕ) {i n : ℕ} (g : Ready ws i n) (x : Acc) where
  pub signer_missing : (kind_at ws i ≡ code Signed → ⊥) → reads signed_opt a (from src ws i) x ≡ left x (from src ws i)
  signer_missing u = over (begin src ws i g.inside signed_opt no_signed a x (skips (code Signed ∷ []) signed_by [] (use' no_signed) tt src ws i (not_one (code Signed) u)) refl)

  module _ (u : kind_at ws i ≡ code Signed) {p : ℕ} (e : p ≡ i + 1) where
    signer_key : Doing (reads signed_opt a (from src ws i) x) src ws (tok_at src ws i) (mark nothing pass apart [] ∷ mark word pass replaces (plus (flag_code is_signed) ∷ []) ∷ []) (one (code By ∷ []) ∷ one name ∷ []) a p x
    signer_key = eat (begin src ws i g.inside signed_opt signed_by a x (picks (code Signed ∷ []) signed_by [] (use' no_signed) tt src ws i (is_one (code Signed) u)) refl) tt g.inside (is_one (code Signed) u) e

    pub signer_past : Ready ws p n
    signer_past = ready_behind (code Signed) (λ u. u) g u e

    module _ {y : Result TokenPos Refusal} (v : Expects ws p (code By) y) where
      pub signer_byless : {w : Refusal} → y ≡ Err w → Failed (reads signed_opt a (from src ws i) x) w
      signer_byless z = let w = lacks_of z v in lack signer_key tt g.closed signer_past.inside (not_one (code By) w.0) tt w.1

      module _ {b : TokenPos} (z : y ≡ Ok b) where
        signer_by : Doing (reads signed_opt a (from src ws i) x) src ws (tok_at src ws i) (mark word pass replaces (plus (flag_code is_signed) ∷ []) ∷ []) (one name ∷ []) a b.0 x
        signer_by = let w = next_of z v in eat signer_key tt signer_past.inside (is_one (code By) w.0) w.1

        pub by_ready : Ready ws b.0 n
        by_ready = let w = next_of z v in ready_past signer_past (past_as (code By) (λ u. u) g.closed signer_past.inside w.0) w.1

        module _ {t t₁ : List ℕ} {y₁ : Result Node Refusal} (v₁ : Words name (node_code name_node) (refusal_code expected_identifier) ws t b.0 n y₁ t₁) where
          pub signer_nameless : {w : Refusal} → y₁ ≡ Err w → Failed (reads signed_opt a (from src ws i) x) w
          signer_nameless z₁ = let w = no_word_of z₁ v₁ in lack signer_by tt g.closed by_ready.inside w.0 tt w.1

          pub signer_took : {m : Node} → y₁ ≡ Ok m → TookOpt (reads signed_opt a (from src ws i) x) x replaces (flag_code is_signed) src ws t n m t₁
          signer_took {m} z₁ =
              let w = word_of z₁ v₁ in
              subst (λ (m : Node). TookOpt (reads signed_opt a (from src ws i) x) x replaces (flag_code is_signed) src ws t n m t₁) (sym w.1) (record {
                top = leaf_rec ws b.0 (node_code name_node);
                below = none;
                gave = over (eat_word_then name (node_code name_node) signer_by tt tt by_ready.inside w.0);
                laid = laid_word (leaf_rec ws b.0 (node_code name_node)) laid_none w.2 refl;
                ready = ready_word by_ready (past_in name (λ u. u) g.closed by_ready.inside w.0) refl refl;
              })

-- A PARAMETER
module _ (src : Text) (ws : List ℕ) (a : ℕ) {i n : ℕ} (g : Ready ws i n) {t t₁ : List ℕ} {y : Result Node Refusal}
    (v : Words name (node_code name_node) (refusal_code expected_identifier) ws t i n y t₁) where
  pub param_nameless : {u : Refusal} → y ≡ Err u → Failed (reads param a (from src ws i) fresh) u
  param_nameless z = unworded name (node_code name_node) (starts src ws param param_decl a g refl refl) tt v tt (λ i. refl) z

  module _ {m : Node} (z : y ≡ Ok m) where
    param_named : After param_decl 1 src ws i a m.at.0 (worded apart (node_code name_node) ws i fresh) t n t₁ m.no.0
    param_named = worded_in name (node_code name_node) (starts src ws param param_decl a g refl refl) tt v (λ u. u) tt z

    pub named_ready : Ready ws m.at.0 m.no.0
    named_ready = param_named.ready

    -- its record, which begins with its name
    abbrev param_rec : ℕ → Span → ℕ → Rec
    param_rec f s c = rec_of (node_code param_node) f m.at.0 s.start s.end c

    from_name : (t₂ : List ℕ) (f c : ℕ) (l r : Node) (t₃ : List ℕ)
        → EndsAt t₂ (node_code param_node) f m.at.0 (joined m.span l.span) c l r t₃
        → EndsAt t₂ (node_code param_node) f m.at.0 (joined (span_at ws i) l.span) c l r t₃
    from_name t₂ f c l r t₃ e =
        subst (λ (s : Span). EndsAt t₂ (node_code param_node) f m.at.0 (joined s l.span) c l r t₃)
        (ap (λ (m : Node). m.span) (word_of z v).1) e

    module _ {y₁ : Result TokenPos Refusal} (v₁ : Expects ws m.at.0 (code Colon) y₁) where
      pub param_colonless : {u : Refusal} → y₁ ≡ Err u → Failed (reads param a (from src ws i) fresh) u
      param_colonless z₁ = lacks_own (code Colon) param_named tt v₁ tt (λ i. refl) z₁

      module _ {b : TokenPos} (z₁ : y₁ ≡ Ok b) where
        param_colon : After param_decl 2 src ws i a b.0 (leave outs own apart (tok_at src ws m.at.0) (worded apart (node_code name_node) ws i fresh)) t n t₁ m.no.0
        param_colon = expects_own (code Colon) param_named tt v₁ (λ u. u) z₁

        pub colon_ready : Ready ws b.0 m.no.0
        colon_ready = param_colon.ready

        module _ {s : Eaten} (v₂ : Eats ws b.0 (code Sealed) (flag_code is_sealed) s) where
          abbrev sealing : Acc
          sealing = flagged s.flag (leave outs own apart (tok_at src ws m.at.0) (worded apart (node_code name_node) ws i fresh))

          param_sealed : After param_decl 3 src ws i a s.at.0 sealing t n t₁ m.no.0
          param_sealed = eaten_in sealed_keyword colon_ready v₂ param_colon

          pub sealed_ready : Ready ws s.at.0 m.no.0
          sealed_ready = param_sealed.ready

          pub sealed_few : s.flag ≤ 1
          sealed_few = eaten_few sealed_keyword colon_ready v₂

          module _ {y₃ : Result (Typed Node) Refusal} {t₂ : List ℕ}
              (v₃ : MeetsType (reads type a (from src ws s.at.0) fresh) src ws t₁ m.no.0 y₃ t₂) where
            pub param_typeless : {u : Refusal} → y₃ ≡ Err u → Failed (reads param a (from src ws i) fresh) u
            param_typeless z₃ = unphrased param_sealed (untyped_of z₃ v₃)

            module _ {d : Node} (z₃ : y₃ ≡ Ok (Whole d)) where
              k : Took (reads type a (from src ws s.at.0) fresh) src ws t₁ m.no.0 d t₂
              k = typed_of z₃ v₃

              abbrev known : Acc
              known = beside replaces sealing (single k.top k.below d.span)

              param_typed : After param_decl 4 src ws i a d.at.0 known t n t₂ d.no.0
              param_typed = phrased param_sealed tt k

              pub typed_ready : Ready ws d.at.0 d.no.0
              typed_ready = param_typed.ready

              module _ {y₄ : Result (Option Node) Refusal} {t₃ : List ℕ} (v₄ : Opts src signed_opt replaces (flag_code is_signed) ws d.at.0 d.no.0 a t₂ y₄ t₃) where
                pub param_missigned : {u : Refusal} → y₄ ≡ Err u → Failed (reads param a (from src ws i) fresh) u
                param_missigned z₄ = fold_fails param_typed.doing (opt_failed_of z₄ (v₄ known))

                -- it ends with its type
                pub param_plain : {r : Node} {t₄ : List ℕ} → y₄ ≡ Ok None
                    → EndsAt t₃ (node_code param_node) s.flag m.at.0 (joined m.span d.span) 2 d r t₄
                    → Took (reads param a (from src ws i) fresh) src ws t n r t₄
                param_plain {r} {t₄} z₄ c =
                    let w = missing_of z₄ (v₄ known) in
                    let e : 0 + (0 + s.flag) ≡ s.flag = omega arith in
                    let u : Span = joined (span_at ws i) d.span in
                    let laid : (l : List ℕ) → Type 0 = λ l. Laid t n known.row l d.no.0 in
                    ended_by u d param_typed.doing w.0 (subst laid (sym w.1) param_typed.laid)
                    typed_ready.inside (ap (λ (f : ℕ). single (param_rec f u 2) known.row u) e)
                    (from_name t₃ s.flag 2 d r t₄ c)

                -- .. or with its signer
                module _ {l : Node} (z₄ : y₄ ≡ Ok (Some l)) where
                  j : TookOpt (reads signed_opt a (from src ws d.at.0) known) known replaces (flag_code is_signed)
                      src ws t₂ d.no.0 l t₃
                  j = opt_of z₄ (v₄ known)

                  pub signed_ready : Ready ws l.at.0 l.no.0
                  signed_ready = j.ready

                  pub param_signed : {f : ℕ} {r : Node} {t₄ : List ℕ} → f ≡ s.flag + 2
                      → EndsAt t₃ (node_code param_node) f m.at.0 (joined m.span l.span) 3 l r t₄
                      → Took (reads param a (from src ws i) fresh) src ws t n r t₄
                  param_signed {f} {r} {t₄} h c =
                      let x : Acc = added replaces (flag_code is_signed) known j.top j.below l.span in
                      let e : 0 + (0 + s.flag + 2) ≡ f = omega arith in
                      let u : Span = joined (span_at ws i) l.span in
                      ended_by u l param_typed.doing j.gave (laid_glue param_typed.laid j.laid)
                      signed_ready.inside (ap (λ (f : ℕ). single (param_rec f u 3) x.row u) e)
                      (from_name t₃ f 3 l r t₄ c)

            -- the first closer of a `>>` closed its type, and so it ends
            module _ {d : Node} (z₃ : y₃ ≡ Ok (Half d)) where
              h : TookHalf (reads type a (from src ws s.at.0) fresh) src ws t₁ m.no.0 d t₂
              h = half_of z₃ v₃

              pub half_typed_ready : Ready ws d.at.0 d.no.0
              half_typed_ready = half_ready type a h sealed_ready

              pub param_half : {r : Node} {t₃ : List ℕ}
                  → EndsAt t₂ (node_code param_node) s.flag m.at.0 (joined m.span d.span) 2 d r t₃
                  → TookHalf (reads param a (from src ws i) fresh) src ws t n r t₃
              param_half {r} {t₃} c =
                  let e : 0 + (0 + s.flag) ≡ s.flag = omega arith in
                  let row : Row = (beside replaces sealing (single h.top h.below d.span)).row in
                  let u : Span = joined (span_at ws i) d.span in
                  let c' = from_name t₂ s.flag 2 d r t₃ c in
                  subst (λ (m : Node). TookHalf (reads param a (from src ws i) fresh) src ws t n m t₃) (sym c'.0)
                  (record {
                    top = param_rec s.flag u 2;
                    below = row;
                    gave = bring_any src ws d.at.0 param_sealed.doing tt h.gave
                        ∙ param_tail src ws d.at.0 (tok_at src ws i) (start ∷ make (node_code param_node) ∷ []) a
                        (beside replaces sealing (single h.top h.below d.span))
                        ∙ ap (λ (f : ℕ). left (single (param_rec f u 2) row u) (half_from src ws d.at.0)) e;
                    laid = laid_put (param_rec s.flag u 2) (laid_glue param_sealed.laid h.laid) c'.1 refl;
                    inside = h.inside;
                    shr = h.shr;
                  })

-- WHAT STANDS BETWEEN THE PARENTHESES
module _ (src : Text) (ws : List ℕ) (a : ℕ) {i n : ℕ} (g : Ready ws i n) where
  -- none at all
  pub params_none : {t : List ℕ} {r : Nodes} → kind_at ws i ≡ code RParen → r.at.0 ≡ i → r.no.0 ≡ n → r.count ≡ 0
      → ListsTypes (reads params a (from src ws i) fresh) fresh src ws t n (Ok (Whole r)) t
  params_none {t} {r} u e f h =
      record {
        by = record {
          row = none;
          gave = over (begin src ws i g.inside params no_params a fresh
              (picks (code RParen ∷ []) no_params [] (use' some_params) tt src ws i (is_one (code RParen) u)) refl)
              ∙ rw e refl;
          many = h;
          laid = rw f laid_none;
          ready = rw (e, f) g;
        };
      }

  -- one, and those behind commas after it
  module _ (u : kind_at ws i ≡ code RParen → ⊥) where
    begins : Doing (reads params a (from src ws i) fresh) src ws (tok_at src ws i)
        (mark nothing pass apart [] ∷ mark nothing fold apart [] ∷ []) (sub param ∷ sub more_params ∷ []) a i fresh
    begins =
        begin src ws i g.inside params some_params a fresh
        (skips (code RParen ∷ []) no_params [] (use' some_params) tt src ws i (not_one (code RParen) u)) refl

    some_by : (t : List ℕ) (r : Result (Typed Nodes) Refusal) (t' : List ℕ)
        → AnswersTypes (whole param more_params a (from src ws i) fresh) fresh src ws t n r t'
        → AnswersTypes (reads params a (from src ws i) fresh) fresh src ws t n r t'
    some_by t (Ok (Whole r)) t' k =
        record { row = k.row; gave = list_any begins tt k.gave; many = k.many; laid = k.laid; ready = k.ready }
    some_by t (Ok (Half r)) t' k =
        record {
          row = k.row;
          gave = list_any begins tt k.gave;
          many = k.many;
          laid = k.laid;
          ready = k.ready;
          shr = k.shr;
        }
    some_by t (Err e) t' f = list_fails begins tt f

    pub params_some : {t : List ℕ} {r : Result (Typed Nodes) Refusal} {t' : List ℕ}
        → ListsTypes (whole param more_params a (from src ws i) fresh) fresh src ws t n r t'
        → ListsTypes (reads params a (from src ws i) fresh) fresh src ws t n r t'
    params_some {t} {r} {t'} k = record { by = some_by t r t' k.by }

-- a list on top of nothing
on_all : {o : Outcome} {src : Text} {ws t : List ℕ} {n : ℕ} {r : Nodes} {t' : List ℕ} → TookOn o fresh src ws t n r t'
    → TookAll o src ws t n r t'
on_all {t = t} {n} {r} {t'} k =
    record {
      acc = grown fresh k.row;
      gave = k.gave;
      many = k.many ∙ ap count (sym (glue_none k.row));
      laid = subst (λ (w : Row). Laid t n w t' r.no.0) (sym (glue_none k.row)) k.laid;
      inside = k.ready.inside;
    }

-- A LIST OF PARAMETERS
module _ (src : Text) (ws : List ℕ) (a : ℕ) {i n : ℕ} (g : Ready ws i n) (t : List ℕ) {y : Result TokenPos Refusal}
    (v : Expects ws i (code LParen) y) where
  list_start : After parens 0 src ws i a i fresh t n t n
  list_start = starts src ws param_list parens a g refl refl

  pub list_unopened : {u : Refusal} → y ≡ Err u → Failed (reads param_list a (from src ws i) fresh) u
  list_unopened z = unexpected (code LParen) list_start tt tt (λ i. refl) z v

  module _ {b : TokenPos} (z : y ≡ Ok b) where
    list_open : After parens 1 src ws i a b.0 fresh t n t n
    list_open = expects (code LParen) list_start tt (λ u. u) z v

    pub open_ready : Ready ws b.0 n
    open_ready = list_open.ready

    module _ {y₁ : Result (Typed Nodes) Refusal} {t₁ : List ℕ}
        (v₁ : ListsTypes (reads params a (from src ws b.0) fresh) fresh src ws t n y₁ t₁) where
      pub list_refused : {u : Refusal} → y₁ ≡ Err u → Failed (reads param_list a (from src ws i) fresh) u
      list_refused z₁ = unphrased list_open (no_types_of z₁ v₁)

      -- the first closer of a `>>` closed the last type, and the second is no `)`
      pub half_place : {m : Nodes} → y₁ ≡ Ok (Half m) → Ready ws m.at.0 m.no.0
      half_place z₁ = (types_half_of z₁ v₁).ready

      pub list_halved : {m : Nodes} {u : Refusal} → y₁ ≡ Ok (Half m)
          → u ≡ half_err ws m.at.0 (refusal_code expected_token) (code RParen)
          → Failed (reads param_list a (from src ws i) fresh) u
      list_halved {m} z₁ e =
          let k = types_half_of z₁ v₁ in
          record {
            refusal = miss plan (code RParen ∷ []) (half_from src ws m.at.0);
            gave = bring_any src ws m.at.0 list_open.doing tt k.gave
                ∙ paren_tail src ws m.at.0 (tok_at src ws i) (mark nothing pass apart []) a
                (beside apart fresh (grown fresh k.row));
            says = e ∙ paren_shown src ws m.at.0;
          }

      module _ {m : Nodes} (z₁ : y₁ ≡ Ok (Whole m)) where
        l : TookAll (reads params a (from src ws b.0) fresh) src ws t n m t₁
        l = on_all (types_of z₁ v₁)

        list_full : After parens 2 src ws i a m.at.0 (grown fresh l.acc.row) t n t₁ m.no.0
        list_full = alled list_open tt l

        pub full_ready : Ready ws m.at.0 m.no.0
        full_ready = list_full.ready

        module _ {y₂ : Result TokenPos Refusal} (v₂ : Expects ws m.at.0 (code RParen) y₂) where
          pub list_unclosed : {u : Refusal} → y₂ ≡ Err u → Failed (reads param_list a (from src ws i) fresh) u
          list_unclosed z₂ = unexpected (code RParen) list_full tt tt (λ i. refl) z₂ v₂

          pub list_closed : {c : TokenPos} {r : Nodes} → y₂ ≡ Ok c → r.at.0 ≡ c.0 → r.no.0 ≡ m.no.0 → r.count ≡ m.count → TookAll (reads param_list a (from src ws i) fresh) src ws t n r t₁
          list_closed {c} {r} z₂ e f h =
              let k : After parens 3 src ws i a c.0 (grown fresh l.acc.row) t n t₁ m.no.0 = expects (code RParen) list_full tt (λ u. u) z₂ v₂ in
              record {
                acc = grown fresh l.acc.row;
                gave = over k.doing ∙ rw e refl;
                many = h ∙ l.many ∙ ap count (sym (glue_none l.acc.row));
                laid = rw f k.laid;
                inside = rw e k.ready.inside;
              }
