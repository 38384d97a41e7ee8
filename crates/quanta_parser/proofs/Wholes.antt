-- The whole readings: each way through a call.
-- Assumes nothing.
use Rattle.std.specs.Prelude.{Err, IsErrAnd, Ok, Result}
use mathlib.Core.Path.{◌≡◌, refl, ap, sym, subst, ◌∙◌}
use mathlib.Core.Bool.{not}
use mathlib.Core.List.{List, [], ◌∷◌}
use Prim.Native.Nat.{ℕ, ◌+◌, ◌<◌, ◌≤◌, min, max}
use native.Mathlib.Omega.{arith}
use lib.Dec.{T}
use lib.ListN.{drop}
use Rattle.grammar.specs.Grammar.{Tok, no_tok, one, sub}
use Rattle.grammar.specs.Records.{Acc, Rec, none, put, count, made, nothing, pass, apart, fresh, beside}
use Rattle.grammar.specs.Records.{Span as Reached, span_of, nil, span, join, or_else, from as lowest, upto}
use Rattle.grammar.specs.Fused.{Outcome, left}
use Rattle.grammar.proofs.Lines.{mark}
use Rattle.grammar.specs.Reader.{miss}
use Rattle.quanta_token.specs.TokenKind.{code, Eof}
use Rattle.quanta_grammar.specs.NodeKind.{node_code, program_node}
use Rattle.quanta_grammar.specs.Productions.{Symbol, grammar, outs, item, stmt, expr, type, imports, contracts, program_call, item_call, stmt_call, expr_call, type_call, whole_program, whole_item, whole_stmt, whole_expr, whole_type}
use Rattle.quanta_grammar.specs.RefusalKind.{refusal_code, token_after_the_end}
use Rattle.quanta_grammar.specs.Reading.{targets, plan, allowance, reads}
use Rattle.quanta_cursor.specs.declared.parser.TokenPos.{TokenPos}
use Rattle.quanta_cursor.specs.declared.parser.Span.{Span}
use Rattle.quanta_cursor.specs.declared.parser.Node.{Node}
use Rattle.quanta_cursor.specs.declared.parser.Refusal.{Refusal}
use Rattle.quanta_cursor.specs.Tokens.{size, kind_at, start_at, stop_at, from, tok_at, Closed, Ready}
use Rattle.quanta_cursor.specs.Tree.{rec_of, put_rec}
use Rattle.quanta_cursor.specs.Answers.{single, Failed, Took, Reads}
use Rattle.quanta_cursor.specs.Cursor.{joined, span_at, err_at, ExpectsEof}
use Rattle.quanta_cursor.proofs.Sets.{is_one, not_one}
use Rattle.quanta_cursor.proofs.Places.{from_end, laid_none, laid_glue, laid_put, all_few}
use Rattle.quanta_cursor.proofs.Exits.{exits}
use Rattle.quanta_cursor.proofs.Meeting.{took_of, failed_of, eof_of, more_of}
use Rattle.quanta_cursor.proofs.Doing.{Doing, begin, eat, lack, bring, fails, over}
use Rattle.quanta_cursor.proofs.Lists.{glue_none, count_glue}
use Rattle.quanta_cursor.proofs.Under.{Under, starts, folded, unfolded}
use Rattle.quanta_type.specs.Halves.{half_from, half_err, TookHalf}
use Rattle.quanta_type.proofs.Halves.{bring_any, eof_tail, eof_shown}
use Rattle.quanta_cursor.specs.declared.parser.Run.{Run}
use Rattle.quanta_parser.specs.Runs.{onto, last_or, TookRun, Runs}
use Rattle.quanta_parser.specs.Whole.{TookWhole, MeetsWhole, End, Ends}
use Rattle.quanta_parser.proofs.Running.{run_of, run_failed_of}
use Rattle.quanta_grammar.specs.Refine.{Text}

-- the end stands at p, which is the last token
nothing_behind : (src : Text) (ws : List ℕ) {p : ℕ} → Closed ws → p < size ws → kind_at ws p ≡ code Eof
    → from src ws (p + 1) ≡ []
nothing_behind src ws {p} c h e = from_end src ws (p + 1) (c.only p h e)

-- a refusal that a `?` hands on
pub fails_whole : {o : Outcome} {t : List ℕ} {r : Result Node Refusal} {e : Refusal} {t' : List ℕ}
    → IsErrAnd r (λ y. y ≡ e) → Failed o e → MeetsWhole o t r t'
fails_whole {o} {t} {t' = t'} h f = exits (λ r. MeetsWhole o t r t') h (record { by = f })

-- A CALL of one phrase: s, and then the end
pub record Calls (call s : Symbol) : Type 0 where
  pub heedless : T (not (targets.minds s))
  pub begins : (src : Text) (ws : List ℕ) → 0 < size ws
      → Doing (reads call allowance (from src ws 0) fresh) src ws (tok_at src ws 0) (mark nothing pass apart [] ∷ mark nothing pass apart [] ∷ []) (sub s ∷ one (code Eof ∷ []) ∷ []) allowance 0 fresh

pub item_call_lem : Calls item_call item
item_call_lem = record { heedless = tt; begins = λ src ws h. begin src ws 0 h item_call whole_item allowance fresh refl refl }

pub stmt_call_lem : Calls stmt_call stmt
stmt_call_lem = record { heedless = tt; begins = λ src ws h. begin src ws 0 h stmt_call whole_stmt allowance fresh refl refl }

pub expr_call_lem : Calls expr_call expr
expr_call_lem = record { heedless = tt; begins = λ src ws h. begin src ws 0 h expr_call whole_expr allowance fresh refl refl }

pub type_call_lem : Calls type_call type
type_call_lem = record { heedless = tt; begins = λ src ws h. begin src ws 0 h type_call whole_type allowance fresh refl refl }

module _ {call s : Symbol} (law : Calls call s) (src : Text) {ws t : List ℕ} (g : Ready ws 0 0) {y : Result Node Refusal}
    {t' : List ℕ} (v : Reads src s ws 0 0 allowance t y t') where
  abbrev all : Outcome
  all = reads call allowance (from src ws 0) fresh

  pub whole_bad : {u : Refusal} → y ≡ Err u → Failed all u
  whole_bad z = fails (law.begins src ws g.inside) (failed_of z v)

  module _ {m : Node} (z : y ≡ Ok m) where
    phrase : Took (reads s allowance (from src ws 0) fresh) src ws t 0 m t'
    phrase = took_of z v

    abbrev done : Acc
    done = record { row = put none phrase.top phrase.below; reach = nil; mine = no_tok; sum = 0 }

    pub whole_inside : m.at.0 < size ws
    whole_inside = phrase.inside

    -- a token after the end, or the end
    more : {u : Refusal} → (kind_at ws m.at.0 ≡ code Eof → ⊥) × (u ≡ err_at ws m.at.0 (refusal_code token_after_the_end) 0)
        → MeetsWhole all t (Err u) t'
    more w =
        record {
          by = lack (bring (law.begins src ws g.inside) law.heedless phrase.gave) tt g.closed whole_inside
              (not_one (code Eof) w.0) tt w.1;
        }

    met : kind_at ws m.at.0 ≡ code Eof → MeetsWhole all t (Ok m) t'
    met w =
        record {
          by = record {
            acc = done;
            gave = over (eat (bring (law.begins src ws g.inside) law.heedless phrase.gave) tt whole_inside (is_one (code Eof) w) refl)
                ∙ ap (λ (ts : List Tok). left done ts) (nothing_behind src ws g.closed whole_inside w);
            laid = phrase.laid;
          };
        }

    ended : (r : Result Node Refusal) → End ws m r → MeetsWhole all t r t'
    ended (Ok r) w = subst (λ (r : Node). MeetsWhole all t (Ok r) t') (sym w.1) (met w.0)
    ended (Err u) w = more w

    pub whole_ends : {r : Result Node Refusal} → Ends ws m r → MeetsWhole all t r t'
    whole_ends {r} w = ended r w.by

-- A TYPE that the first closer of a `>>` closed: the second is a token behind the end
pub type_halved : (src : Text) {ws t : List ℕ} → Ready ws 0 0 → {m : Node} {t' : List ℕ}
    → TookHalf (reads type allowance (from src ws 0) fresh) src ws t 0 m t' → {u : Refusal}
    → u ≡ half_err ws m.at.0 (refusal_code token_after_the_end) 0
    → MeetsWhole (reads type_call allowance (from src ws 0) fresh) t (Err u) t'
type_halved src {ws} g {m} k e =
    record {
      by = record {
        refusal = miss plan (code Eof ∷ []) (half_from src ws m.at.0);
        gave = bring_any src ws m.at.0 (type_call_lem.begins src ws g.inside) tt k.gave
            ∙ eof_tail src ws m.at.0 (tok_at src ws 0) (mark nothing pass apart []) allowance
            (beside apart fresh (single k.top k.below m.span));
        says = e ∙ eof_shown src ws m.at.0;
      };
    }

-- A PROGRAM: its span is the first token's, joined with that of the last contract, or else of the last import
reached : (u v : Reached) (a b : ℕ) → joined (record { start = a; end = b }) (last_or v (last_or u (record { start = a; end = b }))) ≡ record { start = lowest (join (span a b) (or_else v (or_else u nil))); end = upto (join (span a b) (or_else v (or_else u nil))) }
reached nil nil a b =
    let x : min a a ≡ a = omega arith in
    let y : max b b ≡ b = omega arith in
    ap (λ (j : ℕ). record { start = j; end = max b b }) x ∙ ap (λ (j : ℕ). record { start = a; end = j }) y
reached (span c d) nil a b = refl
reached nil (span e f) a b = refl
reached (span c d) (span e f) a b = refl

run_few : {o : Outcome} {x : Acc} {src : Text} {ws t : List ℕ} {n : ℕ} {s : Span} {r : Run} {t' : List ℕ}
    → TookRun o x src ws t n s r t' → r.count + n ≤ r.no.0
run_few {src = src} {ws} {t} {n} {r = r} {t'} k =
    all_few {o = left (record { row = k.row; reach = nil; mine = no_tok; sum = 0 }) (from src ws r.at.0)} {src = src} {ws = ws} {t = t} {n = n} {r = record { at = r.at; no = r.no; count = r.count }} {t' = t'}
    (record { acc = record { row = k.row; reach = nil; mine = no_tok; sum = 0 }; gave = refl; many = k.many; laid = k.laid; inside = k.ready.inside })

module _ (src : Text) (ws : List ℕ) (g : Ready ws 0 0) (t : List ℕ) where
  abbrev program : Outcome
  program = reads program_call allowance (from src ws 0) fresh

  -- when k of its parts are read
  abbrev After : ℕ → ℕ → Acc → List ℕ → ℕ → Type 0
  After k p x tree q = Under program src ws (tok_at src ws 0) (drop k (outs.marks program_call whole_program)) (drop k (grammar.parts program_call whole_program)) allowance p x t 0 tree q

  begun : After 0 0 fresh t 0
  begun = starts src ws program_call whole_program allowance g refl refl

  module _ {s : Span} {y : Result Run Refusal} {t₁ : List ℕ} (v : Runs src imports ws 0 0 allowance s t y t₁) where
    pub imports_bad : {u : Refusal} → y ≡ Err u → Failed program u
    imports_bad z = unfolded begun (run_failed_of z (v fresh))

    module _ {i : Run} (z : y ≡ Ok i) where
      first : TookRun (reads imports allowance (from src ws 0) fresh) fresh src ws t 0 s i t₁
      first = run_of z (v fresh)

      abbrev imported : Acc
      imported = onto fresh first.row first.last

      behind_imports : After 1 i.at.0 imported t₁ i.no.0
      behind_imports = folded begun first.gave (laid_glue laid_none first.laid) first.ready

      pub imported_ready : Ready ws i.at.0 i.no.0
      imported_ready = first.ready

      module _ {y₁ : Result Run Refusal} {t₂ : List ℕ} (v₁ : Runs src contracts ws i.at.0 i.no.0 allowance i.span t₁ y₁ t₂) where
        pub contracts_bad : {u : Refusal} → y₁ ≡ Err u → Failed program u
        contracts_bad z = unfolded behind_imports (run_failed_of z (v₁ imported))

        module _ {c : Run} (z₁ : y₁ ≡ Ok c) where
          second : TookRun (reads contracts allowance (from src ws i.at.0) imported) imported src ws t₁ i.no.0 i.span c t₂
          second = run_of z₁ (v₁ imported)

          abbrev contracted : Acc
          contracted = onto imported second.row second.last

          behind_contracts : After 2 c.at.0 contracted t₂ c.no.0
          behind_contracts = folded behind_imports second.gave (laid_glue behind_imports.laid second.laid) second.ready

          pub program_ready : Ready ws c.at.0 c.no.0
          program_ready = second.ready

          pub program_few : i.count + c.count < 4294967296
          program_few = let x = run_few first in let y = run_few second in omega (arith, second.ready.fits, second.ready.inside, g.closed.few)

          module _ {y₂ : Result TokenPos Refusal} (v₂ : ExpectsEof ws c.at.0 y₂) where
            pub program_more : {u : Refusal} → y₂ ≡ Err u → Failed program u
            program_more e = let w = more_of e v₂ in lack behind_contracts.doing tt g.closed second.ready.inside (not_one (code Eof) w.0) tt w.1

            module _ {p : TokenPos} (e : y₂ ≡ Ok p) where
              pub program_small : p.0 < 4294967296
              program_small = let w = (eof_of e v₂).1 in omega (arith, second.ready.inside, g.closed.few)

              -- its record, and what is left at the end
              abbrev root : Rec
              root = made outs (node_code program_node) (record { row = contracted.row; reach = join (span_of (tok_at src ws 0)) contracted.reach; mine = tok_at src ws c.at.0; sum = 0 })

              abbrev finished : Acc
              finished = record { row = put none root contracted.row; reach = join (span_of (tok_at src ws 0)) contracted.reach; mine = no_tok; sum = 0 }

              as_root : {z : Span} → s ≡ span_at ws 0 → z ≡ joined s c.span → rec_of (node_code program_node) 0 p.0 z.start z.end (i.count + c.count) ≡ root
              as_root {z} d f =
                  let k = first.many in
                  let l = second.many in
                  let m = count_glue imported.row second.row in
                  let n = ap count (glue_none first.row) in
                  let h : i.count + c.count ≡ count contracted.row = omega arith in
                  let q = f ∙ ap (λ (z : Span). joined s z) (second.spans ∙ ap (λ (z : Span). last_or second.last z) first.spans)
                  ∙ ap (λ (s : Span). joined s (last_or second.last (last_or first.last s))) d ∙ reached first.last second.last (start_at ws 0) (stop_at ws 0) in
                  ap (λ (j : ℕ). rec_of (node_code program_node) 0 j z.start z.end (i.count + c.count)) (eof_of e v₂).1
                  ∙ ap (λ (z : Span). rec_of (node_code program_node) 0 c.at.0 z.start z.end (i.count + c.count)) q
                  ∙ ap (λ (j : ℕ). rec_of (node_code program_node) 0 c.at.0 root.start root.stop j) h

              pub program_met : {z : Span} {b : ℕ} {t₃ : List ℕ} → s ≡ span_at ws 0 → z ≡ joined s c.span → b ≡ c.no.0 + 1 → t₃ ≡ put_rec t₂ c.no.0 (rec_of (node_code program_node) 0 p.0 z.start z.end (i.count + c.count))
                  → TookWhole program t b t₃
              program_met d f h l =
                  let w = (eof_of e v₂).0 in
                  record {
                    acc = finished;
                    gave = over (eat behind_contracts.doing tt second.ready.inside (is_one (code Eof) w) refl) ∙ ap (λ (ts : List Tok). left finished ts) (nothing_behind src ws g.closed second.ready.inside w);
                    laid = laid_put root behind_contracts.laid (l ∙ ap (λ (r : Rec). put_rec t₂ c.no.0 r) (as_root d f)) h;
                  }
