-- Imports and contracts one after the other: what is under way at each turn of their loops, and what is left at the end.
-- Assumes nothing.
use Rattle.std.specs.Prelude.{Err, Ok, Result, IsErrAnd}
use mathlib.Core.Path.{◌≡◌, refl, ap, sym, subst, ◌∙◌}
use mathlib.Core.Bool.{not}
use mathlib.Core.List.{List, [], ◌∷◌}
use Prim.Native.Nat.{ℕ, ◌+◌, ◌<◌, ◌≤◌, zero-le}
use native.Mathlib.Nat.{sub-zero}
use native.Mathlib.Omega.{arith}
use lib.Dec.{T}
use lib.ListN.{length}
use Rattle.grammar.specs.Grammar.{Tok, head, next, sub, has, free}
use Rattle.grammar.specs.Records.{Acc, Row, none, put, count, Span as Reached, nil, span, nothing, pass, replaces, fresh, beside}
use Rattle.grammar.specs.Fused.{Outcome, left}
use Rattle.grammar.proofs.Fuse.{onward, onward_onward}
use Rattle.grammar.proofs.Lines.{mark}
use Rattle.quanta_token.specs.TokenKind.{code, Contract, Import}
use Rattle.quanta_grammar.specs.Productions.{Symbol, imports, import, contracts, contract}
use Rattle.quanta_grammar.specs.Reading.{targets, reads}
use Rattle.quanta_grammar.proofs.Steps.{go}
use Rattle.quanta_grammar.proofs.Loops.{Loop, element, imports_loop, contracts_loop}
use Rattle.quanta_cursor.specs.declared.parser.Span.{Span}
use Rattle.quanta_cursor.specs.declared.parser.Node.{Node}
use Rattle.quanta_cursor.specs.declared.parser.Refusal.{Refusal}
use Rattle.quanta_cursor.specs.Tokens.{kind_at, from, Ready}
use Rattle.quanta_cursor.specs.Tree.{Laid}
use Rattle.quanta_cursor.specs.Answers.{Failed, Took}
use Rattle.quanta_cursor.proofs.Exits.{exits}
use Rattle.quanta_cursor.proofs.Sets.{coarse, fine_in, fine_out, is_one, not_one}
use Rattle.quanta_cursor.proofs.Places.{from_at, laid_none, laid_glue, took_ready, took_onward}
use Rattle.quanta_cursor.proofs.Meeting.{failed_onward}
use Rattle.quanta_cursor.proofs.Lists.{took_more}
use Rattle.quanta_cursor.specs.declared.parser.Run.{Run}
use Rattle.quanta_parser.specs.Runs.{onto, last_or, TookRun, AnswersRun, MeetsRun}
use Rattle.quanta_grammar.specs.Refine.{Text}

-- A LIST'S LAW: elements one after the other while the next token is k, each of which takes the place of the span so far
pub record Law (l elem : Symbol) (k : ℕ) : Type 0 where
  pub coarsely : T (coarse (k ∷ []))
  pub stop : (a : ℕ) (ts : List Tok) (x : Acc) → (T (has (k ∷ []) (next ts)) → ⊥) → reads l a ts x ≡ left x ts
  pub on : (a : ℕ) (ts : List Tok) (x : Acc) → T (has (k ∷ []) (next ts)) → reads l a ts x ≡ onward (reads elem a ts fresh) (λ y r. reads l a r (beside replaces x y))

law_by : (l elem : Symbol) (k : ℕ) → T (coarse (k ∷ [])) → T (not (targets.minds elem)) → Loop l (has (k ∷ [])) free (λ a ts x. go (head ts) (mark nothing pass replaces [] ∷ []) (sub elem ∷ []) a ts x) → Law l elem k
law_by l elem k b m loop =
    record {
      coarsely = b;
      stop = loop.stop;
      on = λ a ts x h. loop.on a ts x h zero-le
          ∙ ap (λ (b : ℕ). onward (go (head ts) (mark nothing pass replaces [] ∷ []) (sub elem ∷ []) b ts x) (λ y r. reads l b r y)) (sub-zero a)
          ∙ ap (λ (o : Outcome). onward o (λ y r. reads l a r y)) (element elem replaces a ts x m)
          ∙ onward_onward (reads elem a ts fresh) _ _;
    }

pub imports_law : Law imports import (code Import)
imports_law = law_by imports import (code Import) tt tt imports_loop

pub contracts_law : Law contracts contract (code Contract)
contracts_law = law_by contracts contract (code Contract) tt tt contracts_loop

-- an answer that is taken apart
module _ {o : Outcome} {x : Acc} {src : Text} {ws t : List ℕ} {n : ℕ} {s : Span} {r : Result Run Refusal} {t' : List ℕ} where
  pub run_of : {m : Run} → r ≡ Ok m → MeetsRun o x src ws t n s r t' → TookRun o x src ws t n s m t'
  run_of z m = subst (λ (r : Result Run Refusal). AnswersRun o x src ws t n s r t') z m.by

  -- a refusal that a `?` hands on
  pub fails_run : {e : Refusal} → IsErrAnd r (λ y. y ≡ e) → Failed o e → MeetsRun o x src ws t n s r t'
  fails_run h f = exits (λ r. MeetsRun o x src ws t n s r t') h (record { by = f })

  pub run_failed_of : {e : Refusal} → r ≡ Err e → MeetsRun o x src ws t n s r t' → Failed o e
  run_failed_of z m = subst (λ (r : Result Run Refusal). AnswersRun o x src ws t n s r t') z m.by

-- A LIST UNDER WAY: o is what comes of the rest of it at p, on top of x and of c records that are written; z is the last one's span, or else s
pub record Rolls (l : Symbol) (o : Outcome) (src : Text) (ws t : List ℕ) (n : ℕ) (s : Span) (x : Acc) (a p q c : ℕ) (z : Span) (tree : List ℕ) : Type 0 where
  pub row : Row
  pub last : Reached
  pub so : o ≡ reads l a (from src ws p) (onto x row last)
  pub many : c ≡ count row
  pub spans : z ≡ last_or last s
  pub laid : Laid t n row tree q

-- THE INVARIANT OF ITS LOOP, which began at the token i with the records from n on and the span s
pub record Rolling (l : Symbol) (src : Text) (ws : List ℕ) (a i n : ℕ) (s : Span) (t : List ℕ) (p q c : ℕ) (z : Span) (tree : List ℕ) : Type 0 where
  pub rolls : (x : Acc) → Rolls l (reads l a (from src ws i) x) src ws t n s x a p q c z tree
  pub ready : Ready ws p q
  pub few : c ≤ q
  pub long : length tree ≡ length t

module _ {l elem : Symbol} {k : ℕ} (law : Law l elem k) (src : Text) {ws : List ℕ} (a : ℕ) {i n : ℕ} {s : Span} {t : List ℕ} where
  pub run_begun : Ready ws i n → Rolling l src ws a i n s t i n 0 s t
  run_begun g = record { rolls = λ x. record { row = none; last = nil; so = refl; many = refl; spans = refl; laid = laid_none }; ready = g; few = zero-le; long = refl }

  module _ {p q c : ℕ} {z : Span} {tree : List ℕ} (v : Rolling l src ws a i n s t p q c z tree) where
    -- its end
    pub run_ends : {r : Run} → (kind_at ws p ≡ k → ⊥) → r.at.0 ≡ p → r.no.0 ≡ q → r.count ≡ c → r.span ≡ z → (x : Acc) → TookRun (reads l a (from src ws i) x) x src ws t n s r tree
    run_ends w e f h y x =
        let b = v.rolls x in
        record {
          row = b.row;
          last = b.last;
          gave = b.so ∙ law.stop a (from src ws p) (onto x b.row b.last) (λ u. fine_out (k ∷ []) law.coarsely src ws p (not_one k w) (subst (λ (ts : List Tok). T (has (k ∷ []) (next ts))) (from_at src ws p v.ready.inside) u)) ∙ rw e refl;
          many = h ∙ b.many;
          spans = y ∙ b.spans;
          laid = rw f b.laid;
          ready = rw (e, f) v.ready;
        }

    -- one more element
    module _ (w : kind_at ws p ≡ k) where
      more : (x : Acc) → reads l a (from src ws i) x ≡ onward (reads elem a (from src ws p) fresh) (λ y r. reads l a r (beside replaces (onto x (v.rolls x).row (v.rolls x).last) y))
      more x =
          (v.rolls x).so
          ∙ law.on a (from src ws p) (onto x (v.rolls x).row (v.rolls x).last) (subst (λ (ts : List Tok). T (has (k ∷ []) (next ts))) (sym (from_at src ws p v.ready.inside)) (fine_in (k ∷ []) law.coarsely src ws p (is_one k w)))

      pub run_bad : {e : Refusal} → Failed (reads elem a (from src ws p) fresh) e → (x : Acc) → Failed (reads l a (from src ws i) x) e
      run_bad f x = failed_onward (λ y r. reads l a r (beside replaces (onto x (v.rolls x).row (v.rolls x).last) y)) (more x) f

      module _ {m : Node} {tree' : List ℕ} (u : Took (reads elem a (from src ws p) fresh) src ws tree q m tree') where
        pub run_on : {c' : ℕ} → c' ≡ c + 1 → length tree' ≡ length tree → Rolling l src ws a i n s t m.at.0 m.no.0 c' m.span tree'
        run_on {c'} e h =
            let y = took_more u in
            record {
              rolls = λ x. let b = v.rolls x in let d = b.many in record {
                row = put b.row u.top u.below;
                last = span m.span.start m.span.end;
                so = more x ∙ ap (λ (o : Outcome). onward o (λ y r. reads l a r (beside replaces (onto x b.row b.last) y))) u.gave;
                many = omega arith;
                spans = refl;
                laid = laid_glue b.laid u.laid;
              };
              ready = took_ready src elem a v.ready u;
              few = omega (arith, v.few);
              long = h ∙ v.long;
            }

        pub run_less : p < m.at.0
        run_less = (took_onward src elem a v.ready.inside u).0
