-- A block: each way through its reader, and a declaration that ends with it.
-- Assumes nothing.
use Rattle.std.specs.Prelude.{Err, IsErrAnd, Ok, Result}
use mathlib.Core.Path.{◌≡◌, refl, ap, sym, subst, ◌∙◌}
use mathlib.Core.List.{List, [], ◌∷◌}
use Prim.Native.Nat.{ℕ, ◌+◌, ◌≤◌}
use native.Mathlib.Omega.{arith}
use lib.ListN.{drop}
use Rattle.grammar.specs.Grammar.{Tok, no_tok, sub}
use Rattle.grammar.specs.Records.{Row, none, put, Acc, leave, glue, count, span, Span as Reached, join, from as least, upto, span_of, nothing, pass, widens, make, flag_of, fresh}
use Rattle.grammar.specs.Fused.{Outcome}
use Rattle.grammar.proofs.Lines.{mark}
use Rattle.quanta_token.specs.TokenKind.{code, LBrace, RBrace}
use Rattle.quanta_grammar.specs.Productions.{grammar, outs, block, braces, stmts}
use Rattle.quanta_grammar.specs.Reading.{reads}
use Rattle.quanta_cursor.specs.declared.parser.TokenPos.{TokenPos}
use Rattle.quanta_cursor.specs.declared.parser.Span.{Span}
use Rattle.quanta_cursor.specs.declared.parser.Node.{Node}
use Rattle.quanta_cursor.specs.declared.parser.Nodes.{Nodes}
use Rattle.quanta_cursor.specs.declared.parser.Refusal.{Refusal}
use Rattle.quanta_cursor.specs.Tokens.{fine_at, from, tok_at, Ready}
use Rattle.quanta_cursor.specs.Tree.{put_rec, rec_of}
use Rattle.quanta_cursor.specs.Answers.{Failed, Took, TookAll, Lists}
use Rattle.quanta_cursor.specs.Lists.{grown}
use Rattle.quanta_cursor.specs.Cursor.{joined, span_at, Expects}
use Rattle.quanta_cursor.proofs.Exits.{exits}
use Rattle.quanta_cursor.proofs.Places.{laid_glue, all_ready, all_few}
use Rattle.quanta_cursor.proofs.Meeting.{all_of, all_failed_of}
use Rattle.quanta_cursor.proofs.Lists.{glue_none, count_glue}
use Rattle.quanta_cursor.proofs.Doing.{bring, fails, over, ends}
use Rattle.quanta_cursor.proofs.Under.{Under, starts, expects, unexpected, unphrased, alled}
use Rattle.quanta_cursor.specs.declared.parser.Run.{Run}
use Rattle.quanta_item.specs.Blocks.{TookBlock, AnswersBlock, MeetsBlock, decl_rec, decl_node}
use Rattle.quanta_grammar.specs.Refine.{Text}

-- an answer that is made, and one that is taken apart
module _ {o : Outcome} {src : Text} {ws t : List ℕ} {n : ℕ} {t' : List ℕ} where
  pub took_block : {r : Run} → TookBlock o src ws t n r t' → MeetsBlock o src ws t n (Ok r) t'
  took_block k = record { by = k }

  pub failed_block : {e : Refusal} → Failed o e → MeetsBlock o src ws t n (Err e) t'
  failed_block f = record { by = f }

  pub fails_block : {r : Result Run Refusal} {e : Refusal} → IsErrAnd r (λ y. y ≡ e) → Failed o e → MeetsBlock o src ws t n r t'
  fails_block h f = exits (λ r. MeetsBlock o src ws t n r t') h (failed_block f)

  pub block_of : {r : Result Run Refusal} {m : Run} → r ≡ Ok m → MeetsBlock o src ws t n r t' → TookBlock o src ws t n m t'
  block_of z m = subst (λ (r : Result Run Refusal). AnswersBlock o src ws t n r t') z m.by

  pub block_failed_of : {r : Result Run Refusal} {e : Refusal} → r ≡ Err e → MeetsBlock o src ws t n r t' → Failed o e
  block_failed_of z m = subst (λ (r : Result Run Refusal). AnswersBlock o src ws t n r t') z m.by

-- its records stand side by side, as a list's
abbrev list_of : Run → Nodes
list_of m = record { at = m.at; no = m.no; count = m.count }

as_list : {o : Outcome} {src : Text} {ws t : List ℕ} {n : ℕ} {m : Run} {t' : List ℕ} → TookBlock o src ws t n m t' → TookAll o src ws t n (list_of m) t'
as_list k = record { acc = k.acc; gave = k.gave; many = k.many; laid = k.laid; inside = k.inside }

pub block_ready : (src : Text) (a : ℕ) {ws : List ℕ} {i n : ℕ} {t : List ℕ} {m : Run} {t' : List ℕ} → Ready ws i n → TookBlock (reads block a (from src ws i) fresh) src ws t n m t' → Ready ws m.at.0 m.no.0
block_ready src a g k = all_ready src block a g (as_list k)

pub block_few : {o : Outcome} {src : Text} {ws t : List ℕ} {n : ℕ} {m : Run} {t' : List ℕ} → TookBlock o src ws t n m t' → m.count + n ≤ m.no.0
block_few k = all_few (as_list k)

pub block_count : {o : Outcome} {src : Text} {ws t : List ℕ} {n : ℕ} {m : Run} {t' : List ℕ} (row : Row) (k : TookBlock o src ws t n m t') → count (glue row k.acc.row) ≡ m.count + count row
block_count row k = let x = k.many in omega (arith, count_glue row k.acc.row)

-- THE BLOCK: a brace, statements, a brace
module _ (src : Text) (ws : List ℕ) (a : ℕ) {i n : ℕ} (g : Ready ws i n) (t : List ℕ) {y : Result TokenPos Refusal} (v : Expects ws i (code LBrace) y) where
  begun : Under (reads block a (from src ws i) fresh) src ws (tok_at src ws i) (outs.marks block braces) (grammar.parts block braces) a i fresh t n t n
  begun = starts src ws block braces a g refl refl

  pub block_unopened : {u : Refusal} → y ≡ Err u → Failed (reads block a (from src ws i) fresh) u
  block_unopened z = unexpected (code LBrace) begun tt tt (λ i. refl) z v

  module _ {o : TokenPos} (z : y ≡ Ok o) where
    opened : Under (reads block a (from src ws i) fresh) src ws (tok_at src ws i) (drop 1 (outs.marks block braces)) (drop 1 (grammar.parts block braces)) a o.0 (leave outs nothing widens (tok_at src ws i) fresh) t n t n
    opened = expects (code LBrace) begun tt (λ u. u) z v

    pub opened_ready : Ready ws o.0 n
    opened_ready = opened.ready

    module _ {y₁ : Result Nodes Refusal} {t₁ : List ℕ} (v₁ : Lists src stmts ws o.0 n a t y₁ t₁) where
      pub block_bad : {u : Refusal} → y₁ ≡ Err u → Failed (reads block a (from src ws i) fresh) u
      block_bad z = unphrased opened (all_failed_of z v₁)

      module _ {m : Nodes} (z₁ : y₁ ≡ Ok m) where
        k : TookAll (reads stmts a (from src ws o.0) fresh) src ws t n m t₁
        k = all_of z₁ v₁

        filled : Under (reads block a (from src ws i) fresh) src ws (tok_at src ws i) (drop 2 (outs.marks block braces)) (drop 2 (grammar.parts block braces)) a m.at.0 (grown (leave outs nothing widens (tok_at src ws i) fresh) k.acc.row) t n t₁ m.no.0
        filled = alled opened tt k

        pub filled_ready : Ready ws m.at.0 m.no.0
        filled_ready = filled.ready

        module _ {y₂ : Result TokenPos Refusal} (v₂ : Expects ws m.at.0 (code RBrace) y₂) where
          pub block_unclosed : {u : Refusal} → y₂ ≡ Err u → Failed (reads block a (from src ws i) fresh) u
          block_unclosed z = unexpected (code RBrace) filled tt tt (λ i. refl) z v₂

          pub block_took : {p : TokenPos} {r : Run} → y₂ ≡ Ok p → r.at.0 ≡ p.0 → r.no.0 ≡ m.no.0 → r.count ≡ m.count → r.span ≡ joined (span_at ws i) (span_at ws m.at.0)
              → TookBlock (reads block a (from src ws i) fresh) src ws t n r t₁
          block_took {p} {r} z e f h s =
              let d = expects (code RBrace) filled tt (λ u. u) z v₂ in
              record {
                acc = leave outs nothing widens (tok_at src ws m.at.0) (grown (leave outs nothing widens (tok_at src ws i) fresh) k.acc.row);
                gave = over d.doing ∙ rw e refl;
                many = h ∙ k.many ∙ ap count (sym (glue_none k.acc.row));
                reach = ap (λ (s : Span). span s.start s.end) (sym s);
                laid = rw f d.laid;
                inside = rw e d.ready.inside;
              }

-- A DECLARATION THAT ENDS WITH ITS BLOCK: its keyword is the token i, and the row is what it has left before the block
abbrev pub keyed : Text → List ℕ → ℕ → Row → Acc
keyed src ws i row = record { row = row; reach = span_of (tok_at src ws i); mine = tok_at src ws i; sum = 0 }

module _ {o : Outcome} {src : Text} {ws : List ℕ} {t₀ : Tok} {i a p : ℕ} {row : Row} {t : List ℕ} {n : ℕ} {tree : List ℕ} {q : ℕ} (kind : ℕ) (f : flag_of outs.flags kind (fine_at src ws i) + 0 ≡ 0)
    (u : Under o src ws t₀ (mark nothing pass widens (make kind ∷ []) ∷ []) (sub block ∷ []) a p (keyed src ws i row) t n tree q) where
  pub bodiless : {e : Refusal} → Failed (reads block a (from src ws p) fresh) e → Failed o e
  bodiless b = fails u.doing b

  -- the record over all: the block's row and span, the flag and the count
  abbrev over_all : Row → Reached → ℕ → ℕ → Acc
  over_all body s flag c = record { row = put none (rec_of kind flag i (least (join (span_of (tok_at src ws i)) s)) (upto (join (span_of (tok_at src ws i)) s)) c) (glue row body); reach = join (span_of (tok_at src ws i)) s; mine = no_tok; sum = 0 }

  pub bodied : {m : Run} {tree' : List ℕ} {c : ℕ} {r : Node} {t' : List ℕ} (k : TookBlock (reads block a (from src ws p) fresh) src ws tree q m tree') → c ≡ count (glue row k.acc.row)
      → r ≡ decl_node ws kind i m → t' ≡ put_rec tree' m.no.0 (decl_rec ws kind i m c) → Took o src ws t n r t'
  bodied {m} {tree'} {c} {r} {t'} k h e w =
      subst (λ (r : Node). Took o src ws t n r t') (sym e) (ends (decl_rec ws kind i m c) (bring u.doing tt k.gave) refl
      (ap (λ (s : Reached). over_all k.acc.row s (flag_of outs.flags kind (fine_at src ws i) + 0) (count (glue row k.acc.row))) k.reach
      ∙ ap (λ (z : ℕ). over_all k.acc.row (span m.span.start m.span.end) z (count (glue row k.acc.row))) f
      ∙ ap (λ (c : ℕ). over_all k.acc.row (span m.span.start m.span.end) 0 c) (sym h))
      refl (laid_glue u.laid k.laid) w refl k.inside)

-- spans that the code joined
pub joined_as : {s x y x' y' : Span} → s ≡ joined x y → x ≡ x' → y ≡ y' → s ≡ joined x' y'
joined_as {x' = x'} {y'} e f h = rw (e, f, h) refl
