-- A type, and an argument of one: each way through their readers.
-- Assumes nothing.
use Rattle.std.specs.Prelude.{Err, IsErrAnd, Ok, Result}
use mathlib.Core.Path.{◌≡◌, refl, ap, sym, subst, ◌∙◌}
use mathlib.Core.Bool.{Bool, true, false}
use mathlib.Core.List.{List, [], ◌∷◌}
use mathlib.Core.Logic.{◌⊎◌, ⊎_elim, inl, inr}
use Prim.Native.Nat.{ℕ, ◌+◌, ◌-◌, ◌<◌, ◌≤◌, min, max}
use native.Mathlib.Omega.{arith}
use lib.Dec.{T, eqb, eqb→eq}
use Rattle.grammar.specs.Grammar.{Tok, one, sub, has}
use Rattle.grammar.specs.Records.{Acc, Rec, Row, none, put, glue, count, fresh, nothing, own, word, pass, fold, apart, widens, make, leave, beside, leaf_kind}
use Rattle.grammar.specs.Reader.{use', refuse}
use Rattle.grammar.specs.Fused.{left, Outcome}
use Rattle.grammar.proofs.Fuse.{onward}
use Rattle.grammar.proofs.Lines.{mark}
use Rattle.grammar.proofs.Steps.{choose_yes, choose_no}
use Rattle.grammar.proofs.Table.{or_cases}
use Rattle.quanta_token.specs.TokenKind.{code, codes, Ident, Int, Quorum, Lt, Gt, Eof}
use Rattle.quanta_grammar.specs.FineKind.{fine, OfWord}
use Rattle.quanta_grammar.specs.NodeKind.{node_code, type_node, m_of_n_node, int_node}
use Rattle.quanta_grammar.specs.RefusalKind.{refusal_code, expected_integer, expected_type}
use Rattle.quanta_grammar.specs.Productions.{outs, type_name, closer, type, type_args, type_arg, more_type_args, of_int}
use Rattle.quanta_grammar.specs.Productions.{named_type, some_type_args, no_type_args, int_arg, type_as_arg, some_of, no_of}
use Rattle.quanta_grammar.specs.Reading.{reads}
use Rattle.quanta_grammar.specs.Refine.{Text, plain_kind}
use Rattle.quanta_cursor.specs.declared.parser.Span.{Span}
use Rattle.quanta_cursor.specs.declared.parser.Node.{Node}
use Rattle.quanta_cursor.specs.declared.parser.Nodes.{Nodes}
use Rattle.quanta_cursor.specs.declared.parser.Refusal.{Refusal}
use Rattle.quanta_cursor.specs.Tokens.{size, kind_at, start_at, stop_at, from, fine_at, tok_at, Closed, Ready}
use Rattle.quanta_cursor.specs.Tree.{Laid, rec_of, put_rec}
use Rattle.quanta_cursor.specs.Answers.{single, Failed, Took}
use Rattle.quanta_cursor.specs.Cursor.{joined, span_at, err_at, deep_at, leaf_rec, leaf_node, Words, close_rec}
use Rattle.quanta_cursor.proofs.Sets.{fine_kind, plain_at_lem, is_in, not_in, is_one, not_one}
use Rattle.quanta_cursor.proofs.Places.{past_as, laid_none, laid_word, laid_put}
use Rattle.quanta_cursor.proofs.Exits.{exits}
use Rattle.quanta_cursor.proofs.Nodes.{node_of, node_is, words_are}
use Rattle.quanta_cursor.proofs.Meeting.{word_of, no_word_of, failed_onward}
use Rattle.quanta_cursor.proofs.Doing.{Doing, picks, skips, begin, begin_paying, refuses_at, spent_before, eat, eat_fine, lack, bring, fails, last, over, ends}
use Rattle.quanta_cursor.proofs.Lists.{glue_none}
use Rattle.quanta_type.specs.Words.{is_of}
use Rattle.quanta_cursor.specs.Lists.{TookOn, grown}
use Rattle.quanta_type.specs.Arguments.{arguments}
use Rattle.quanta_cursor.proofs.Listing.{list_in, list_fails}
use Rattle.quanta_type.specs.Halves.{front_span, back_span, half_from, type_rec, TypeUpTo, AnswersClose, ClosesType}
use Rattle.quanta_type.specs.Halves.{TookHalf, AnswersType, MeetsType, TookOnHalf, AnswersTypes, ListsTypes}
use Rattle.quanta_type.proofs.Halves.{pair_fine, pair_kind_lem, no_pair}
use Rattle.quanta_type.proofs.Halves.{eat_gt, eat_front, eat_back, lack_closer, bring_last, list_any, half_past}
use Rattle.quanta_type.specs.declared.half.Typed.TheVariants.{Whole, Half}
use Rattle.quanta_type.specs.declared.half.Typed.{Typed}

has_one : (k c : ℕ) → T (has (c ∷ []) k) → k ≡ c
has_one k c t = or_cases (eqb k c) false t (λ z. eqb→eq k c z) (λ z. absurd z)

-- a test of the code
pub yes_told : {b x : Bool} → b ≡ x → b ≡ true → T x
yes_told e f = subst T (sym f ∙ e) tt

pub no_told : {b x : Bool} → b ≡ x → b ≡ false → T x → ⊥
no_told e f t = subst T (sym e ∙ f) t

-- the record up to a span and a next token that the code computed
pub up_to_as : {ws t : List ℕ} {n name c : ℕ} {u u' : Span} {j j' : ℕ} {r : Node} {t' : List ℕ} → u ≡ u' → j ≡ j'
    → TypeUpTo ws t n name c u j r t' → TypeUpTo ws t n name c u' j' r t'
up_to_as {ws} {t} {n} {name} {c} {u' = u'} {j} {r = r} {t' = t'} e f v =
    subst (λ (j : ℕ). TypeUpTo ws t n name c u' j r t') f
    (subst (λ (u : Span). TypeUpTo ws t n name c u j r t') e v)

-- WHAT A TYPE BEGINS WITH, as the code tells it
pub is_type_name : {j k : ℕ} → j ≡ k → (j ≡ code Ident) ⊎ (j ≡ code Quorum) → T (has type_name k)
is_type_name e z = ⊎_elim (λ z. is_in type_name (code Ident) e z tt) (λ z. is_in type_name (code Quorum) e z tt) z

pub no_type_name : {j k : ℕ} → j ≡ k → k ≤ code Eof → ((j ≡ code Ident) ⊎ (j ≡ code Quorum) → ⊥) → T (has type_name k) → ⊥
no_type_name e h n = not_in type_name e h (λ z. n (inr z), (λ z. n (inl z), tt))

-- A TYPE
module _ (src : Text) (ws : List ℕ) (at a : ℕ) (h : at < size ws) where
  pub type_none : {e : Refusal} → Closed ws → (T (has type_name (kind_at ws at)) → ⊥) → e ≡ err_at ws at (refusal_code expected_type) 0 → Failed (reads type a (from src ws at) fresh) e
  type_none c n v = refuses_at src ws at h type (refusal_code expected_type) a fresh c (skips type_name named_type [] (refuse (refusal_code expected_type)) tt src ws at n) tt v

  module _ {p : ℕ} (w : T (has type_name (kind_at ws at))) (q : p ≡ at + 1) where
    named : Doing (reads type a (from src ws at) fresh) src ws (tok_at src ws at) (mark nothing pass widens (make (node_code type_node) ∷ []) ∷ []) (sub type_args ∷ []) a p (leave outs own widens (tok_at src ws at) fresh)
    named = eat (begin src ws at h type named_type a fresh (picks type_name named_type [] (refuse (refusal_code expected_type)) tt src ws at w) refl) tt h w q

    -- its name alone
    pub type_plain : {t : List ℕ} {n : ℕ} {m : Node} {t' : List ℕ} → p < size ws → (kind_at ws p ≡ code Lt → ⊥) → m ≡ leaf_node ws at n (node_code type_node) → t' ≡ put_rec t n (leaf_rec ws at (node_code type_node))
        → Took (reads type a (from src ws at) fresh) src ws t n m t'
    type_plain {t} {n} {m} {t'} l z x y =
        subst (λ (r : Node). Took (reads type a (from src ws at) fresh) src ws t n r t') (sym x)
        (ends (leaf_rec ws at (node_code type_node))
        (bring named tt (over (begin src ws p l type_args no_type_args a fresh (skips (code Lt ∷ []) some_type_args [] (use' no_type_args) tt src ws p (not_one (code Lt) z)) refl)))
        (sym q) refl refl laid_none y refl l)

    -- with arguments
    module _ {p' : ℕ} (l : p < size ws) (z : kind_at ws p ≡ code Lt) (q' : p' ≡ p + 1) where
      opened : Doing (reads type_args a (from src ws p) fresh) src ws (tok_at src ws p)
          (mark nothing pass apart [] ∷ mark nothing fold apart [] ∷ mark nothing pass widens [] ∷ [])
          (sub type_arg ∷ sub more_type_args ∷ one closer ∷ []) a p' fresh
      opened = eat (begin src ws p l type_args some_type_args a fresh (picks (code Lt ∷ []) some_type_args [] (use' no_type_args) tt src ws p (is_one (code Lt) z)) refl) tt l (is_one (code Lt) z) q'

      pub type_bad : {e : Refusal} → Failed (arguments a (from src ws p') fresh) e → Failed (reads type a (from src ws at) fresh) e
      type_bad f = fails named (list_fails opened tt f)

      -- THE RECORD over the row of its arguments, up to the span u of what closes them; ts is left behind
      over_row : (u : Span) (row : Row) (ts : List Tok) {c : ℕ} → c ≡ count row
          → left (single (type_rec ws at (count (glue none (glue none row))) u) (glue none (glue none row))
          (joined (span_at ws at) u)) ts
          ≡ left (single (type_rec ws at c u) row (joined (span_at ws at) u)) ts
      over_row u row ts e =
          ap (λ (x : Row). left (single (type_rec ws at (count x) u) x (joined (span_at ws at) u)) ts)
          (glue_none (glue none row) ∙ glue_none row)
          ∙ ap (λ (c : ℕ). left (single (type_rec ws at c u) row (joined (span_at ws at) u)) ts) (sym e)

      -- .. as the node says it
      module _ {t₂ t₃ : List ℕ} {n c j : ℕ} {u : Span} {m : Node} (v : TypeUpTo ws t₂ n at c u j m t₃) where
        said : (rest : ℕ → List Tok) (row : Row)
            → left (single (type_rec ws at c u) row (joined (span_at ws at) u)) (rest j)
            ≡ left (single (type_rec ws at c u) row m.span) (rest m.at.0)
        said rest row =
            ap (λ (s : Span). left (single (type_rec ws at c u) row s) (rest j)) (sym v.span)
            ∙ ap (λ (j : ℕ). left (single (type_rec ws at c u) row m.span) (rest j)) (sym v.at)

        laid_up : {t : List ℕ} {n₀ : ℕ} {row : Row} → Laid t n₀ row t₂ n
            → Laid t n₀ (put none (type_rec ws at c u) row) t₃ m.no.0
        laid_up l = laid_put (type_rec ws at c u) l v.words v.no

      module _ {t : List ℕ} {n : ℕ} {r : Nodes} {t₂ : List ℕ}
          (k : TookOn (arguments a (from src ws p') fresh) fresh src ws t n r t₂) where
        listed : Doing (reads type_args a (from src ws p) fresh) src ws (tok_at src ws p)
            (mark nothing pass widens [] ∷ []) (one closer ∷ []) a r.at.0 (grown fresh k.row)
        listed = list_in opened tt k.gave

        type_by : (m : Result (Typed Node) Refusal) (t₃ : List ℕ)
            → AnswersClose src.edition ws t₂ r.at.0 r.no.0 at r.count m t₃
            → AnswersType (reads type a (from src ws at) fresh) src ws t n m t₃
        -- `>`
        type_by (Ok (Whole m)) t₃ v =
            record {
              top = type_rec ws at r.count (span_at ws r.at.0);
              below = k.row;
              gave = bring_last named tt (eat_gt listed k.ready.inside v.0)
                  ∙ over_row (span_at ws r.at.0) k.row (from src ws (r.at.0 + 1)) k.many
                  ∙ said v.1 (from src ws) k.row;
              kind = v.1.kind;
              laid = laid_up v.1 k.laid;
              inside = subst (λ (j : ℕ). j < size ws) (sym v.1.at)
                  (past_as (code Gt) (λ u. u) k.ready.closed k.ready.inside v.0);
            }
        -- the first closer of a `>>`
        type_by (Ok (Half m)) t₃ v =
            record {
              top = type_rec ws at r.count (front_span ws r.at.0);
              below = k.row;
              gave = bring_last named tt (eat_front listed k.ready.inside (pair_fine src ws r.at.0 v.0))
                  ∙ over_row (front_span ws r.at.0) k.row (half_from src ws r.at.0) k.many
                  ∙ said v.1 (half_from src ws) k.row;
              laid = laid_up v.1 k.laid;
              inside = subst (λ (j : ℕ). j < size ws) (sym v.1.at) k.ready.inside;
              shr = ap (λ (j : ℕ). kind_at ws j) v.1.at ∙ pair_kind_lem src.edition ws r.at.0 v.0;
            }
        type_by (Err e) t₃ v =
            fails named (lack_closer listed k.ready.inside k.ready.closed v.0
            (no_pair src ws r.at.0 k.ready.closed k.ready.inside v.1) v.2)

        pub type_closed : {m : Result (Typed Node) Refusal} {t₃ : List ℕ}
            → ClosesType src.edition ws t₂ r.at.0 r.no.0 at r.count m t₃
            → MeetsType (reads type a (from src ws at) fresh) src ws t n m t₃
        type_closed {m} {t₃} v = record { by = type_by m t₃ v.by }

      -- the second closer of a `>>`
      pub type_back : {t : List ℕ} {n : ℕ} {r : Nodes} {t₂ : List ℕ}
          (k : TookOnHalf (arguments a (from src ws p') fresh) fresh src ws t n r t₂) {m : Node} {t₃ : List ℕ}
          → TypeUpTo ws t₂ r.no.0 at r.count (back_span ws r.at.0) (r.at.0 + 1) m t₃
          → Took (reads type a (from src ws at) fresh) src ws t n m t₃
      type_back {r = r} k v =
          record {
            top = type_rec ws at r.count (back_span ws r.at.0);
            below = k.row;
            gave = bring_last named tt (list_any opened tt k.gave
                ∙ eat_back src ws (tok_at src ws p) (mark nothing pass widens []) a r.at.0 (grown fresh k.row))
                ∙ over_row (back_span ws r.at.0) k.row (from src ws (r.at.0 + 1)) k.many
                ∙ said v (from src ws) k.row;
            kind = v.kind;
            laid = laid_up v k.laid;
            inside = (half_past k.ready k.shr v.at).inside;
          }

-- answers made, and taken apart
module _ {o : Outcome} {src : Text} {ws t : List ℕ} {n : ℕ} {t' : List ℕ} where
  pub type_took : {r : Node} → Took o src ws t n r t' → MeetsType o src ws t n (Ok (Whole r)) t'
  type_took k = record { by = k }

  pub type_half : {r : Node} → TookHalf o src ws t n r t' → MeetsType o src ws t n (Ok (Half r)) t'
  type_half k = record { by = k }

  pub type_failed : {e : Refusal} → Failed o e → MeetsType o src ws t n (Err e) t'
  type_failed f = record { by = f }

  pub type_fails : {r : Result (Typed Node) Refusal} {e : Refusal} → IsErrAnd r (λ y. y ≡ e) → Failed o e → MeetsType o src ws t n r t'
  type_fails h f = exits (λ r. MeetsType o src ws t n r t') h (type_failed f)

  pub typed_of : {r : Result (Typed Node) Refusal} {m : Node} → r ≡ Ok (Whole m) → MeetsType o src ws t n r t' → Took o src ws t n m t'
  typed_of z m = subst (λ (r : Result (Typed Node) Refusal). AnswersType o src ws t n r t') z m.by

  pub half_of : {r : Result (Typed Node) Refusal} {m : Node} → r ≡ Ok (Half m) → MeetsType o src ws t n r t' → TookHalf o src ws t n m t'
  half_of z m = subst (λ (r : Result (Typed Node) Refusal). AnswersType o src ws t n r t') z m.by

  pub untyped_of : {r : Result (Typed Node) Refusal} {e : Refusal} → r ≡ Err e → MeetsType o src ws t n r t' → Failed o e
  untyped_of z m = subst (λ (r : Result (Typed Node) Refusal). AnswersType o src ws t n r t') z m.by

module _ {o : Outcome} {x : Acc} {src : Text} {ws t : List ℕ} {n : ℕ} {t' : List ℕ} where
  pub types_of : {r : Result (Typed Nodes) Refusal} {m : Nodes} → r ≡ Ok (Whole m) → ListsTypes o x src ws t n r t'
      → TookOn o x src ws t n m t'
  types_of z m = subst (λ (r : Result (Typed Nodes) Refusal). AnswersTypes o x src ws t n r t') z m.by

  pub types_half_of : {r : Result (Typed Nodes) Refusal} {m : Nodes} → r ≡ Ok (Half m) → ListsTypes o x src ws t n r t'
      → TookOnHalf o x src ws t n m t'
  types_half_of z m = subst (λ (r : Result (Typed Nodes) Refusal). AnswersTypes o x src ws t n r t') z m.by

  pub no_types_of : {r : Result (Typed Nodes) Refusal} {e : Refusal} → r ≡ Err e → ListsTypes o x src ws t n r t' → Failed o e
  no_types_of z m = subst (λ (r : Result (Typed Nodes) Refusal). AnswersTypes o x src ws t n r t') z m.by

-- AN ARGUMENT that is a type
module _ (src : Text) (ws : List ℕ) (at a : ℕ) (h : at < size ws) (n : kind_at ws at ≡ code Int → ⊥) where
  pub arg_deep : {e : Refusal} → (a ≡ 0) × (e ≡ deep_at ws at) → Failed (reads type_arg a (from src ws at) fresh) e
  arg_deep z = spent_before src ws at h type_arg type_as_arg a fresh (skips (code Int ∷ []) int_arg [] (use' type_as_arg) tt src ws at (not_one (code Int) n)) refl z.0 z.1

  -- what a type with the allowance b becomes as an argument: its record passes
  abbrev passed : ℕ → Outcome
  passed b = onward (reads type b (from src ws at) fresh) (λ y r. left (beside widens fresh y) r)

  arg_by : (b : ℕ) (t : List ℕ) (k : ℕ) (r : Result (Typed Node) Refusal) (t' : List ℕ) → reads type_arg a (from src ws at) fresh ≡ passed b
      → AnswersType (reads type b (from src ws at) fresh) src ws t k r t'
      → AnswersType (reads type_arg a (from src ws at) fresh) src ws t k r t'
  arg_by b t k (Ok (Whole r)) t' z m =
      record {
        top = m.top;
        below = m.below;
        gave = z ∙ ap (λ (o : Outcome). onward o (λ y r. left (beside widens fresh y) r)) m.gave;
        kind = m.kind;
        laid = m.laid;
        inside = m.inside;
      }
  arg_by b t k (Ok (Half r)) t' z m =
      record {
        top = m.top;
        below = m.below;
        gave = z ∙ ap (λ (o : Outcome). onward o (λ y r. left (beside widens fresh y) r)) m.gave;
        laid = m.laid;
        inside = m.inside;
        shr = m.shr;
      }
  arg_by b t k (Err e) t' z m = failed_onward (λ y r. left (beside widens fresh y) r) z m

  pub arg_in : {b : ℕ} {t : List ℕ} {k : ℕ} {r : Result (Typed Node) Refusal} {t' : List ℕ} → (0 < a) × (b ≡ a - 1)
      → MeetsType (reads type b (from src ws at) fresh) src ws t k r t'
      → MeetsType (reads type_arg a (from src ws at) fresh) src ws t k r t'
  arg_in {b} {t} {k} {r} {t'} z m = record { by = arg_by b t k r t' (arg_eq b z) m.by }
    where
      arg_eq : (b : ℕ) → (0 < a) × (b ≡ a - 1) → reads type_arg a (from src ws at) fresh ≡ passed b
      arg_eq b z =
          let c = skips (code Int ∷ []) int_arg [] (use' type_as_arg) tt src ws at (not_one (code Int) n) in
          (begin_paying src ws at h type_arg type_as_arg a fresh c z.0).so ∙ ap passed (sym z.1)

-- AN ARGUMENT that begins with an integer: the integer leaves its record
module _ (src : Text) (ws : List ℕ) (i : ℕ) where
  int_kind : kind_at ws i ≡ code Int → leaf_kind outs.leafs (fine_at src ws i) ≡ node_code int_node
  int_kind e = fine_kind (leaf_kind outs.leafs) refl refl refl refl src ws i ∙ ap (leaf_kind outs.leafs) e

  -- what spells `of` is an identifier
  of_ident : Closed ws → i < size ws → T (is_of src ws i) → kind_at ws i ≡ code Ident
  of_ident c h t = sym (plain_at_lem src i c h) ∙ ap plain_kind (has_one (fine_at src ws i) (fine OfWord) t)

-- m of n, and its record
abbrev m_of_n : List ℕ → ℕ → ℕ → Node
m_of_n ws at n = node_of (record { 0 = at + 1 + 1 + 1 }) (record { 0 = n + 1 + 1 + 1 }) (joined (span_at ws at) (span_at ws (at + 1 + 1))) (node_code m_of_n_node)

abbrev m_of_nRec : List ℕ → ℕ → Rec
m_of_nRec ws at = close_rec ws (at + 1 + 1) (node_code m_of_n_node) 0 (at + 1) (span_at ws at) 2

module _ (src : Text) (ws : List ℕ) (at a : ℕ) (h : at < size ws) (c : Closed ws) (w : kind_at ws at ≡ code Int) where
  abbrev first : Acc
  first = single (leaf_rec ws at (node_code int_node)) none (span_at ws at)

  begun : reads type_arg a (from src ws at) fresh ≡ reads of_int a (from src ws (at + 1)) first
  begun =
      last (eat (begin src ws at h type_arg int_arg a fresh (picks (code Int ∷ []) int_arg [] (use' type_as_arg) tt src ws at (is_one (code Int) w)) refl) tt h (is_one (code Int) w) refl)
      ∙ ap (λ (k : ℕ). reads of_int a (from src ws (at + 1)) (single (leaf_rec ws at k) none (span_at ws at))) (int_kind src ws at w)

  pub int_past : at + 1 < size ws
  int_past = past_as (code Int) (λ u. u) c h w

  -- it stands alone
  pub int_alone : {t : List ℕ} {n : ℕ} {m : Node} {t' : List ℕ} → (T (is_of src ws (at + 1)) → ⊥) → m ≡ leaf_node ws at n (node_code int_node) → t' ≡ put_rec t n (leaf_rec ws at (node_code int_node)) → Took (reads type_arg a (from src ws at) fresh) src ws t n m t'
  int_alone {t} {n} {m} {t'} z x y =
      subst (λ (r : Node). Took (reads type_arg a (from src ws at) fresh) src ws t n r t') (sym x)
      (record {
        top = leaf_rec ws at (node_code int_node);
        below = none;
        gave = begun ∙ over (begin src ws (at + 1) int_past of_int no_of a first (choose_no (fine OfWord ∷ []) some_of [] (use' no_of) (fine_at src ws (at + 1)) z) refl);
        kind = refl;
        laid = laid_word (leaf_rec ws at (node_code int_node)) laid_none y refl;
        inside = int_past;
      })

  -- `of` stands behind it
  module _ (o : T (is_of src ws (at + 1))) where
    pub of_past : at + 1 + 1 < size ws
    of_past = past_as (code Ident) (λ u. u) c int_past (of_ident src ws (at + 1) c int_past o)

    spelled : Doing (reads type_arg a (from src ws at) fresh) src ws (tok_at src ws (at + 1)) (mark own pass apart [] ∷ mark word pass widens (make (node_code m_of_n_node) ∷ []) ∷ []) (one (fine OfWord ∷ []) ∷ one (code Int ∷ []) ∷ []) a (at + 1) first
    spelled = record { so = begun ∙ (begin src ws (at + 1) int_past of_int some_of a first (choose_yes (fine OfWord ∷ []) some_of [] (use' no_of) (fine_at src ws (at + 1)) o) refl).so }

    halved : Doing (reads type_arg a (from src ws at) fresh) src ws (tok_at src ws (at + 1)) (mark word pass widens (make (node_code m_of_n_node) ∷ []) ∷ []) (one (code Int ∷ []) ∷ []) a (at + 1 + 1) (leave outs own apart (tok_at src ws (at + 1)) first)
    halved = eat_fine spelled tt int_past o refl

    pub of_bad : {e : Refusal} → (T (has (code Int ∷ []) (kind_at ws (at + 1 + 1))) → ⊥) → e ≡ err_at ws (at + 1 + 1) (refusal_code expected_integer) 0 → Failed (reads type_arg a (from src ws at) fresh) e
    of_bad n v = lack halved tt c of_past n tt v

    pub of_took : {t : List ℕ} {n : ℕ} {m : Node} {t' : List ℕ} → kind_at ws (at + 1 + 1) ≡ code Int → m ≡ m_of_n ws at n
        → t' ≡ put_rec (put_rec (put_rec t n (leaf_rec ws at (node_code int_node))) (n + 1) (leaf_rec ws (at + 1 + 1) (node_code int_node))) (n + 1 + 1) (m_of_nRec ws at) → Took (reads type_arg a (from src ws at) fresh) src ws t n m t'
    of_took {t} {n} {m} {t'} e x y =
        subst (λ (r : Node). Took (reads type_arg a (from src ws at) fresh) src ws t n r t') (sym x)
        (ends (m_of_nRec ws at) (eat halved tt of_past (is_one (code Int) e) refl) refl
        (ap (λ (k : ℕ). single (m_of_nRec ws at) (put (put none (leaf_rec ws at (node_code int_node)) none) (leaf_rec ws (at + 1 + 1) k) none) (joined (span_at ws at) (span_at ws (at + 1 + 1)))) (int_kind src ws (at + 1 + 1) e)) refl
        (laid_word (leaf_rec ws (at + 1 + 1) (node_code int_node)) (laid_word (leaf_rec ws at (node_code int_node)) laid_none refl refl) refl refl) y refl (past_as (code Int) (λ u. u) c of_past e))

told_false : (b : Bool) → b ≡ false → T b → ⊥
told_false b e = subst T e

told_true : (b : Bool) → b ≡ true → T b
told_true b e = subst T (sym e) tt

-- .. with the positions, the numbers and the span that the code computed
module _ (src : Text) (ws : List ℕ) {at n : ℕ} (g : Ready ws at n) (w : kind_at ws at ≡ code Int) {m : Node}
    (x : m ≡ leaf_node ws at n (node_code int_node)) where
  at_of : m.at.0 ≡ at + 1
  at_of = ap (λ (m : Node). m.at.0) x

  no_of_int : m.no.0 ≡ n + 1
  no_of_int = ap (λ (m : Node). m.no.0) x

  pub arg_past : m.at.0 < size ws
  arg_past = rw at_of (int_past src ws at 0 g.inside g.closed w)

  pub arg_alone : {t t' : List ℕ} (a : ℕ) {b : Bool} → b ≡ is_of src ws m.at.0 → b ≡ false → t' ≡ put_rec t n (leaf_rec ws at (node_code int_node)) → Took (reads type_arg a (from src ws at) fresh) src ws t n m t'
  arg_alone a {b} e f y = int_alone src ws at a g.inside g.closed w (λ u. told_false b f (subst T (ap (λ (i : ℕ). is_of src ws i) (sym at_of) ∙ sym e) u)) x y

  module _ {b : Bool} (e : b ≡ is_of src ws m.at.0) (f : b ≡ true) where
    spelt : T (is_of src ws (at + 1))
    spelt = subst T (e ∙ ap (λ (i : ℕ). is_of src ws i) at_of) (told_true b f)

    pub arg_ready : {i : ℕ} → i ≡ m.at.0 + 1 → Ready ws i m.no.0
    arg_ready {i} q =
        let z = of_past src ws at 0 g.inside g.closed w spelt in
        record { closed = g.closed; inside = omega (arith, at_of, q); fits = omega (arith, at_of, no_of_int, q, g.fits) }

    module _ {i : ℕ} (q : i ≡ m.at.0 + 1) {t₁ t₂ : List ℕ} {r : Result Node Refusal} (v : Words (codes (Int ∷ [])) (node_code int_node) (refusal_code expected_integer) ws t₁ i m.no.0 r t₂) where
      second : i ≡ at + 1 + 1
      second = q ∙ ap (λ (j : ℕ). j + 1) at_of

      pub arg_bad : {u : Refusal} (a : ℕ) → r ≡ Err u → Failed (reads type_arg a (from src ws at) fresh) u
      arg_bad a z =
          let k = no_word_of z v in
          of_bad src ws at a g.inside g.closed w spelt (λ u. k.0 (subst (λ (j : ℕ). T (has (code Int ∷ []) (kind_at ws j))) (sym second) u)) (k.1 ∙ ap (λ (j : ℕ). err_at ws j (refusal_code expected_integer) 0) second)

      module _ {k : Node} (z : r ≡ Ok k) where
        pub arg_few : k.no.0 < 4294967296
        arg_few = let y = ap (λ (m : Node). m.no.0) (word_of z v).1 in omega (arith, (arg_ready q).inside, (arg_ready q).fits, g.closed.few)

        pub arg_took : (a : ℕ) {t : List ℕ} {p : Node} {s : Span} {t₃ : List ℕ} → t₁ ≡ put_rec t n (leaf_rec ws at (node_code int_node))
            → s ≡ joined m.span k.span → p ≡ node_of k.at (record { 0 = k.no.0 + 1 }) s (node_code m_of_n_node)
            → t₃ ≡ put_rec t₂ k.no.0 (rec_of (node_code m_of_n_node) 0 m.at.0 s.start s.end 2)
            → Took (reads type_arg a (from src ws at) fresh) src ws t n p t₃
        arg_took a {t} {p} {s} {t₃} y l u j =
            let d = word_of z v in
            let no : k.no.0 ≡ n + 1 + 1 = ap (λ (m : Node). m.no.0) d.1 ∙ ap (λ (j : ℕ). j + 1) no_of_int in
            let sp : s ≡ joined (span_at ws at) (span_at ws (at + 1 + 1)) = l ∙ ap (λ (m : Node). joined m.span k.span) x ∙ ap (λ (m : Node). joined (span_at ws at) m.span) d.1 ∙ ap (λ (j : ℕ). joined (span_at ws at) (span_at ws j)) second in
            of_took src ws at a g.inside g.closed w spelt (has_one (kind_at ws (at + 1 + 1)) (code Int) (subst (λ (j : ℕ). T (has (code Int ∷ []) (kind_at ws j))) second d.0))
            (u ∙ node_is (node_code m_of_n_node) (at + 1 + 1 + 1) (n + 1 + 1 + 1)
            (ap (λ (m : Node). m.at.0) d.1 ∙ ap (λ (j : ℕ). j + 1) second) (ap (λ (j : ℕ). j + 1) no) sp)
            (words_are (node_code m_of_n_node) 0 m.at.0 2 k.no.0 t₂ sp j ∙ written (d.2 ∙ ap (λ (t : List ℕ). put_rec t m.no.0 (leaf_rec ws i (node_code int_node))) y) no)
          where
            written : t₂ ≡ put_rec (put_rec t n (leaf_rec ws at (node_code int_node))) m.no.0 (leaf_rec ws i (node_code int_node)) → k.no.0 ≡ n + 1 + 1
                → put_rec t₂ k.no.0 (rec_of (node_code m_of_n_node) 0 m.at.0 (min (start_at ws at) (start_at ws (at + 1 + 1))) (max (stop_at ws at) (stop_at ws (at + 1 + 1))) 2)
                ≡ put_rec (put_rec (put_rec t n (leaf_rec ws at (node_code int_node))) (n + 1) (leaf_rec ws (at + 1 + 1) (node_code int_node))) (n + 1 + 1) (m_of_nRec ws at)
            written e f =
                ap (λ (u : List ℕ). put_rec u k.no.0 (rec_of (node_code m_of_n_node) 0 m.at.0 (min (start_at ws at) (start_at ws (at + 1 + 1))) (max (stop_at ws at) (stop_at ws (at + 1 + 1))) 2)) e
                ∙ rw (f, at_of, no_of_int, second)
