-- A `>>` that is taken in halves: the kinds, a part that wants a half, and what is left behind one.
-- Assumes nothing.
use mathlib.Core.Path.{◌≡◌, refl, ap, sym, subst, ◌∙◌}
use mathlib.Core.Bool.{Bool, true, false, not, ◌&&◌, ◌||◌}
use mathlib.Core.List.{List, [], ◌∷◌}
use Prim.Native.Nat.{ℕ, suc, ◌+◌, ◌<◌, ◌≤◌}
use native.Mathlib.Omega.{arith}
use lib.Dec.{T, eqb, eqb→eq}
use lib.ListN.{length}
use Rattle.grammar.specs.Grammar.{Tok, next, Items, one, sub, has, front, back}
use Rattle.grammar.specs.Records.{Acc, Row, none, put, glue, records, nodes, fresh, leave, beside, finish}
use Rattle.grammar.specs.Records.{nothing, pass, fold, Leaf, Reach, apart, Step, Mark}
use Rattle.grammar.specs.Fused.{Outcome, left, refused}
use Rattle.grammar.specs.Reader.{miss, cut_if}
use Rattle.grammar.proofs.Table.{or_cases, not_yes}
use Rattle.grammar.proofs.Fuse.{onward, onward_onward, on_cut, fits, on_fit}
use Rattle.grammar.proofs.Lines.{mark, stays, stay, cond_yes, cond_no, fit_yes, unminded}
use Rattle.grammar.proofs.Loops.{onward_same}
use Rattle.quanta_token.specs.TokenKind.{code, Ident, After, Comma, Semi, RParen, Gt, Shr, Eof}
use Rattle.quanta_token.specs.declared.edition.Edition.{Edition}
use Rattle.quanta_token.specs.declared.edition.Edition.TheVariants.{One, Two}
use Rattle.quanta_grammar.specs.FineKind.{fine, OfWord, UnitWord, AfterSpan, TwoClosers, OneCloser}
use Rattle.quanta_grammar.specs.RefusalKind.{refusal_code, expected_token, token_after_the_end}
use Rattle.quanta_grammar.specs.Productions.{Symbol, grammar, outs, closer, default, no_default, signed_opt, no_signed}
use Rattle.quanta_grammar.specs.Reading.{targets, plan, reads}
use Rattle.quanta_grammar.specs.Refine.{Text, text, of, units, spells, word_kind, text_of}
use Rattle.quanta_grammar.specs.Refine.{in_edition, classify, span_here, plain_kind}
use Rattle.quanta_grammar.proofs.Theorems.{sound, fewer}
use Rattle.quanta_grammar.proofs.Steps.{go, comes, begin, over}
use Rattle.quanta_grammar.proofs.Loops.{turn_phrase}
use Rattle.quanta_cursor.specs.declared.parser.Node.{Node}
use Rattle.quanta_cursor.specs.declared.parser.Nodes.{Nodes}
use Rattle.quanta_cursor.specs.declared.parser.Refusal.{Refusal}
use Rattle.quanta_cursor.specs.Tokens.{size, kind_at, plain_at, plain_from, from, fine_at, tok_at, Closed, Ready}
use Rattle.quanta_cursor.specs.Tree.{Laid}
use Rattle.quanta_cursor.specs.Answers.{shown, Failed}
use Rattle.quanta_cursor.specs.Cursor.{err_at}
use Rattle.quanta_cursor.specs.Lists.{grown}
use Rattle.quanta_cursor.proofs.Sets.{fine_in, fine_out, plain_at_lem, is_one, not_one}
use Rattle.quanta_cursor.proofs.Places.{from_at, from_length, laid_glue, ready_behind}
use Rattle.quanta_cursor.proofs.Doing.{Doing, shows}
use Rattle.quanta_cursor.proofs.Lists.{Commas, Rolls, count_glue, grown_grown}
use Rattle.quanta_type.specs.Halves.{is_pair, half_from, half_err, TookHalf, TookOnHalf}

-- THE KIND of a `>>` by the edition
module _ (bytes ws : List ℕ) (i : ℕ) where
  abbrev kind_by : Edition → ℕ → ℕ
  kind_by e k =
      elim (eqb k (code Ident)) as (λ z. ℕ) [ true ↦ word_kind (text_of bytes (plain_at ws i)) | false ↦ in_edition e k ]

  abbrev sharp_by : ℕ → Bool → ℕ
  sharp_by k c = elim (eqb k (code After) && c) as (λ z. ℕ) [ true ↦ fine AfterSpan | false ↦ k ]

  fine_of_pair : (e : Edition) → T (is_pair e ws i) → T (eqb (fine_at (text e bytes) ws i) (fine TwoClosers))
  unfolding fine_at
  fine_of_pair One h = absurd h
  fine_of_pair Two h =
      let c = span_here (classify (text Two bytes) (suc i) (plain_from ws (suc i))) in
      subst (λ (k : ℕ). T (eqb (sharp_by (kind_by Two k) c) (fine TwoClosers)))
      (sym (eqb→eq (kind_at ws i) (code Shr) h)) tt

  word_low : (w : List ℕ) → T (eqb (word_kind w) (fine TwoClosers)) → ⊥
  word_low w = pick (spells of w) (spells units w)
    where
      pick : (a b : Bool) → let k = elim a as (λ z. ℕ)
          [ true ↦ fine OfWord | false ↦ elim b as (λ z. ℕ) [ true ↦ fine UnitWord | false ↦ code Ident ] ] in
          T (eqb k (fine TwoClosers)) → ⊥
      pick true b t = t
      pick false true t = t
      pick false false t = t

  one_fine : kind_at ws i ≤ code Eof → T (eqb (fine_at (text One bytes) ws i) (fine TwoClosers)) → ⊥
  unfolding fine_at
  one_fine l t =
      let c = span_here (classify (text One bytes) (suc i) (plain_from ws (suc i))) in
      sharp (kind_by One (kind_at ws i)) c (by (eqb (kind_at ws i) (code Ident))) t
    where
      by : (b : Bool) → let k = elim b as (λ z. ℕ)
          [ true ↦ word_kind (text_of bytes (plain_at ws i)) | false ↦ kind_at ws i ] in
          T (eqb k (fine TwoClosers)) → ⊥
      by true t = word_low (text_of bytes (plain_at ws i)) t
      by false t = let z = eqb→eq (kind_at ws i) (fine TwoClosers) t in omega arith

      sharp : (k : ℕ) (c : Bool) → (T (eqb k (fine TwoClosers)) → ⊥) → T (eqb (sharp_by k c) (fine TwoClosers)) → ⊥
      sharp k c n t = go (eqb k (code After) && c) t
        where
          go : (b : Bool) → T (eqb (elim b as (λ z. ℕ) [ true ↦ fine AfterSpan | false ↦ k ]) (fine TwoClosers)) → ⊥
          go true t = t
          go false t = n t

  no_fine : (e : Edition) → Closed ws → i < size ws → (T (is_pair e ws i) → ⊥)
      → T (eqb (fine_at (text e bytes) ws i) (fine TwoClosers)) → ⊥
  no_fine One c h n t = one_fine (c.known i h).1 t
  no_fine Two c h n t =
      let k = sym (eqb→eq (fine_at (text Two bytes) ws i) (fine TwoClosers) t) in
      n (subst (λ (k : ℕ). T (eqb k (code Shr))) (ap plain_kind k ∙ plain_at_lem (text Two bytes) i c h) tt)

pub pair_kind_lem : (e : Edition) (ws : List ℕ) (i : ℕ) → T (is_pair e ws i) → kind_at ws i ≡ code Shr
pair_kind_lem One ws i h = absurd h
pair_kind_lem Two ws i h = eqb→eq (kind_at ws i) (code Shr) h

module _ (src : Text) (ws : List ℕ) (i : ℕ) where
  pub pair_fine : T (is_pair src.edition ws i) → T (eqb (fine_at src ws i) (fine TwoClosers))
  pair_fine = fine_of_pair src.source ws i src.edition

  pub no_pair : Closed ws → i < size ws → (T (is_pair src.edition ws i) → ⊥)
      → T (eqb (fine_at src ws i) (fine TwoClosers)) → ⊥
  no_pair = no_fine src.source ws i src.edition

-- WHAT CLOSES A TYPE LIST
module _ (src : Text) (ws : List ℕ) (i : ℕ) where
  gt_fine : kind_at ws i ≡ code Gt → fine_at src ws i ≡ code Gt
  gt_fine e =
      or_cases (eqb (fine_at src ws i) (code Gt)) false (fine_in (code Gt ∷ []) tt src ws i (is_one (code Gt) e))
      (λ x. eqb→eq (fine_at src ws i) (code Gt) x) (λ x. absurd x)

  gt_closes : kind_at ws i ≡ code Gt → T (has closer (fine_at src ws i)) × T (stays grammar closer (tok_at src ws i))
  gt_closes e =
      let f = sym (gt_fine e) in
      (subst (λ (k : ℕ). T (has closer k)) f tt, subst (λ (k : ℕ). T (not (eqb k (fine TwoClosers)))) f tt)

  none_closes : Closed ws → i < size ws → (kind_at ws i ≡ code Gt → ⊥) → T (has closer (fine_at src ws i)) → ⊥
  none_closes c h n t =
      or_cases (eqb (fine_at src ws i) (code Gt)) (eqb (fine_at src ws i) (fine OneCloser) || false) t
      (λ x. fine_out (code Gt ∷ []) tt src ws i (not_one (code Gt) n)
      (subst (λ (k : ℕ). T (has (code Gt ∷ []) k)) (sym (eqb→eq (fine_at src ws i) (code Gt) x)) tt))
      (λ x. or_cases (eqb (fine_at src ws i) (fine OneCloser)) false x
      (λ y. n (sym (plain_at_lem src i c h) ∙ ap plain_kind (eqb→eq (fine_at src ws i) (fine OneCloser) y))) (λ y. y))

cut_front : (b : Bool) (t : Tok) (ts : List Tok) (k : Tok → List Tok → Outcome) → T b
    → on_cut plan closer (cut_if (fine OneCloser) b t ts) k ≡ k (front (fine OneCloser) t) (back (fine OneCloser) t ∷ ts)
cut_front true t ts k h = refl
cut_front false t ts k h = absurd h

-- a closer as the last part of a production: `>`; none; the first half of a `>>`
module _ {o : Outcome} {src : Text} {ws : List ℕ} {t₀ : Tok} {m : Mark} {a p : ℕ} {x : Acc}
    (d : Doing o src ws t₀ (m ∷ []) (one closer ∷ []) a p x) (h : p < size ws) where
  abbrev closing : Tok → List Tok → Outcome
  closing t r = left (finish outs t₀ m.steps (leave outs m.token m.reach t x)) r

  at_p : o ≡ go t₀ (m ∷ []) (one closer ∷ []) a (tok_at src ws p ∷ from src ws (p + 1)) x
  at_p = d.so ∙ ap (λ (ts : List Tok). go t₀ (m ∷ []) (one closer ∷ []) a ts x) (from_at src ws p h)

  pub eat_gt : kind_at ws p ≡ code Gt → o ≡ closing (tok_at src ws p) (from src ws (p + 1))
  eat_gt e =
      let z = gt_closes src ws p e in
      at_p ∙ stay grammar plan closer (tok_at src ws p) (from src ws (p + 1)) closing z.1
      ∙ cond_yes (has closer (fine_at src ws p)) _ _ z.0

  pub eat_front : T (eqb (fine_at src ws p) (fine TwoClosers))
      → o ≡ closing (front (fine OneCloser) (tok_at src ws p)) (half_from src ws p)
  eat_front e =
      at_p ∙ cut_front (eqb (fine_at src ws p) (fine TwoClosers)) (tok_at src ws p) (from src ws (p + 1)) closing e

  pub lack_closer : {e : Refusal} → Closed ws → (kind_at ws p ≡ code Gt → ⊥)
      → (T (eqb (fine_at src ws p) (fine TwoClosers)) → ⊥)
      → e ≡ err_at ws p (refusal_code expected_token) (code Gt) → Failed o e
  lack_closer c n l v =
      let z = not_yes (eqb (fine_at src ws p) (fine TwoClosers)) l in
      record {
        refusal = record { number = refusal_code expected_token; at = tok_at src ws p; wanted = code Gt };
        gave = at_p ∙ stay grammar plan closer (tok_at src ws p) (from src ws (p + 1)) closing z
            ∙ cond_no (has closer (fine_at src ws p)) _ _ (none_closes src ws p c h n);
        says = v ∙ shows src p c h (refusal_code expected_token) (code Gt) tt;
      }

-- the second half closes
pub eat_back : (src : Text) (ws : List ℕ) (t₀ : Tok) (m : Mark) (a p : ℕ) (x : Acc)
    → go t₀ (m ∷ []) (one closer ∷ []) a (half_from src ws p) x
    ≡ left (finish outs t₀ m.steps (leave outs m.token m.reach (back (fine OneCloser) (tok_at src ws p)) x))
    (from src ws (p + 1))
eat_back src ws t₀ m a p x = refl

-- a phrase that is the last part, whatever is left behind it
pub bring_last : {o : Outcome} {src : Text} {ws : List ℕ} {t₀ : Tok} {a p : ℕ} {x : Acc} {y : Leaf} {r : Reach}
    {ss : List Step} {s : Symbol} {z : Acc} {q : List Tok}
    → Doing o src ws t₀ (mark y pass r ss ∷ []) (sub s ∷ []) a p x → T (not (targets.minds s))
    → reads s a (from src ws p) fresh ≡ left z q → o ≡ left (finish outs t₀ ss (beside r x z)) q
bring_last {src = src} {ws} {t₀} {a} {p} {x} {y} {r} {ss} {s} d h e =
    d.so ∙ turn_phrase t₀ y r ss s a (from src ws p) x h
    ∙ ap (λ (o : Outcome). onward o (λ z q. left (finish outs t₀ ss (beside r x z)) q)) e

-- an element and the rest of its list, whatever is left behind them
pub list_any : {o : Outcome} {src : Text} {ws : List ℕ} {t₀ : Tok} {ms : List Mark} {is : Items grammar} {a p : ℕ}
    {x : Acc} {y y' : Leaf} {r : Reach} {s l : Symbol} {z : Acc} {q : List Tok}
    → Doing o src ws t₀ (mark y pass apart [] ∷ mark y' fold r [] ∷ ms) (sub s ∷ sub l ∷ is) a p x
    → T (not (targets.minds s))
    → onward (reads s a (from src ws p) fresh) (λ z q. reads l a q (beside apart x z)) ≡ left z q
    → o ≡ go t₀ ms is a q z
list_any {o} {src} {ws} {t₀} {ms} {is} {a} {p} {x} {s = s} {l} d h e =
    let first : Outcome = reads s a (from src ws p) fresh in
    d.so
    ∙ onward_same first _ _
    (λ z q. fit_yes (fits targets s z (next q)) _ _ (unminded (targets.minds s) (targets.suits z (next q)) h))
    ∙ sym (onward_onward first (λ z q. reads l a q (beside apart x z)) (λ z q. go t₀ ms is a q z))
    ∙ ap (λ (o : Outcome). onward o (λ z q. go t₀ ms is a q z)) e

-- ONWARD: a reader does not go back, and writes at most a record for each token that it takes whole
half_onward : (src : Text) (ws : List ℕ) (s : Symbol) (a at p : ℕ) {y : Acc} {t t' : List ℕ} {n q : ℕ}
    → at < size ws → p < size ws → reads s a (from src ws at) fresh ≡ left y (half_from src ws p)
    → Laid t n y.row t' q → (at ≤ p) × (q + at ≤ p + n)
unfolding nodes
half_onward src ws s a at p {y} h h' e l =
    let z = comes s a (from src ws at) fresh y (half_from src ws p) e in
    let f = fewer z.tree (sound s a (from src ws at) z.tree (half_from src ws p) z.reading).0 in
    let k = ap (λ (v : Acc). length (records v.row)) z.leaving in (
      omega (arith, from_length src ws at, from_length src ws (p + 1)),
      omega (arith, from_length src ws at, from_length src ws (p + 1), l.next),
    )

module _ {src : Text} (s : Symbol) (a : ℕ) {ws : List ℕ} {at : ℕ} {t : List ℕ} {n : ℕ} {r : Node} {t' : List ℕ}
    (k : TookHalf (reads s a (from src ws at) fresh) src ws t n r t') where
  pub half_ready : Ready ws at n → Ready ws r.at.0 r.no.0
  half_ready g =
      let z = half_onward src ws s a at r.at.0 g.inside k.inside k.gave k.laid in
      record { closed = g.closed; inside = k.inside; fits = omega (arith, g.fits) }

-- behind both halves
pub half_past : {ws : List ℕ} {p p' n : ℕ} → Ready ws p n → kind_at ws p ≡ code Shr → p' ≡ p + 1 → Ready ws p' n
half_past g e z = ready_behind (code Shr) (λ u. u) g e z

-- A LIST ends behind an element that the first half of a `>>` closed: the first element ..
module _ {l s : Symbol} (law : Commas l s) {src : Text} {ws : List ℕ} (a : ℕ) {i : ℕ} {t : List ℕ} {n : ℕ} {m : Node}
    {t' : List ℕ} (g : Ready ws i n) (k : TookHalf (reads s a (from src ws i) fresh) src ws t n m t') where
  pub half_first : {r : Nodes} (x : Acc) → r.at.0 ≡ m.at.0 → r.no.0 ≡ m.no.0 → r.count ≡ 1
      → TookOnHalf (onward (reads s a (from src ws i) fresh) (λ y r. reads l a r (beside apart x y))) x src ws t n r t'
  half_first {r} x e f c =
      let row : Row = put none k.top k.below in
      record {
        row = row;
        gave = ap (λ (o : Outcome). onward o (λ y r. reads l a r (beside apart x y))) k.gave
            ∙ law.stop a (half_from src ws m.at.0) (grown x row) (λ t. t) ∙ rw e refl;
        many = c;
        laid = rw f k.laid;
        ready = rw (e, f) (half_ready s a k g);
        shr = rw e k.shr;
      }

-- .. or one behind a comma
module _ {l s : Symbol} (law : Commas l s) {o : Outcome} {src : Text} {ws t : List ℕ} {n : ℕ} {x : Acc} {a p q c : ℕ}
    {tree : List ℕ} (v : Rolls l o src ws t n x a p q c tree) (g : Ready ws p q) (z : kind_at ws p ≡ code Comma)
    {p' : ℕ} (e : p' ≡ p + 1)
    {m : Node} {tree' : List ℕ} (k : TookHalf (reads s a (from src ws p') fresh) src ws tree q m tree') where
  behind : Ready ws p' q
  behind = ready_behind (code Comma) (λ u. u) g z e

  pub half_more : {r : Nodes} → r.at.0 ≡ m.at.0 → r.no.0 ≡ m.no.0 → r.count ≡ c + 1
      → TookOnHalf o x src ws t n r tree'
  half_more {r} f h w =
      let element : Row = put none k.top k.below in
      let row : Row = glue v.row element in
      let before : Acc = grown x v.row in
      let rest : Outcome → Outcome = λ o. onward o (λ y r. reads l a r (grown before y.row)) in
      record {
        row = row;
        gave = v.so ∙ ap (λ (ts : List Tok). reads l a ts before) (from_at src ws p g.inside)
            ∙ law.on a (tok_at src ws p) (from src ws (p + 1)) before
            (fine_in (code Comma ∷ []) tt src ws p (is_one (code Comma) z))
            ∙ ap (λ (j : ℕ). rest (reads s a (from src ws j) fresh)) (sym e) ∙ ap rest k.gave
            ∙ ap (λ (y : Acc). reads l a (half_from src ws m.at.0) y) (grown_grown x v.row element)
            ∙ law.stop a (half_from src ws m.at.0) (grown x row) (λ t. t) ∙ rw f refl;
        many = let y = v.many in let u = count_glue v.row element in omega arith;
        laid = rw h (laid_glue v.laid k.laid);
        ready = rw (f, h) (half_ready s a k behind);
        shr = rw f k.shr;
      }

-- WHERE A TYPE STANDS and the second half is not wanted: behind a field's type, behind a parameter's, behind the list
-- of parameters, behind a call's type
module _ (src : Text) (ws : List ℕ) (i : ℕ) where
  -- the rest of a production whose type is read, whatever is left behind the type
  pub bring_any : {o : Outcome} {t₀ : Tok} {ms : List Mark} {is : Items grammar} {a p : ℕ} {x : Acc} {y : Leaf}
      {r : Reach} {ss : List Step} {s : Symbol} {z : Acc}
      → Doing o src ws t₀ (mark y pass r ss ∷ ms) (sub s ∷ is) a p x → T (not (targets.minds s))
      → reads s a (from src ws p) fresh ≡ left z (half_from src ws i)
      → o ≡ go t₀ ms is a (half_from src ws i) (finish outs t₀ ss (beside r x z))
  bring_any {t₀ = t₀} {ms} {is} {a} {x = x} {r = r} {ss} {s} {z} d h e =
      let onto : Acc → List Tok → Outcome = λ z q. go t₀ ms is a q (finish outs t₀ ss (beside r x z)) in
      let fit : Acc → List Tok → Outcome = λ z q. on_fit (fits targets s z (next q)) (targets.refusal z) (onto z q) in
      d.so ∙ ap (λ (o : Outcome). onward o fit) e
      ∙ fit_yes (fits targets s z (fine OneCloser)) _ _
      (unminded (targets.minds s) (targets.suits z (fine OneCloser)) h)

  no_default_here : (a : ℕ) (x : Acc) → reads default a (half_from src ws i) x ≡ left x (half_from src ws i)
  no_default_here a x = over (begin default no_default a (half_from src ws i) x refl refl)

  no_signer_here : (a : ℕ) (x : Acc) → reads signed_opt a (half_from src ws i) x ≡ left x (half_from src ws i)
  no_signer_here a x = over (begin signed_opt no_signed a (half_from src ws i) x refl refl)

  -- a field: no default, and no `;`
  pub field_tail : (t₀ : Tok) (m : Mark) (a : ℕ) (x : Acc)
      → go t₀ (mark nothing fold apart [] ∷ m ∷ []) (sub default ∷ one (code Semi ∷ []) ∷ []) a (half_from src ws i) x
      ≡ refused (miss plan (code Semi ∷ []) (half_from src ws i))
  field_tail t₀ m a x =
      ap (λ (o : Outcome). onward o (λ z q. go t₀ (m ∷ []) (one (code Semi ∷ []) ∷ []) a q z)) (no_default_here a x)

  -- a parameter ends: no signer
  pub param_tail : (t₀ : Tok) (ss : List Step) (a : ℕ) (x : Acc)
      → go t₀ (mark nothing fold apart ss ∷ []) (sub signed_opt ∷ []) a (half_from src ws i) x
      ≡ left (finish outs t₀ ss x) (half_from src ws i)
  param_tail t₀ ss a x = ap (λ (o : Outcome). onward o (λ z q. left (finish outs t₀ ss z) q)) (no_signer_here a x)

  -- no `)`, and no Eof
  pub paren_tail : (t₀ : Tok) (m : Mark) (a : ℕ) (x : Acc)
      → go t₀ (m ∷ []) (one (code RParen ∷ []) ∷ []) a (half_from src ws i) x
      ≡ refused (miss plan (code RParen ∷ []) (half_from src ws i))
  paren_tail t₀ m a x = refl

  pub eof_tail : (t₀ : Tok) (m : Mark) (a : ℕ) (x : Acc)
      → go t₀ (m ∷ []) (one (code Eof ∷ []) ∷ []) a (half_from src ws i) x
      ≡ refused (miss plan (code Eof ∷ []) (half_from src ws i))
  eof_tail t₀ m a x = refl

  -- the refusals in numbers: the second byte, found `>`
  pub semi_shown : half_err ws i (refusal_code expected_token) (code Semi)
      ≡ shown (miss plan (code Semi ∷ []) (half_from src ws i))
  semi_shown = refl

  pub paren_shown : half_err ws i (refusal_code expected_token) (code RParen)
      ≡ shown (miss plan (code RParen ∷ []) (half_from src ws i))
  paren_shown = refl

  pub eof_shown : half_err ws i (refusal_code token_after_the_end) 0
      ≡ shown (miss plan (code Eof ∷ []) (half_from src ws i))
  eof_shown = refl
