-- ONE CONTRACT LEAVES NO CHOICE: two answers under it are the same, and so are the words of the tree.
-- Assumes nothing.
use Rattle.std.specs.Prelude.{Err, Ok, Result}
use mathlib.Core.Path.{◌≡◌, ap, sym, ◌∙◌}
use mathlib.Core.List.{List}
use Prim.Native.Nat.{ℕ, ◌+◌, ◌<◌}
use native.Mathlib.Omega.{arith}
use lib.ListN.{length}
use Rattle.grammar.specs.Grammar.{Tok}
use Rattle.grammar.specs.Records.{Acc, Row, Rec, put, none, count, span, records}
use Rattle.grammar.specs.Fused.{Outcome, left}
use Rattle.quanta_grammar.specs.Refine.{Text}
use Rattle.quanta_cursor.specs.declared.parser.Node.{Node}
use Rattle.quanta_cursor.specs.declared.parser.Nodes.{Nodes}
use Rattle.quanta_cursor.specs.declared.parser.Refusal.{Refusal}
use Rattle.quanta_cursor.specs.Tokens.{size, from}
use Rattle.quanta_cursor.specs.Tree.{Laid, lay}
use Rattle.quanta_cursor.specs.Answers.{single, shown, Failed, Took, TookAll, Answers, AnswersAll, Meets, MeetsAll}
use Rattle.quanta_cursor.proofs.Places.{from_length}
use Rattle.quanta_engine.specs.Agreement.{Agree, AgreeAll}

-- A NODE by its numbers
node : ℕ → ℕ → ℕ → ℕ → ℕ → Node
node i n x y k =
    record { at = record { 0 = i }; no = record { 0 = n }; span = record { start = x; end = y }; kind = k }

node_of : {m m' : Node} → m.at.0 ≡ m'.at.0 → m.no.0 ≡ m'.no.0 → m.span.start ≡ m'.span.start
    → m.span.end ≡ m'.span.end → m.kind ≡ m'.kind → m ≡ m'
unfolding node
node_of {m} {m'} a b c d e =
    ap (λ (i : ℕ). node i m.no.0 m.span.start m.span.end m.kind) a
    ∙ ap (λ (i : ℕ). node m'.at.0 i m.span.start m.span.end m.kind) b
    ∙ ap (λ (i : ℕ). node m'.at.0 m'.no.0 i m.span.end m.kind) c
    ∙ ap (λ (i : ℕ). node m'.at.0 m'.no.0 m'.span.start i m.kind) d
    ∙ ap (λ (i : ℕ). node m'.at.0 m'.no.0 m'.span.start m'.span.end i) e

nodes : ℕ → ℕ → ℕ → Nodes
nodes i n k = record { at = record { 0 = i }; no = record { 0 = n }; count = k }

nodes_of : {m m' : Nodes} → m.at.0 ≡ m'.at.0 → m.no.0 ≡ m'.no.0 → m.count ≡ m'.count → m ≡ m'
unfolding nodes
nodes_of {m} {m'} a b c =
    ap (λ (i : ℕ). nodes i m.no.0 m.count) a
    ∙ ap (λ (i : ℕ). nodes m'.at.0 i m.count) b
    ∙ ap (λ (i : ℕ). nodes m'.at.0 m'.no.0 i) c

-- the same tokens are left, so it is the same place
same_place : (src : Text) (ws : List ℕ) (i j : ℕ) → from src ws i ≡ from src ws j → i < size ws → j < size ws → i ≡ j
same_place src ws i j e h g = omega (arith, ap length e, from_length src ws i, from_length src ws j)

-- the same row is laid, so there are as many records and the same words
module _ {t : List ℕ} {n : ℕ} {x y : Row} {t₁ t₂ : List ℕ} {n₁ n₂ : ℕ} (a : Laid t n x t₁ n₁) (b : Laid t n y t₂ n₂)
    (e : x ≡ y) where
  same_number : n₁ ≡ n₂
  same_number = a.next ∙ ap (λ (r : Row). n + length (records r)) e ∙ sym b.next

  same_words : t₁ ≡ t₂
  same_words = a.words ∙ ap (λ (r : Row). lay t n (records r)) e ∙ sym b.words

module _ {o : Outcome} {src : Text} {ws t : List ℕ} {n : ℕ} {t₁ t₂ : List ℕ} where
  both_took : {m m' : Node} → Took o src ws t n m t₁ → Took o src ws t n m' t₂ → (m ≡ m') × (t₁ ≡ t₂)
  both_took {m} {m'} x y =
      let z = sym x.gave ∙ y.gave in
      let acc : single x.top x.below m.span ≡ single y.top y.below m'.span = cc in
      let toks : from src ws m.at.0 ≡ from src ws m'.at.0 = cc in
      let row : put none x.top x.below ≡ put none y.top y.below = ap (λ (a : Acc). a.row) acc in
      let reach : span m.span.start m.span.end ≡ span m'.span.start m'.span.end =
      ap (λ (a : Acc). a.reach) acc in
      let top : x.top ≡ y.top = cc in
      let a = same_place src ws m.at.0 m'.at.0 toks x.inside y.inside in
      let b = same_number x.laid y.laid row in
      let c : m.span.start ≡ m'.span.start = cc in
      let d : m.span.end ≡ m'.span.end = cc in
      let e = x.kind ∙ ap (λ (r : Rec). r.kind) top ∙ sym y.kind in
      (node_of a b c d e, same_words x.laid y.laid row)

  both_all : {m m' : Nodes} → TookAll o src ws t n m t₁ → TookAll o src ws t n m' t₂ → (m ≡ m') × (t₁ ≡ t₂)
  both_all {m} {m'} x y =
      let z = sym x.gave ∙ y.gave in
      let acc : x.acc ≡ y.acc = cc in
      let toks : from src ws m.at.0 ≡ from src ws m'.at.0 = cc in
      let row = ap (λ (a : Acc). a.row) acc in
      let a = same_place src ws m.at.0 m'.at.0 toks x.inside y.inside in
      let b = same_number x.laid y.laid row in
      let c = x.many ∙ ap count row ∙ sym y.many in
      (nodes_of a b c, same_words x.laid y.laid row)

both_failed : {o : Outcome} {e e' : Refusal} → Failed o e → Failed o e' → e ≡ e'
both_failed x y =
    let z = sym x.gave ∙ y.gave in
    let b : x.refusal ≡ y.refusal = cc in
    x.says ∙ ap shown b ∙ sym y.says

-- no outcome is both
neither : {o : Outcome} {a : Acc} {ts : List Tok} {e : Refusal} → o ≡ left a ts → Failed o e → ⊥
neither x y =
    let z = sym x ∙ y.gave in
    let w : ◌≡◌ {A = ℕ} 0 1 = cc in
    omega arith

module _ (o : Outcome) (src : Text) (ws t : List ℕ) (n : ℕ) (t₁ t₂ : List ℕ) where
  agree_by : (r r' : Result Node Refusal) → Answers o src ws t n r t₁ → Answers o src ws t n r' t₂ → Agree r t₁ r' t₂
  agree_by (Ok m) (Ok m') x y =
      let z = both_took x y in
      record { answer = ap (λ (m : Node). Ok m) z.0; words = λ k e. z.1 }
  agree_by (Ok m) (Err e) x y = absurd (neither x.gave y)
  agree_by (Err e) (Ok m) x y = absurd (neither y.gave x)
  agree_by (Err e) (Err e') x y =
      record {
        answer = ap (λ (e : Refusal). Err e) (both_failed x y);
        words = λ k z. let w : ◌≡◌ {A = ℕ} 0 1 = cc in absurd (omega arith);
      }

  agree_all_by : (r r' : Result Nodes Refusal) → AnswersAll o src ws t n r t₁ → AnswersAll o src ws t n r' t₂ → AgreeAll r t₁ r' t₂
  agree_all_by (Ok m) (Ok m') x y =
      let z = both_all x y in
      record { answer = ap (λ (m : Nodes). Ok m) z.0; words = λ k e. z.1 }
  agree_all_by (Ok m) (Err e) x y = absurd (neither x.gave y)
  agree_all_by (Err e) (Ok m) x y = absurd (neither y.gave x)
  agree_all_by (Err e) (Err e') x y =
      record {
        answer = ap (λ (e : Refusal). Err e) (both_failed x y);
        words = λ k z. let w : ◌≡◌ {A = ℕ} 0 1 = cc in absurd (omega arith);
      }

module _ {o : Outcome} {src : Text} {ws t : List ℕ} {n : ℕ} {t₁ t₂ : List ℕ} where
  pub agree : {r r' : Result Node Refusal} → Meets o src ws t n r t₁ → Meets o src ws t n r' t₂ → Agree r t₁ r' t₂
  agree {r} {r'} x y = agree_by o src ws t n t₁ t₂ r r' x.by y.by

  pub agree_all : {r r' : Result Nodes Refusal} → MeetsAll o src ws t n r t₁ → MeetsAll o src ws t n r' t₂ → AgreeAll r t₁ r' t₂
  agree_all {r} {r'} x y = agree_all_by o src ws t n t₁ t₂ r r' x.by y.by
