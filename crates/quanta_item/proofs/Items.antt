-- A contract's items: each way through their readers.
-- Assumes nothing.
use Rattle.std.specs.Prelude.{Err, Ok, Result}
use mathlib.Core.Path.{◌≡◌, refl, ap, ◌∙◌}
use mathlib.Core.List.{List, [], ◌∷◌}
use mathlib.Core.Bool.{not}
use Prim.Native.Nat.{ℕ, ◌+◌, ◌<◌, min, max}
use native.Mathlib.Omega.{arith}
use lib.Dec.{T, eqb}
use lib.ListN.{drop}
use Rattle.grammar.specs.Grammar.{Items, one, sub}
use Rattle.grammar.specs.Records.{Row, none, put, glue, count, fresh, Mark, nothing, word, pass, apart, widens, make, flag_of}
use Rattle.grammar.specs.Reader.{refuse, pick, choose}
use Rattle.grammar.specs.Fused.{Outcome}
use Rattle.grammar.proofs.Lines.{mark}
use Rattle.grammar.proofs.Steps.{choose_no}
use Rattle.quanta_token.specs.TokenKind.{code, Asset, State, Genesis, Invariant, Event, Entry, LBrace, RBrace, Semi, Eof}
use Rattle.quanta_grammar.specs.NodeKind.{node_code, name_node}
use Rattle.quanta_grammar.specs.RefusalKind.{refusal_code, expected_token, expected_identifier, expected_contract_item}
use Rattle.quanta_grammar.specs.Productions.{Symbol, Production, grammar, outs, name, item, expr, asset_decl, state_block, genesis_block, invariant_decl, event_decl, entry_decl}
use Rattle.quanta_grammar.specs.Guides.{guide}
use Rattle.quanta_grammar.specs.Reading.{targets, missed, wanted, reads}
use Rattle.quanta_grammar.specs.Refine.{Text, plain_kind, marking}
use Rattle.quanta_cursor.specs.declared.parser.TokenPos.{TokenPos}
use Rattle.quanta_cursor.specs.declared.parser.Node.{Node}
use Rattle.quanta_cursor.specs.declared.parser.Nodes.{Nodes}
use Rattle.quanta_cursor.specs.declared.parser.Refusal.{Refusal}
use Rattle.quanta_cursor.specs.Tokens.{kind_at, start_at, stop_at, fine_at, from, tok_at, Ready}
use Rattle.quanta_cursor.specs.Tree.{rec_of}
use Rattle.quanta_cursor.specs.Answers.{single, Failed, TookAll, Meets, Reads, Lists}
use Rattle.quanta_cursor.specs.Cursor.{joined, span_at, err_at, Expects, leaf_rec, close_rec, Words, Closes}
use Rattle.quanta_cursor.proofs.Sets.{Apart, apart as none_of, coarse, fine_kind, is_one}
use Rattle.quanta_cursor.proofs.Places.{all_few}
use Rattle.quanta_cursor.proofs.Meeting.{took_of, failed_of, all_of, all_failed_of, word_of}
use Rattle.quanta_cursor.proofs.Doing.{refuses_at}
use Rattle.quanta_cursor.proofs.Lists.{count_glue}
use Rattle.quanta_cursor.proofs.Under.{Under, starts, owned, expects, unexpected, worded_in, unworded, phrased, unphrased, alled, closed_by}
use Rattle.quanta_cursor.specs.declared.parser.Run.{Run}
use Rattle.quanta_item.specs.Blocks.{TookBlock}
use Rattle.quanta_item.proofs.Blocks.{block_few, block_count, keyed}

-- an item at the token i with these parts left, and the row of what it has left so far; the production r when k of its parts are read
abbrev Decl : List Mark → Items grammar → Text → List ℕ → ℕ → ℕ → ℕ → Row → List ℕ → ℕ → List ℕ → ℕ → Type 0
Decl ms is src ws i a p row t n tree q = Under (reads item a (from src ws i) fresh) src ws (tok_at src ws i) ms is a p (keyed src ws i row) t n tree q

abbrev After : Production item → ℕ → Text → List ℕ → ℕ → ℕ → ℕ → Row → List ℕ → ℕ → List ℕ → ℕ → Type 0
After r k = Decl (drop k (outs.marks item r)) (drop k (grammar.parts item r))

-- what the next kind picks; and where it is no item's keyword
picked : (src : Text) (ws : List ℕ) (i : ℕ) → pick (guide item) (fine_at src ws i) ≡ pick (guide item) (kind_at ws i)
picked src ws i = fine_kind (pick (guide item)) refl refl refl refl src ws i

picked_by : (src : Text) (ws : List ℕ) (i c : ℕ) → kind_at ws i ≡ c → pick (guide item) (fine_at src ws i) ≡ pick (guide item) c
picked_by src ws i c w = picked src ws i ∙ ap (pick (guide item)) w

passed : {R : Type 0} (c k : ℕ) (r : R) (ways : List (List ℕ × R)) (n : ℕ) → (k ≡ c → ⊥) → choose ways (refuse n) k ≡ refuse n → choose ((c ∷ [], r) ∷ ways) (refuse n) k ≡ refuse n
passed c k r ways n x z = choose_no (c ∷ []) r ways (refuse n) k (none_of (c ∷ []) k (x, tt)) ∙ z

-- no item's keyword
abbrev pub keywords : List ℕ
keywords = code Asset ∷ code State ∷ code Genesis ∷ code Invariant ∷ code Event ∷ code Entry ∷ []

pub no_item : (src : Text) (ws : List ℕ) (a : ℕ) {i n : ℕ} {u : Refusal} → Ready ws i n → Apart keywords (kind_at ws i) → u ≡ err_at ws i (refusal_code expected_contract_item) 0 → Failed (reads item a (from src ws i) fresh) u
no_item src ws a {i} g (x₁, (x₂, (x₃, (x₄, (x₅, (x₆, x)))))) v =
    let k = kind_at ws i in
    let n = refusal_code expected_contract_item in
    let ways = (guide item).ways in
    refuses_at src ws i g.inside item n a fresh g.closed (picked src ws i
    ∙ passed (code Asset) k asset_decl (drop 1 ways) n x₁ (passed (code State) k state_block (drop 2 ways) n x₂ (passed (code Genesis) k genesis_block (drop 3 ways) n x₃
    (passed (code Invariant) k invariant_decl (drop 4 ways) n x₄ (passed (code Event) k event_decl (drop 5 ways) n x₅ (passed (code Entry) k entry_decl [] n x₆ refl)))))) tt v

-- THE KEYWORD
module _ (src : Text) (ws : List ℕ) (a : ℕ) {i n p : ℕ} (g : Ready ws i n) (e : p ≡ i + 1) (t : List ℕ) where
  pub asset_key : kind_at ws i ≡ code Asset → After asset_decl 1 src ws i a p none t n t n
  asset_key w = owned (starts src ws item asset_decl a g (picked_by src ws i (code Asset) w) refl) tt (λ u. u) (is_one (code Asset) w) e

  pub state_key : kind_at ws i ≡ code State → After state_block 1 src ws i a p none t n t n
  state_key w = owned (starts src ws item state_block a g (picked_by src ws i (code State) w) refl) tt (λ u. u) (is_one (code State) w) e

  pub genesis_key : kind_at ws i ≡ code Genesis → After genesis_block 1 src ws i a p none t n t n
  genesis_key w = owned (starts src ws item genesis_block a g (picked_by src ws i (code Genesis) w) refl) tt (λ u. u) (is_one (code Genesis) w) e

  pub invariant_key : kind_at ws i ≡ code Invariant → After invariant_decl 1 src ws i a p none t n t n
  invariant_key w = owned (starts src ws item invariant_decl a g (picked_by src ws i (code Invariant) w) refl) tt (λ u. u) (is_one (code Invariant) w) e

  pub event_key : kind_at ws i ≡ code Event → After event_decl 1 src ws i a p none t n t n
  event_key w = owned (starts src ws item event_decl a g (picked_by src ws i (code Event) w) refl) tt (λ u. u) (is_one (code Event) w) e

  pub entry_key : kind_at ws i ≡ code Entry → After entry_decl 1 src ws i a p none t n t n
  entry_key w = owned (starts src ws item entry_decl a g (picked_by src ws i (code Entry) w) refl) tt (λ u. u) (is_one (code Entry) w) e

-- A PART MORE, behind the keyword: a name
abbrev name_row : List ℕ → ℕ → Row
name_row ws p = put none (leaf_rec ws p (node_code name_node)) none

module _ {ms : List Mark} {is : Items grammar} {src : Text} {ws : List ℕ} {i a p : ℕ} {t : List ℕ} {n : ℕ} (d : Decl (mark word pass apart [] ∷ ms) (one name ∷ is) src ws i a p none t n t n) {y : Result Node Refusal} {t₁ : List ℕ}
    (v : Words name (node_code name_node) (refusal_code expected_identifier) ws t p n y t₁) where
  pub unnamed : {u : Refusal} → y ≡ Err u → Failed (reads item a (from src ws i) fresh) u
  unnamed z = unworded name (node_code name_node) d tt v tt (λ i. refl) z

  module _ {m : Node} (z : y ≡ Ok m) where
    pub named : Decl ms is src ws i a m.at.0 (name_row ws p) t n t₁ m.no.0
    named = worded_in name (node_code name_node) d tt v (λ u. u) tt z

    pub name_few : 0 < m.no.0
    name_few = let w = ap (λ (m : Node). m.no.0) (word_of z v).1 in omega arith

-- .. an opening brace
module _ {ms : List Mark} {is : Items grammar} {src : Text} {ws : List ℕ} {i a p : ℕ} {t : List ℕ} {n : ℕ} (d : Decl (mark nothing pass apart [] ∷ ms) (one (code LBrace ∷ []) ∷ is) src ws i a p none t n t n) {y : Result TokenPos Refusal} (v : Expects ws p (code LBrace) y) where
  pub unopened : {u : Refusal} → y ≡ Err u → Failed (reads item a (from src ws i) fresh) u
  unopened z = unexpected (code LBrace) d tt tt (λ i. refl) z v

  pub opened : {o : TokenPos} → y ≡ Ok o → Decl ms is src ws i a o.0 none t n t n
  opened z = expects (code LBrace) d tt (λ u. u) z v

-- .. an expression
module _ {ms : List Mark} {is : Items grammar} {src : Text} {ws : List ℕ} {i a p : ℕ} {t : List ℕ} {n : ℕ} (d : Decl (mark nothing pass apart [] ∷ ms) (sub expr ∷ is) src ws i a p none t n t n) {y : Result Node Refusal} {t₁ : List ℕ} (v : Reads src expr ws p n a t y t₁) where
  pub unsaid : {u : Refusal} → y ≡ Err u → Failed (reads item a (from src ws i) fresh) u
  unsaid z = unphrased d (failed_of z v)

  pub said : {m : Node} (z : y ≡ Ok m) → Decl ms is src ws i a m.at.0 (put none (took_of z v).top (took_of z v).below) t n t₁ m.no.0
  said z = phrased d tt (took_of z v)

-- .. a list
module _ {ms : List Mark} {is : Items grammar} {src : Text} {ws : List ℕ} {i a p : ℕ} {row : Row} {t : List ℕ} {n : ℕ} {tree : List ℕ} {q : ℕ} (l : Symbol) (h : T (not (targets.minds l)))
    (d : Decl (mark nothing pass apart [] ∷ ms) (sub l ∷ is) src ws i a p row t n tree q) {y : Result Nodes Refusal} {tree₁ : List ℕ} (v : Lists src l ws p q a tree y tree₁) where
  pub unlisted : {u : Refusal} → y ≡ Err u → Failed (reads item a (from src ws i) fresh) u
  unlisted z = unphrased d (all_failed_of z v)

  module _ {m : Nodes} (z : y ≡ Ok m) where
    pub listed_in : Decl ms is src ws i a m.at.0 (glue row (all_of z v).acc.row) t n tree₁ m.no.0
    listed_in = alled d h (all_of z v)

    pub listed_count : count (glue row (all_of z v).acc.row) ≡ m.count + count row
    listed_count = let x = (all_of z v).many in omega (arith, count_glue row (all_of z v).acc.row)

-- THE CLOSING TOKEN, and the item's record
pub shut : {src : Text} {ws : List ℕ} {i a p : ℕ} {row : Row} {t : List ℕ} {n : ℕ} {tree : List ℕ} {q c : ℕ} {r : Result Node Refusal} {t' : List ℕ} (kind want : ℕ) → flag_of outs.flags kind (fine_at src ws i) + 0 ≡ 0 → T (coarse (want ∷ [])) → (T (eqb want (code Eof)) → ⊥)
    → T (marking (missed (want ∷ []))) → ((i : ℕ) → err_at ws i (refusal_code expected_token) want ≡ err_at ws i (missed (want ∷ [])) (plain_kind (wanted (want ∷ []))))
    → Decl (mark nothing pass widens (make kind ∷ []) ∷ []) (one (want ∷ []) ∷ []) src ws i a p row t n tree q → count row ≡ c → Closes ws tree want p q kind 0 i (span_at ws i) c r t' → Meets (reads item a (from src ws i) fresh) src ws t n r t'
shut {src} {ws} {i} {p = p} {row} kind want f b z k w d e c =
    closed_by (span_at ws i) want b z k w d
    (ap (λ (f : ℕ). single (rec_of kind f i (min (start_at ws i) (start_at ws p)) (max (stop_at ws i) (stop_at ws p)) (count row)) row (joined (span_at ws i) (span_at ws p))) f
    ∙ ap (λ (c : ℕ). single (close_rec ws p kind 0 i (span_at ws i) c) row (joined (span_at ws i) (span_at ws p))) e) c

pub semi_shut : {src : Text} {ws : List ℕ} {i a p : ℕ} {row : Row} {t : List ℕ} {n : ℕ} {tree : List ℕ} {q c : ℕ} {r : Result Node Refusal} {t' : List ℕ} (kind : ℕ) → flag_of outs.flags kind (fine_at src ws i) + 0 ≡ 0
    → Decl (mark nothing pass widens (make kind ∷ []) ∷ []) (one (code Semi ∷ []) ∷ []) src ws i a p row t n tree q → count row ≡ c → Closes ws tree (code Semi) p q kind 0 i (span_at ws i) c r t' → Meets (reads item a (from src ws i) fresh) src ws t n r t'
semi_shut kind f d e c = shut kind (code Semi) f tt (λ u. u) tt (λ i. refl) d e c

pub brace_shut : {src : Text} {ws : List ℕ} {i a p : ℕ} {row : Row} {t : List ℕ} {n : ℕ} {tree : List ℕ} {q c : ℕ} {r : Result Node Refusal} {t' : List ℕ} (kind : ℕ) → flag_of outs.flags kind (fine_at src ws i) + 0 ≡ 0
    → Decl (mark nothing pass widens (make kind ∷ []) ∷ []) (one (code RBrace ∷ []) ∷ []) src ws i a p row t n tree q → count row ≡ c → Closes ws tree (code RBrace) p q kind 0 i (span_at ws i) c r t' → Meets (reads item a (from src ws i) fresh) src ws t n r t'
brace_shut kind f d e c = shut kind (code RBrace) f tt (λ u. u) tt (λ i. refl) d e c

-- HOW MANY STAND BELOW AN ITEM: a list by itself; behind a name, whose record is the one before q
pub by_itself : {x c : ℕ} → x ≡ c + 0 → x ≡ c
by_itself e = omega arith

module _ {o : Outcome} {src : Text} {ws t : List ℕ} {q : ℕ} {m : Nodes} {tree : List ℕ} (h : 0 < q) (k : TookAll o src ws t q m tree) where
  pub two_small : {p : ℕ} → Ready ws p m.no.0 → m.count + 1 < 4294967296
  two_small g = let x = all_few k in omega (arith, g.fits, g.inside, g.closed.few)

  -- an entry's parameters, clauses and statements
  module _ {o₁ : Outcome} {m₁ : Nodes} {tree₁ : List ℕ} (k₁ : TookAll o₁ src ws tree m.no.0 m₁ tree₁) {o₂ : Outcome} {m₂ : Run} {tree₂ : List ℕ} (k₂ : TookBlock o₂ src ws tree₁ m₁.no.0 m₂ tree₂) where
    pub four_small : {p : ℕ} → Ready ws p m₂.no.0 → m.count + m₁.count + m₂.count + 1 < 4294967296
    four_small g =
        let x = all_few k in
        let y = all_few k₁ in
        let z = block_few k₂ in
        omega (arith, g.fits, g.inside, g.closed.few)

    pub all_four : {ms : List Mark} {is : Items grammar} {j a p i : ℕ} {t₀ : List ℕ} {n : ℕ} → Decl ms is src ws j a p (name_row ws i) t₀ n t q
        → m.count + m₁.count + m₂.count + 1 ≡ count (glue (glue (glue (name_row ws i) k.acc.row) k₁.acc.row) k₂.acc.row)
    all_four {i = i} d =
        let x = k.many in
        let y = k₁.many in
        omega (arith, count_glue (name_row ws i) k.acc.row, count_glue (glue (name_row ws i) k.acc.row) k₁.acc.row, block_count (glue (glue (name_row ws i) k.acc.row) k₁.acc.row) k₂)
