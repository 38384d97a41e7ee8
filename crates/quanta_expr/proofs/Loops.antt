-- The loops of the ring: each way out of one, and each way round, from what the calls in it say.
-- Assumes nothing.
use Rattle.std.specs.Prelude.{Err, Ok, Result, IsErrAnd}
use mathlib.Core.Path.{◌≡◌, refl}
use mathlib.Core.List.{List}
use Prim.Native.Nat.{ℕ, ◌+◌, ◌<◌, ◌≤◌}
use native.Mathlib.Omega.{arith}
use lib.Dec.{T}
use lib.ListN.{length}
use Rattle.grammar.specs.Grammar.{has}
use Rattle.grammar.specs.Records.{fresh}
use Rattle.quanta_token.specs.TokenKind.{code, Dot, LParen, RParen}
use Rattle.quanta_grammar.specs.NodeKind.{node_code, call_node}
use Rattle.quanta_grammar.specs.Productions.{Level, level, links, operators, operand}
use Rattle.quanta_grammar.specs.Productions.{args, postfix, primary, suffixes}
use Rattle.quanta_grammar.specs.Reading.{reads}
use Rattle.quanta_grammar.specs.Refine.{Text, blank}
use Rattle.quanta_cursor.specs.declared.parser.Node.{Node}
use Rattle.quanta_cursor.specs.declared.parser.Nodes.{Nodes}
use Rattle.quanta_cursor.specs.declared.parser.Refusal.{Refusal}
use Rattle.quanta_cursor.specs.Tokens.{kind_at, from, Ready}
use Rattle.quanta_cursor.specs.Tree.{put_rec}
use Rattle.quanta_cursor.specs.Answers.{Reads, Lists}
use Rattle.quanta_cursor.specs.Cursor.{Enters, Closes}
use Rattle.quanta_cursor.proofs.Places.{ready_past, ready_small, ready_few, took_ready, all_onward, all_ready, all_few}
use Rattle.quanta_cursor.proofs.Meeting.{took, fails, took_of, failed_of, all_of, all_failed_of, left_of, spent_of}
use Rattle.quanta_cursor.proofs.Doing.{close_ready}
use Rattle.quanta_expr.specs.Nodes.{folded, fold_rec, Accesses}
use Rattle.quanta_expr.proofs.Chains.{Link, Chain, Operates, chain_in, chain_on, link_past, level_first, level_bad}
use Rattle.quanta_expr.proofs.Chains.{link_stop, link_deep, link_bad, link_on, link_ready}
use Rattle.quanta_expr.proofs.Suffixes.{is_start, start_past, postfix_first, postfix_bad, suffix_stop, suffix_deep}
use Rattle.quanta_expr.proofs.Suffixes.{dot_bad, dot_on, dot_ready, access_of}
use Rattle.quanta_expr.proofs.Suffixes.{no_access_of, args_bad, call_bad, call_on}

-- A LEVEL: its first operand
module _ (v : Level) {ws t : List ℕ} (at a : ℕ) {n : ℕ} {r₀ : Result Node Refusal} {t₀ : List ℕ}
    (first : (src : Text) → Reads src (operand v) ws at n a t r₀ t₀) where
  pub level_refused : {e : Refusal} {r : Result Node Refusal} {t' : List ℕ} → r₀ ≡ Err e → IsErrAnd r (λ y. y ≡ e)
      → (src : Text) → Reads src (level v) ws at n a t r t'
  level_refused z h src = fails h (level_bad v src ws at a (failed_of z (first src)))

  pub level_begins : {m₀ : Node} → r₀ ≡ Ok m₀ → Ready ws at n → Chain (links v) ws m₀ a t₀ m₀ a t₀
  level_begins z g = chain_in (took_ready blank (operand v) a g (took_of z (first blank)))

  -- the links so far
  module _ {m₀ : Node} (z₀ : r₀ ≡ Ok m₀) {m : Node} {d : ℕ} {tree : List ℕ}
      (g : Chain (links v) ws m₀ a t₀ m d tree) where
    linked : (src : Text) → Link (links v) (reads (level v) a (from src ws at) fresh) src ws t n m d tree
    linked src = g.carries src _ _ _ (level_first v src ws at a (took_of z₀ (first src)))

    pub level_ends : (T (has (operators v) (kind_at ws m.at.0)) → ⊥)
        → (src : Text) → Reads src (level v) ws at n a t (Ok m) tree
    level_ends z src = took (link_stop v (linked src) g.ready.inside z)

    -- one more, whose operator is next
    module _ {flag p : ℕ} (w : Operates v (kind_at ws m.at.0) flag) (q : p ≡ m.at.0 + 1) {r₁ : Result ℕ Refusal}
        (entered : Enters ws p d r₁) where
      pub level_deep : {e : Refusal} {r : Result Node Refusal} {t' : List ℕ} → r₁ ≡ Err e → IsErrAnd r (λ y. y ≡ e)
          → (src : Text) → Reads src (level v) ws at n a t r t'
      level_deep z h src =
          let y = spent_of z entered in
          fails h (link_deep v (linked src) g.ready.inside w q (link_past v g.ready w) y.0 y.1)

      module _ {b : ℕ} (z₁ : r₁ ≡ Ok b) {r₂ : Result Node Refusal} {t₂ : List ℕ}
          (second : (src : Text) → Reads src (operand v) ws p m.no.0 b tree r₂ t₂) where
        pub level_unread : {e : Refusal} {r : Result Node Refusal} {t' : List ℕ} → r₂ ≡ Err e → IsErrAnd r (λ y. y ≡ e)
            → (src : Text) → Reads src (level v) ws at n a t r t'
        level_unread z h src =
            fails h (link_bad v (linked src) g.ready.inside w q (left_of z₁ entered) (failed_of z (second src)))

        module _ {k : Node} (z₂ : r₂ ≡ Ok k) where
          pub level_folds : (m.at.0 < 4294967296) × (k.no.0 < 4294967296)
          level_folds =
              let y = ready_past g.ready (link_past v g.ready w) q in
              (ready_small g.ready, ready_few (took_ready blank (operand v) b y (took_of z₂ (second blank))))

          pub level_goes : {m' : Node} {t₃ : List ℕ} → m' ≡ folded m k
              → t₃ ≡ put_rec t₂ k.no.0 (fold_rec m.at.0 flag m k) → length t₃ ≡ length tree
              → Chain (links v) ws m₀ a t₀ m' b t₃
          level_goes x y l =
              let z = left_of z₁ entered in
              chain_on g (λ src o t n s. link_on v s g.ready.inside w q z (took_of z₂ (second src)) x y)
              (link_ready blank v m b g.ready (link_past v g.ready w) q (took_of z₂ (second blank)) x)
              (omega (arith, z.0, z.1)) l

-- THE SUFFIXES: what they stand behind
module _ {ws t : List ℕ} {at n : ℕ} (ready : Ready ws at n) (a : ℕ) {r₀ : Result Node Refusal} {t₀ : List ℕ}
    (first : (src : Text) → Reads src primary ws at n a t r₀ t₀) where
  pub suffixes_refused : {e : Refusal} {r : Result Node Refusal} {t' : List ℕ} → r₀ ≡ Err e → IsErrAnd r (λ y. y ≡ e)
      → (src : Text) → Reads src postfix ws at n a t r t'
  suffixes_refused z h src = fails h (postfix_bad src ws at a ready.inside (failed_of z (first src)))

  pub suffixes_begin : {m₀ : Node} → r₀ ≡ Ok m₀ → Chain suffixes ws m₀ a t₀ m₀ a t₀
  suffixes_begin z = chain_in (took_ready blank primary a ready (took_of z (first blank)))

  -- the links so far
  module _ {m₀ : Node} (z₀ : r₀ ≡ Ok m₀) {m : Node} {d : ℕ} {tree : List ℕ}
      (g : Chain suffixes ws m₀ a t₀ m d tree) where
    chained : (src : Text) → Link suffixes (reads postfix a (from src ws at) fresh) src ws t n m d tree
    chained src = g.carries src _ _ _ (postfix_first src ws at a ready.inside (took_of z₀ (first src)))

    pub suffixes_end : (kind_at ws m.at.0 ≡ code Dot → ⊥) → (kind_at ws m.at.0 ≡ code LParen → ⊥)
        → (src : Text) → Reads src postfix ws at n a t (Ok m) tree
    suffixes_end y z src = took (suffix_stop (chained src) g.ready.inside y z)

    module _ {r₁ : Result ℕ Refusal} (entered : Enters ws m.at.0 d r₁) where
      -- a name behind a `.`
      module _ (w : kind_at ws m.at.0 ≡ code Dot) where
        pub dot_deep : {e : Refusal} {r : Result Node Refusal} {t' : List ℕ} → r₁ ≡ Err e → IsErrAnd r (λ y. y ≡ e)
            → (src : Text) → Reads src postfix ws at n a t r t'
        dot_deep z h src =
            let y = spent_of z entered in
            fails h (suffix_deep (chained src) g.ready.inside (is_start (code Dot) w tt) y.0 y.1)

        module _ {b : ℕ} (z₁ : r₁ ≡ Ok b) {r₂ : Result Node Refusal} {t₂ : List ℕ}
            (named : Accesses ws tree m r₂ t₂) where
          past : Ready ws (m.at.0 + 1) m.no.0
          past = start_past g.ready (is_start (code Dot) w tt) refl

          pub dot_refused : {e : Refusal} {r : Result Node Refusal} {t' : List ℕ} → r₂ ≡ Err e → IsErrAnd r (λ y. y ≡ e)
              → (src : Text) → Reads src postfix ws at n a t r t'
          dot_refused z h src =
              fails h (dot_bad (chained src) g.ready.inside w (left_of z₁ entered) past (no_access_of z named))

          pub dot_goes : {m' : Node} → r₂ ≡ Ok m' → length t₂ ≡ length tree → Chain suffixes ws m₀ a t₀ m' b t₂
          dot_goes z l =
              let y = left_of z₁ entered in
              chain_on g (λ src o t n s. dot_on s g.ready.inside w y past (access_of z named))
              (dot_ready m g.ready past.inside z named) (omega (arith, y.0, y.1)) l

      -- a call
      module _ (w : kind_at ws m.at.0 ≡ code LParen) where
        pub call_deep : {e : Refusal} {r : Result Node Refusal} {t' : List ℕ} → r₁ ≡ Err e → IsErrAnd r (λ y. y ≡ e)
            → (src : Text) → Reads src postfix ws at n a t r t'
        call_deep z h src =
            let y = spent_of z entered in
            fails h (suffix_deep (chained src) g.ready.inside (is_start (code LParen) w tt) y.0 y.1)

        module _ {b : ℕ} (z₁ : r₁ ≡ Ok b) {p : ℕ} (q : p ≡ m.at.0 + 1) {r₂ : Result Nodes Refusal} {t₂ : List ℕ}
            (listed : (src : Text) → Lists src args ws p m.no.0 b tree r₂ t₂) where
          pub args_refused : {e : Refusal} {r : Result Node Refusal} {t' : List ℕ} → r₂ ≡ Err e
              → IsErrAnd r (λ y. y ≡ e) → (src : Text) → Reads src postfix ws at n a t r t'
          args_refused z h src =
              fails h (args_bad (chained src) g.ready.inside w (left_of z₁ entered) q (all_failed_of z (listed src)))

          module _ {k : Nodes} (z₂ : r₂ ≡ Ok k) where
            inner : Ready ws p m.no.0
            inner = start_past g.ready (is_start (code LParen) w tt) q

            behind : Ready ws k.at.0 k.no.0
            behind = all_ready blank args b inner (all_of z₂ (listed blank))

            pub call_takes : Ready ws k.at.0 k.no.0 × (m.at.0 < k.at.0) × (k.count ≤ k.no.0)
            call_takes =
                let l = all_of z₂ (listed blank) in
                let y = all_onward blank args b inner.inside l in
                let x = all_few l in
                (behind, omega (arith, y.0, q), omega arith)

            module _ {r₃ : Result Node Refusal} {t₃ : List ℕ}
                (closed : Closes ws t₂ (code RParen) k.at.0 k.no.0 (node_code call_node) 0 m.at.0 m.span (k.count + 1)
                r₃ t₃) where
              pub call_refused : {e : Refusal} {r : Result Node Refusal} {t' : List ℕ} → r₃ ≡ Err e
                  → IsErrAnd r (λ y. y ≡ e) → (src : Text) → Reads src postfix ws at n a t r t'
              call_refused z h src =
                  fails h (call_bad (chained src) g.ready.inside w (left_of z₁ entered) q (all_of z₂ (listed src))
                  behind z closed)

              pub call_goes : {m' : Node} → r₃ ≡ Ok m' → length t₃ ≡ length tree → Chain suffixes ws m₀ a t₀ m' b t₃
              call_goes z l =
                  let y = left_of z₁ entered in
                  chain_on g (λ src o t n s. call_on s g.ready.inside w y q (all_of z₂ (listed src)) behind z closed)
                  (close_ready (code RParen) m.span (λ u. u) behind z closed) (omega (arith, y.0, y.1)) l
