-- AN OPERATOR over what is left of it: it goes on with a chain of its level, or begins one.
-- Assumes nothing.
use Rattle.std.specs.Prelude.{Result}
use mathlib.Core.Path.{◌≡◌, refl, ap, sym, subst, ◌∙◌}
use mathlib.Core.Bool.{Bool, true, false}
use mathlib.Core.List.{List}
use Prim.Native.Nat.{ℕ, ◌+◌, ◌-◌, ◌<◌, ◌≤◌}
use native.Mathlib.Omega.{arith}
use lib.Dec.{T, eqb, eqb→eq, eqb_refl}
use lib.ListN.{length}
use Rattle.grammar.specs.Grammar.{Tok, has}
use Rattle.grammar.specs.Records.{none, put, Acc, fresh, flag_of}
use Rattle.grammar.specs.Fused.{Outcome}
use Rattle.grammar.proofs.Fuse.{onward, onward_onward}
use Rattle.grammar.proofs.Loops.{onward_same}
use Rattle.quanta_grammar.specs.NodeKind.{node_code, binary_node}
use Rattle.quanta_grammar.specs.Productions.{Level, Symbol, outs, unary, links, operators, operand}
use Rattle.quanta_grammar.specs.Reading.{reads}
use Rattle.quanta_grammar.proofs.Loops.{level_law, linked}
use Rattle.quanta_cursor.specs.declared.parser.TokenPos.{TokenPos}
use Rattle.quanta_cursor.specs.Tokens.{size, kind_at, from, tok_at}
use Rattle.quanta_cursor.proofs.Sets.{fine_in}
use Rattle.quanta_cursor.proofs.Places.{from_at}
use Rattle.quanta_cursor.proofs.Meeting.{failed_onward}
use Rattle.quanta_expr.proofs.Chains.{link_deep}
use Rattle.quanta_cursor.specs.declared.parser.Refusal.{Refusal}
use Rattle.quanta_engine.specs.declared.expr.Opening.{Opening}
use Rattle.quanta_engine.specs.declared.expr.State.{State}
use Rattle.quanta_engine.specs.declared.expr.Turn.{Turn}
use Rattle.quanta_engine.specs.Ranks.{rank_of, rank}
use Rattle.quanta_engine.specs.Frames.{Shape, infixed, framed, here, rank_at, climb, rest, resume}
use Rattle.quanta_engine.specs.Turns.{opening, Place, stack, Turned, Turns, Opens, Allows, Linking}
use Rattle.quanta_engine.proofs.Ranking.{coarse_ops, rank_some, operand_under, ranked, op_past}
use Rattle.quanta_engine.proofs.Climbing.{over_unary}
use Rattle.quanta_engine.proofs.Placed.{node_at, Calm, calm}
use Rattle.quanta_engine.proofs.Settled.{chained, unchained}
use Rattle.quanta_engine.proofs.Opened.{opened}

-- the opening of an operator at the state's token
abbrev pub infix_at : State → ℕ → ℕ → ℕ → Opening
infix_at s flag level a = opening s.node.at s.node.span (node_code binary_node) flag 2 level a

module _ {ws : List ℕ} {σ : Shape} {e : Opening} {s : State} {tree : List ℕ} (h : Place ws σ e s tree) (z : Calm h)
    (w : Level) (k : T (has (operators w) (kind_at ws (here s)))) (l : rank_at (stack h) < rank_of w) (a : ℕ)
    (low : a + length h.below ≤ h.task.b)
    (so : h.task.o ≡ onward (reads (links w) a (from h.task.src ws (here s)) (node_at z.behind))
    (rest h.task.src ws (stack h) (rank_of w - 1))) where
  -- its links, from its operand's first operand on
  linked_so : (b : ℕ) {q : ℕ} → q ≡ here s + 1 → (0 < a) × (b ≡ a - 1)
      → reads (links w) a (from h.task.src ws (here s)) (node_at z.behind)
      ≡ onward (reads unary b (from h.task.src ws q) fresh)
      (λ y r. onward (climb (rank_of w) (7 - rank_of w) b y r)
      (λ x p. reads (links w) b p (linked (node_at z.behind) (tok_at h.task.src ws (here s)) x)))
  linked_so b {q} i y =
      let src = h.task.src in
      let g = node_at z.behind in
      let t = tok_at src ws (here s) in
      let ts = from src ws (here s + 1) in
      let u = rank_some w in
      let k' : Acc → List Tok → Outcome = λ x p. reads (links w) b p (linked g t x) in
      ap (λ (ts : List Tok). reads (links w) a ts g) (from_at src ws (here s) h.stands.inside)
      ∙ (level_law w).on a t ts g (fine_in (operators w) (coarse_ops w) src ws (here s) k) y.0
      ∙ ap (λ (b : ℕ). onward (reads (operand w) b ts fresh) (λ x p. reads (links w) b p (linked g t x))) (sym y.1)
      ∙ ap (λ (i : ℕ). onward (reads (operand w) b (from src ws i) fresh) k') (sym i)
      ∙ ap (λ (v : Symbol). onward (reads v b (from src ws q) fresh) k') (sym (operand_under w))
      ∙ ap (λ (o : Outcome). onward o k') (over_unary (7 - rank_of w) (rank_of w) b (from src ws q) (omega (arith, u.1)))
      ∙ onward_onward (reads unary b (from src ws q) fresh) _ _

  infix_turn : {flag r : ℕ} {q : TokenPos} {x : Result Turn Refusal} → r ≡ rank_of w
      → flag ≡ flag_of outs.flags (node_code binary_node) (kind_at ws (here s))
      → q.0 ≡ here s + 1 → here s + 1 < size ws → Opens ws (infix_at s flag r a) q s.node.no x → Turned h x tree
  unfolding resume
  infix_turn {flag} {r} {q} {x} e v i j d =
      let src = h.task.src in
      let g = z.behind in
      let after = rest src ws (stack h) (rank_of w - 1) in
      opened h (framed (infixed w) (infix_at s flag r a) (put none g.top g.below) g.words g.number)
      (record {
        spent = λ u y. failed_onward after so
            (link_deep w (record { top = g.top; below = g.below; so = refl; kind = g.kind; laid = g.laid })
            h.stands.inside (k, v) i j y.0 y.1);
        so = λ b y. so
            ∙ ap (λ (o : Outcome). onward o after) (linked_so b i y)
            ∙ onward_onward (reads unary b (from src ws q.0) fresh) _ _
            ∙ onward_same (reads unary b (from src ws q.0) fresh) _ _
            (λ y r. onward_onward (climb (rank_of w) (7 - rank_of w) b y r) _ _);
        fits = record {
          ranked = e;
          kinded = refl;
          flagged = v;
          counted = refl;
          small = omega (arith, h.task.closed.few);
          low = omega arith;
          seated = (omega arith, l);
        };
        lies = g.lies;
        laid = g.laid;
        inside = omega arith;
        behind = omega arith;
        even = omega (arith, h.stands.even);
      })
      d

either : {A : Type 0} (m n : ℕ) → (m ≡ n → A) → ((m ≡ n → ⊥) → A) → A
either {A} m n f g = by (eqb m n) (λ t. eqb→eq m n t) (λ e. subst (λ (n : ℕ). T (eqb m n)) e (eqb_refl m))
  where
    by : (b : Bool) → (T b → m ≡ n) → (m ≡ n → T b) → A
    by true x y = f (x tt)
    by false x y = g y

-- another token stands behind the operator
pub linking_past : {ws : List ℕ} {e : Opening} {s : State} {kind level : ℕ} → Linking ws e s kind level
    → here s + 1 < size ws
linking_past c =
    let n = c.ranked ∙ ap rank c.kinded in
    op_past c.poised.ready (omega (arith, c.tighter))

-- THE TURN, by the allowance of the link
pub link_turn : {ws : List ℕ} {e : Opening} {s : State} {tree : List ℕ} {kind level a flag : ℕ} {q : TokenPos}
    {x : Result Turn Refusal} → Linking ws e s kind level → Allows e s level a
    → flag ≡ flag_of outs.flags (node_code binary_node) kind
    → q.0 ≡ here s + 1 → Opens ws (infix_at s flag level a) q s.node.no x → Turns ws e s tree x tree
link_turn {ws} {e} {s} {tree} {kind} {level} {a} {flag} {q} {x} c v y i d σ h =
    let z = calm h c.quiet in
    let n : level ≡ rank (kind_at ws (here s)) = c.ranked ∙ ap rank c.kinded in
    let w = ranked (kind_at ws (here s)) (omega (arith, c.tighter)) in
    let m : level ≡ rank_of w.level = n ∙ w.is in
    let lo : rank_at (stack h) < rank_of w.level = omega (arith, c.tighter, h.fits.ranked) in
    let f = y ∙ ap (flag_of outs.flags (node_code binary_node)) c.kinded in
    let p = h.stands.phase in
    let links_of_lem : ℕ → Outcome = λ a.
    onward (reads (links w.level) a (from h.task.src ws (here s)) (node_at z.behind))
    (rest h.task.src ws (stack h) (rank_of w.level - 1)) in
    let j : (a + length h.below ≤ h.task.b) × (h.task.o ≡ links_of_lem a) =
    either level s.rank
    (λ b.
    let u = v.chained b in (
      omega (arith, z.behind.low),
      chained h.task (stack h) h.stands.inside w.level w.is lo p z.behind z.past
          (sym m ∙ b ∙ h.stands.told) ∙ ap links_of_lem (sym u),
    ))
    (λ b.
    let u = v.first b in (
      omega (arith, h.fits.low),
      unchained h.task (stack h) h.stands.inside w.level w.is lo p z.behind z.past
          (λ t. b (m ∙ t ∙ sym h.stands.told)) ∙ ap links_of_lem (sym u),
    )) in
    infix_turn h z w.level w.op lo a j.0 j.1 m f i (linking_past c) d
