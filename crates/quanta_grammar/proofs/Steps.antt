-- What code proofs cite of Quanta's reader: its steps with what they leave, and one law for each kind of part of a production under way.
-- At a symbol that is given by name all of it computes.
-- Assumes nothing.
use mathlib.Core.Path.{◌≡◌, refl}
use mathlib.Core.Bool.{not}
use mathlib.Core.List.{List, [], ◌∷◌}
use Prim.Native.Nat.{ℕ, ◌-◌, ◌<◌, ◌≤◌}
use lib.Dec.{T, eqb}
use lib.ListN.{length}
use Rattle.grammar.specs.Grammar.{Tok, head, next, Items, one, sub, has, free, fare, front, back}
use Rattle.grammar.specs.Records.{Acc, Leaf, nothing, own, pass, fold, Reach, apart, widens, Step, make, Mark, fresh, leave, beside, finish}
use Rattle.grammar.specs.Reader.{Refusal, bad, use', refuse, pick, miss, refusal, spot}
use Rattle.grammar.specs.Fused.{Outcome, left, refused}
use Rattle.grammar.proofs.Sets.{solid, first}
use Rattle.grammar.proofs.Fuse as Fuse
use Rattle.grammar.proofs.Fuse.{fits, fuses}
use Rattle.grammar.proofs.Lines as Lines
use Rattle.grammar.proofs.Lines.{mark, stays}
use Rattle.grammar.proofs.Progress as Progress
use Rattle.quanta_token.specs.TokenKind.{code, Guard, Semi}
use Rattle.quanta_grammar.specs.NodeKind.{node_code, guard_node}
use Rattle.quanta_grammar.specs.RefusalKind.{refusal_code, too_deep}
use Rattle.quanta_grammar.specs.Productions.{Symbol, Production, grammar, outs, stmt, expr, guard_stmt}
use Rattle.quanta_grammar.specs.Names.{names}
use Rattle.quanta_grammar.specs.Guides.{guide}
use Rattle.quanta_grammar.specs.Reading.{toll, targets, plan, parse, reads}
use Rattle.quanta_grammar.proofs.Tables.{low, cheap}

-- no phrase under the target rule is folded, and a production that takes its first token's span has a token
pub fused : T (fuses grammar names outs targets)
unfolding Fuse.fuses solid first
fused = tt

-- the parts of a production whose first token is t₀, one after the other
abbrev pub go : Tok → List Mark → Items grammar → ℕ → List Tok → Acc → Outcome
go = Fuse.go grammar toll targets plan outs

-- THE THREE WAYS that a step can go.
pub takes : (s : Symbol) (p : Production s) (a : ℕ) (ts : List Tok) (x : Acc) → pick (guide s) (next ts) ≡ use' p → fare (toll s p) ≤ a → reads s a ts x ≡ go (head ts) (outs.marks s p) (grammar.parts s p) (a - fare (toll s p)) ts x
takes = Fuse.takes grammar toll targets plan outs (λ s d. refl) names low fused

pub spent : (s : Symbol) (p : Production s) (a : ℕ) (ts : List Tok) (x : Acc) → pick (guide s) (next ts) ≡ use' p → a < fare (toll s p) → reads s a ts x ≡ refused (refusal (refusal_code too_deep) (spot (toll s p) ts))
spent = Fuse.spent grammar toll targets plan outs (λ s d. refl) names low fused

pub refuses : (s : Symbol) (n a : ℕ) (ts : List Tok) (x : Acc) → pick (guide s) (next ts) ≡ refuse n → reads s a ts x ≡ refused (refusal n ts)
refuses = Fuse.refuses grammar toll targets plan outs (λ s d. refl) names low fused

-- WHERE IT COMES FROM: what is left comes from a derivation that the reader gives, a refusal from the reader's.
pub comes : (s : Symbol) (a : ℕ) (ts : List Tok) (x y : Acc) (r : List Tok) → reads s a ts x ≡ left y r → Fuse.Comes grammar toll targets plan outs s a ts x y r
comes = Fuse.comes grammar toll targets plan outs

pub fails : (s : Symbol) (a : ℕ) (ts : List Tok) (x : Acc) (e : Refusal) → reads s a ts x ≡ refused e → parse s a ts ≡ bad e
fails = Fuse.fails grammar toll targets plan outs

-- PROGRESS: what is taken stands at the front, and leaves no more records than it has tokens; of a solid symbol it is something (`solid names s` computes where `solid` unfolds).
pub progress : (s : Symbol) (a : ℕ) (ts : List Tok) (x y : Acc) (r : List Tok) → reads s a ts x ≡ left y r → Progress.Progress grammar ts x y r
progress = Progress.progress grammar toll targets plan outs names cheap

pub some : (s : Symbol) (a : ℕ) (ts : List Tok) (x y : Acc) (r : List Tok) (e : reads s a ts x ≡ left y r) → T (solid names s) → 1 ≤ length (progress s a ts x y r e).taken
unfolding progress
some s a ts x y r e = Progress.some grammar toll targets plan outs names cheap s a ts x y r e low

-- A PRODUCTION UNDER WAY: o is what comes of these parts.
abbrev pub Doing : Outcome → Tok → List Mark → Items grammar → ℕ → List Tok → Acc → Type 0
Doing = Lines.Doing grammar toll targets plan outs

pub begin : (s : Symbol) (p : Production s) (a : ℕ) (ts : List Tok) (x : Acc) → pick (guide s) (next ts) ≡ use' p → toll s p ≡ free → Doing (reads s a ts x) (head ts) (outs.marks s p) (grammar.parts s p) a ts x
begin = Lines.begin grammar toll targets plan outs (λ s d. refl) names low fused

pub begin_paying : (s : Symbol) (p : Production s) (a : ℕ) (ts : List Tok) (x : Acc) → pick (guide s) (next ts) ≡ use' p → fare (toll s p) ≤ a → Doing (reads s a ts x) (head ts) (outs.marks s p) (grammar.parts s p) (a - fare (toll s p)) ts x
begin_paying = Lines.begin_paying grammar toll targets plan outs (λ s d. refl) names low fused

module _ {o : Outcome} {t₀ : Tok} {ms : List Mark} {is : Items grammar} {a : ℕ} {x : Acc} where
  -- a token that is wanted, and one that is not
  pub eat : {m : Mark} {c : List ℕ} {t : Tok} {ts : List Tok} → Doing o t₀ (m ∷ ms) (one c ∷ is) a (t ∷ ts) x → T (stays grammar c t) → T (has c t.kind) → Doing o t₀ ms is a ts (finish outs t₀ m.steps (leave outs m.token m.reach t x))
  eat d n h = Lines.eat grammar toll targets plan outs d n h

  pub lack : {c : List ℕ} {t : Tok} {ts : List Tok} → Doing o t₀ ms (one c ∷ is) a (t ∷ ts) x → T (stays grammar c t) → (T (has c t.kind) → ⊥) → o ≡ refused (miss plan c (t ∷ ts))
  lack d n h = Lines.lack grammar toll targets plan outs d n h

  -- the first half of a pair, where a half is wanted
  pub eat_half : {m : Mark} {c : List ℕ} {t : Tok} {ts : List Tok} → Doing o t₀ (m ∷ ms) (one c ∷ is) a (t ∷ ts) x
      → T (has c grammar.half) → T (eqb t.kind grammar.pair)
      → Doing o t₀ ms is a (back grammar.half t ∷ ts)
      (finish outs t₀ m.steps (leave outs m.token m.reach (front grammar.half t) x))
  eat_half d n h = Lines.eat_half grammar toll targets plan outs d n h

  -- a phrase beside what is left: one that the target rule does not mind, and one under it
  module _ {l : Leaf} {r : Reach} {ss : List Step} {s : Symbol} {ts : List Tok} (d : Doing o t₀ (mark l pass r ss ∷ ms) (sub s ∷ is) a ts x) where
    pub bring : {y : Acc} {q : List Tok} → T (not (targets.minds s)) → reads s a ts fresh ≡ left y q → Doing o t₀ ms is a q (finish outs t₀ ss (beside r x y))
    bring h e = Lines.bring grammar toll targets plan outs d h e

    pub fails_in : {e : Refusal} → reads s a ts fresh ≡ refused e → o ≡ refused e
    fails_in e = Lines.fails grammar toll targets plan outs d e

    pub suits : {y : Acc} {q : List Tok} → reads s a ts fresh ≡ left y q → T (fits targets s y (next q)) → Doing o t₀ ms is a q (finish outs t₀ ss (beside r x y))
    suits e h = Lines.suits grammar toll targets plan outs d e h

    pub unsuits : {y : Acc} {q : List Tok} → reads s a ts fresh ≡ left y q → (T (fits targets s y (next q)) → ⊥) → o ≡ refused (targets.refusal y)
    unsuits e h = Lines.unsuits grammar toll targets plan outs d e h

  -- a phrase on top of what is left
  module _ {l : Leaf} {r : Reach} {ss : List Step} {s : Symbol} {ts : List Tok} (d : Doing o t₀ (mark l fold r ss ∷ ms) (sub s ∷ is) a ts x) where
    pub fold_in : {y : Acc} {q : List Tok} → reads s a ts x ≡ left y q → Doing o t₀ ms is a q (finish outs t₀ ss y)
    fold_in e = Lines.fold_in grammar toll targets plan outs d e

    pub fold_fails : {e : Refusal} → reads s a ts x ≡ refused e → o ≡ refused e
    fold_fails e = Lines.fold_fails grammar toll targets plan outs d e

-- the last phrase, on top of all; and the end
pub last : {o : Outcome} {t₀ : Tok} {l : Leaf} {r : Reach} {s : Symbol} {a : ℕ} {ts : List Tok} {x : Acc} → Doing o t₀ (mark l fold r [] ∷ []) (sub s ∷ []) a ts x → o ≡ reads s a ts x
last d = Lines.last grammar toll targets plan outs d

pub over : {o : Outcome} {t₀ : Tok} {ms : List Mark} {a : ℕ} {ts : List Tok} {x : Acc} → Doing o t₀ ms [] a ts x → o ≡ left x ts
over d = Lines.over grammar toll targets plan outs d

-- As an example, a statement read by its parts: `guard`, an expression, `;`.
guard_read : (a : ℕ) (t u : Tok) (ts us : List Tok) (y : Acc) → t.kind ≡ code Guard → u.kind ≡ code Semi → reads expr a ts fresh ≡ left y (u ∷ us)
    → reads stmt a (t ∷ ts) fresh ≡ left (finish outs t (make (node_code guard_node) ∷ []) (leave outs nothing widens u (beside apart (leave outs own widens t fresh) y))) us
guard_read a t u ts us y p q e = over (eat (bring (eat (begin stmt guard_stmt a (t ∷ ts) fresh (rw p refl) refl) tt (rw p tt)) tt e) tt (rw q tt))
