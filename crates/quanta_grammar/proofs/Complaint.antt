-- R-14 over the lexer's tokens, with their kinds by text: where `after` is marked, or stands before the marked token, it may be of either kind.
-- Assumes nothing.
use mathlib.Core.Path.{◌≡◌, refl, ap, sym, ◌∙◌, subst}
use mathlib.Core.Bool.{Bool, true, false, not, ◌&&◌, ◌||◌}
use mathlib.Core.List.{List, [], ◌∷◌, ◌++◌, append_assoc, append-nil}
use Prim.Native.Nat.{ℕ}
use native.Mathlib.Omega.{arith}
use lib.Dec.{T, eqb, eqb→eq}
use Rattle.grammar.specs.Grammar.{Tok, head, has, node, end, leaf, down, yield}
use Rattle.grammar.specs.Facts.{Same, Grown}
use Rattle.grammar.specs.Reader.{Refusal, bad, read}
use Rattle.grammar.proofs.Table.{both, and_intro, or_cases, or_left, every_rule}
use Rattle.grammar.proofs.Seeds.{bare}
use Rattle.grammar.proofs.Halves.{single}
use Rattle.grammar.proofs.Relabel.{relabels, relabels_append, kept, renew, renew_yield}
use Rattle.grammar.proofs.Place as Place
use Rattle.grammar.proofs.Swap.{cons, tops, tails}
use Rattle.grammar.proofs.Swap as Swap
use Rattle.quanta_token.specs.TokenKind.{code, Int, After, Gt, Shr}
use Rattle.quanta_grammar.specs.FineKind.{fine, UnitWord, AfterSpan, TwoClosers, OneCloser}
use Rattle.quanta_grammar.specs.Names.{symbol_no, names}
use Rattle.quanta_grammar.specs.Productions.{Level, Symbol, grammar, Derivation, literal, operand, clause, expr, level}
use Rattle.quanta_grammar.specs.Productions.{logic_or, logic_and, equality, comparison, shift, additive, multiplicative}
use Rattle.quanta_grammar.specs.Productions.{after_expr, after_duration, no_from, int_unit, top, operands, link_end, no_prefix, chain, no_suffix, atom}
use Rattle.quanta_grammar.specs.Reading.{toll, terms, plan, Call, parse}
use Rattle.quanta_grammar.specs.Refine.{span_here, sharpen, ahead, marking}
use Rattle.quanta_grammar.specs.Complaint.{untold, plain, blunt, blunts, Sentence, Complaint}
use Rattle.quanta_grammar.proofs.Tables.{fronts, follows, low, ok, grows}
use Rattle.quanta_grammar.proofs.Calls.{ends}
use Rattle.quanta_grammar.proofs.Coherent.{symbol_eq, coherent, unblunt}

-- where the reader stops: the tokens before the marked one begin a derivation, without the limit and the target rule ..
abbrev Stops : Symbol → ℕ → List Tok → Refusal → Type 0
Stops s a ts e = Place.Stop grammar toll terms plan names low grows marking (λ n. n) (λ s d n. n) (Derivation s) (read grammar toll (bare grammar) plan s) (Grown grammar s) a ts e

place : (s : Symbol) (a : ℕ) (ts : List Tok) (e : Refusal) → parse s a ts ≡ bad e → T (single grammar.pair ts) → T (marking e.number) → Stops s a ts e
place = Place.place grammar toll terms plan names low grows marking (λ n. n) (λ s d n. n)

-- .. and no derivation spells those tokens, then the marked one, then any others
none : {s : Symbol} → Call s → (a : ℕ) (ts : List Tok) (e : Refusal) (x : Stops s a ts e) → (d : Derivation s) (v : List Tok) → Same x.rest v → yield d ≡ x.before ++ v → ⊥
none {s} c a ts e x = Place.none grammar toll terms plan names low grows marking (λ n. n) (λ s d n. n) fronts follows ok s a ts e x (ends c)

abbrev is_after : ℕ → Bool
is_after k = eqb k (code After) || eqb k (fine AfterSpan)

abbrev is_clause : Symbol → Bool
is_clause s = eqb (symbol_no s) (symbol_no clause)

or_in : (b : Bool) → T b → T (b || false)
or_in true t = tt
or_in false t = t

-- a derivation of a level's operand is one of the level
lift : (v : Level) → Derivation (operand v) → Derivation (level v)
lift v d = node operands (down d (down (node link_end end) end))

-- an integer as an expression, and a clause of either kind that begins with z and the integer i
int_expr : (i : Tok) → T (has literal i.kind) → Derivation expr
int_expr i h =
    let d = node no_prefix (down (node chain (down (node atom (leaf i h end)) (down (node no_suffix end) end))) end) in
    node top (down (lift logic_or (lift logic_and (lift equality (lift comparison (lift shift (lift additive (lift multiplicative d))))))) end)

a_unit : Tok
a_unit = record { place = 0; kind = fine UnitWord; start = 0; stop = 0 }

new_clause : (z i : Tok) → T (is_after z.kind) → T (eqb i.kind (code Int)) → Grown grammar clause (z ∷ (i ∷ []))
unfolding yield lift int_expr a_unit
new_clause z i a h =
    or_cases (eqb z.kind (code After)) (eqb z.kind (fine AfterSpan)) a
    (λ e. record { tree = node after_expr (leaf z (or_in (eqb z.kind (code After)) e) (down (int_expr i (or_left (eqb i.kind (code Int)) _ h)) (down (node no_from end) end))); more = []; spells = refl })
    (λ e. record { tree = node after_duration (leaf z (or_in (eqb z.kind (fine AfterSpan)) e) (down (node int_unit (leaf i (or_in (eqb i.kind (code Int)) h) (leaf a_unit tt end))) (down (node no_from end) end))); more = a_unit ∷ []; spells = refl })

-- in any derivation an `after` can be put for one of either kind, with an integer behind it
swapped : (z i : Tok) → T (is_after z.kind) → T (eqb i.kind (code Int)) → {s : Symbol} (d : Derivation s) (x : List Tok) (t : Tok) (y : List Tok) → T (is_after t.kind) → yield d ≡ x ++ (t ∷ y) → Grown grammar s (x ++ (z ∷ (i ∷ [])))
swapped z i a h = Swap.swap grammar names is_after is_clause tt z i (λ s k. subst (λ (s : Symbol). Grown grammar s (z ∷ (i ∷ []))) (sym (symbol_eq s clause k)) (new_clause z i a h))

-- tokens told apart, before others
abbrev within : List Tok → List Tok → List Tok
within [] ys = []
within (x ∷ xs) ys = sharpen x (xs ++ ys) ∷ within xs ys

ahead_append : (xs ys : List Tok) → ahead (xs ++ ys) ≡ within xs ys ++ ahead ys
ahead_append [] ys = refl
ahead_append (x ∷ xs) ys = cons refl (ahead_append xs ys)

within_last : (b : List Tok) (z : Tok) (ys : List Tok) → within (b ++ (z ∷ [])) ys ≡ within b (z ∷ ys) ++ (sharpen z ys ∷ [])
within_last [] z ys = refl
within_last (x ∷ b) z ys = cons (ap (sharpen x) (append_assoc b (z ∷ []) ys)) (within_last b z ys)

-- two tokens behind decide
within_two : (b : List Tok) (z t : Tok) (v r : List Tok) → within b (z ∷ (t ∷ v)) ≡ within b (z ∷ (t ∷ r))
within_two [] z t v r = refl
within_two (x ∷ []) z t v r = refl
within_two (x ∷ (y ∷ [])) z t v r = cons refl (within_two (y ∷ []) z t v r)
within_two (x ∷ (y ∷ (w ∷ b))) z t v r = cons refl (within_two (y ∷ (w ∷ b)) z t v r)

cut_eq : (b ys r q : List Tok) → b ++ r ≡ within (blunts b) ys ++ q → (b ≡ within (blunts b) ys) × (r ≡ q)
cut_eq [] ys r q e = (refl, e)
cut_eq (x ∷ b) ys r q e = let l = cut_eq b ys r q (tails e) in (cons (tops e) l.0, l.1)

blunts_append : (xs ys : List Tok) → blunts (xs ++ ys) ≡ blunts xs ++ blunts ys
blunts_append [] ys = refl
blunts_append (x ∷ xs) ys = cons refl (blunts_append xs ys)

-- a token that is no `after` stays as it is
stays : (k : ℕ) (a c : Bool) → (T a → T c → ⊥) → elim (a && c) as (λ z. ℕ) [ true ↦ fine AfterSpan | false ↦ k ] ≡ k
stays k true true h = absurd (h tt tt)
stays k true false h = refl
stays k false c h = refl

with_kind : (t : Tok) (k : ℕ) → k ≡ t.kind → record { place = t.place; kind = k; start = t.start; stop = t.stop } ≡ t
with_kind t k e = ap (λ n. record { place = t.place; kind = n; start = t.start; stop = t.stop }) e

sharpen_no : (t : Tok) (ts : List Tok) → (T (eqb t.kind (code After)) → T (span_here ts) → ⊥) → sharpen t ts ≡ t
sharpen_no t ts h = with_kind t _ (stays t.kind (eqb t.kind (code After)) (span_here ts) h)

still_after : (t : Tok) (ts : List Tok) → T (eqb t.kind (code After)) → T (is_after (sharpen t ts).kind)
still_after t ts h = go (eqb t.kind (code After) && span_here ts)
  where
    go : (b : Bool) → T (is_after (elim b [ true ↦ fine AfterSpan | false ↦ t.kind ]))
    go true = tt
    go false = or_left (eqb t.kind (code After)) _ h

-- a plain token's kind is none of the three
neither : (a b : Bool) → T (not (a || b)) → T (not a) × T (not b)
neither true b n = absurd n
neither false b n = (tt, n)

told : (k : ℕ) → T (not (has untold k))
    → T (not (eqb k (fine AfterSpan))) × T (not (eqb k (fine TwoClosers))) × T (not (eqb k (fine OneCloser)))
told k n =
    let l = neither (eqb k (fine AfterSpan)) (eqb k (fine TwoClosers) || (eqb k (fine OneCloser) || false)) n in
    let m = neither (eqb k (fine TwoClosers)) (eqb k (fine OneCloser) || false) l.1 in
    (l.0, m.0, (neither (eqb k (fine OneCloser)) false m.1).0)

pub untold_no : (k : ℕ) → T (not (eqb k (fine AfterSpan))) → T (not (eqb k (fine TwoClosers)))
    → T (not (eqb k (fine OneCloser))) → T (not (has untold k))
untold_no k p q r = go (eqb k (fine AfterSpan)) (eqb k (fine TwoClosers)) (eqb k (fine OneCloser)) p q r
  where
    go : (a b c : Bool) → T (not a) → T (not b) → T (not c) → T (not (a || (b || (c || false))))
    go true b c p q r = p
    go false true c p q r = q
    go false false true p q r = r
    go false false false p q r = tt

-- .. so none is two closers
pub plain_single : (ts : List Tok) → T (plain ts) → T (single (fine TwoClosers) (ahead ts))
plain_single [] h = tt
plain_single (t ∷ ts) h =
    let l = both (not (has untold t.kind)) (plain ts) h in
    and_intro (not (eqb (sharpen t ts).kind (fine TwoClosers))) (single (fine TwoClosers) (ahead ts))
    (go (eqb t.kind (code After) && span_here ts) (told t.kind l.0).1) (plain_single ts l.1)
  where
    go : (b : Bool) → T (not (eqb t.kind (fine TwoClosers)))
        → T (not (eqb (elim b as (λ z. ℕ) [ true ↦ fine AfterSpan | false ↦ t.kind ]) (fine TwoClosers)))
    go true n = tt
    go false n = n

blunt_ahead : (ts : List Tok) → T (plain ts) → blunts (ahead ts) ≡ ts
blunt_ahead [] h = refl
blunt_ahead (t ∷ ts) h =
    let l = both (not (has untold t.kind)) (plain ts) h in
    let a = eqb t.kind (code After) in
    let e = eqb→eq t.kind (code After) in
    cons (with_kind t _ (go (a && span_here ts) (λ x. e (both a (span_here ts) x).0) (told t.kind l.0).0))
    (blunt_ahead ts l.1)
  where
    keep : (b : Bool) → T (not b) → elim b as (λ z. ℕ) [ true ↦ code After | false ↦ t.kind ] ≡ t.kind
    keep true n = absurd n
    keep false n = refl

    go : (b : Bool) → (T b → t.kind ≡ code After) → T (not (eqb t.kind (fine AfterSpan)))
        → elim (eqb (elim b [ true ↦ fine AfterSpan | false ↦ t.kind ]) (fine AfterSpan)) as (λ z. ℕ) [ true ↦ code After | false ↦ elim b [ true ↦ fine AfterSpan | false ↦ t.kind ] ] ≡ t.kind
    go true e n = sym (e tt)
    go false e n = keep (eqb t.kind (fine AfterSpan)) n

blunt_head : (ts : List Tok) → blunt (head ts) ≡ head (blunts ts)
blunt_head [] = refl
blunt_head (t ∷ ts) = refl

-- the kinds of edition 1 for those of edition 2: the grammar has the one in each set that has the other
abbrev coarse : ℕ → ℕ
coarse k =
    elim (eqb k (fine TwoClosers))
    [ true ↦ code Shr | false ↦ elim (eqb k (fine OneCloser)) [ true ↦ code Gt | false ↦ k ] ]

coarsely : T (every_rule names (λ s p. kept coarse (grammar.parts s p)))
coarsely = tt

coarse_same : (k : ℕ) → T (not (eqb k (fine TwoClosers))) → T (not (eqb k (fine OneCloser))) → coarse k ≡ k
coarse_same k p q = go (eqb k (fine TwoClosers)) (eqb k (fine OneCloser)) p q
  where
    go : (a b : Bool) → T (not a) → T (not b)
        → elim a as (λ z. ℕ) [ true ↦ code Shr | false ↦ elim b as (λ z. ℕ) [ true ↦ code Gt | false ↦ k ] ] ≡ k
    go true b p q = absurd p
    go false true p q = absurd q
    go false false p q = refl

coarse_ahead : (ts : List Tok) → T (plain ts) → relabels coarse (ahead ts) ≡ ahead ts
coarse_ahead [] h = refl
coarse_ahead (t ∷ ts) h =
    let l = both (not (has untold t.kind)) (plain ts) h in
    let m = told t.kind l.0 in
    let e = coarse_same t.kind m.1 m.2 in
    cons (with_kind (sharpen t ts) _ (go (eqb t.kind (code After) && span_here ts) e)) (coarse_ahead ts l.1)
  where
    go : (b : Bool) → coarse t.kind ≡ t.kind
        → let k = elim b as (λ z. ℕ) [ true ↦ fine AfterSpan | false ↦ t.kind ] in coarse k ≡ k
    go true e = refl
    go false e = e

coarse_front : (b r : List Tok) → relabels coarse (b ++ r) ≡ b ++ r → relabels coarse b ≡ b
coarse_front [] r e = refl
coarse_front (x ∷ b) r e = cons (tops e) (coarse_front b r (tails e))

-- .. so that a token is plain where it is of a kind of edition 1 and blunt
plain_blunts : (ts : List Tok) → T (plain (blunts (relabels coarse ts)))
plain_blunts [] = tt
plain_blunts (t ∷ ts) =
    let b = eqb (coarse t.kind) (fine AfterSpan) in
    let k = elim b as (λ z. ℕ) [ true ↦ code After | false ↦ coarse t.kind ] in
    and_intro (not (has untold k)) (plain (blunts (relabels coarse ts))) (go b refl) (plain_blunts ts)
  where
    by : Bool → Bool → ℕ
    by a b = elim a [ true ↦ code Shr | false ↦ elim b [ true ↦ code Gt | false ↦ t.kind ] ]

    closers : (a b : Bool) → eqb t.kind (fine TwoClosers) ≡ a → eqb t.kind (fine OneCloser) ≡ b
        → T (not (eqb (by a b) (fine TwoClosers))) × T (not (eqb (by a b) (fine OneCloser)))
    closers true b p q = (tt, tt)
    closers false true p q = (tt, tt)
    closers false false p q = (rw p tt, rw q tt)

    go : (b : Bool) → eqb (coarse t.kind) (fine AfterSpan) ≡ b
        → T (not (has untold (elim b as (λ z. ℕ) [ true ↦ code After | false ↦ coarse t.kind ])))
    go true e = tt
    go false e =
        let m = closers (eqb t.kind (fine TwoClosers)) (eqb t.kind (fine OneCloser)) refl refl in
        untold_no (coarse t.kind) (rw e tt) m.0 m.1

data Last : List Tok → Type 0 where
  empty : Last []
  last : (b : List Tok) (z : Tok) → Last (b ++ (z ∷ []))

last_of : (xs : List Tok) → Last xs
last_of [] = empty
last_of (x ∷ xs) = go (last_of xs)
  where
    go : {ys : List Tok} → Last ys → Last (x ∷ ys)
    go empty = last [] x
    go (last b z) = last (x ∷ b) z

an_int : Tok
an_int = record { place = 0; kind = code Int; start = 0; stop = 0 }

decide : (b : Bool) {A : Type 0} → (T b → A) → ((T b → ⊥) → A) → A
decide true f g = f tt
decide false f g = g (λ x. x)

spans_int : (t : Tok) (ts : List Tok) → T (span_here (t ∷ ts)) → T (eqb t.kind (code Int))
spans_int t [] h = absurd h
spans_int t (u ∷ ts) h = (both (eqb t.kind (code Int)) (eqb u.kind (fine UnitWord)) h).0

no_int_after : (k : ℕ) → T (eqb k (code Int)) → T (eqb k (code After)) → ⊥
no_int_after k p q = let a = eqb→eq k (code Int) p in let b = eqb→eq k (code After) q in omega arith

-- no derivation spells the tokens before, then t as it stands before r; then none spells them and t before any others
module _ {s : Symbol} (t : Tok) (v r : List Tok) where
  marked_step : (w : List Tok) → ((d : Derivation s) (y : List Tok) → yield d ≡ w ++ (sharpen t r ∷ y) → ⊥) → (d : Derivation s) (y : List Tok) → yield d ≡ w ++ (sharpen t v ∷ y) → ⊥
  unfolding an_int
  marked_step w k d y e =
      decide (eqb t.kind (code After))
      (λ a. let g = swapped (sharpen t r) an_int (still_after t r a) tt d w (sharpen t v) y (still_after t v a) e in
      k g.tree (an_int ∷ g.more) (g.spells ∙ append_assoc w (sharpen t r ∷ (an_int ∷ [])) g.more))
      (λ n. k d y (e ∙ ap (λ x. w ++ (x ∷ y)) (sharpen_no t v (λ a b. n a) ∙ sym (sharpen_no t r (λ a b. n a)))))

  clash : {before : List Tok} → Last before → ((d : Derivation s) (y : List Tok) → yield d ≡ within before (t ∷ r) ++ (sharpen t r ∷ y) → ⊥) → (d : Derivation s) → yield d ≡ ahead (before ++ (t ∷ v)) → ⊥
  clash empty k d e = marked_step [] k d (ahead v) e
  clash (last b z) k d e =
      let w = within b (z ∷ (t ∷ v)) in
      let e' : yield d ≡ w ++ (sharpen z (t ∷ v) ∷ (sharpen t v ∷ ahead v)) = e ∙ ahead_append (b ++ (z ∷ [])) (t ∷ v) ∙ ap (◌++ ahead (t ∷ v)) (within_last b z (t ∷ v)) ∙ append_assoc w (sharpen z (t ∷ v) ∷ []) (ahead (t ∷ v)) in
      let back : (q : List Tok) → within b (z ∷ (t ∷ r)) ++ (sharpen z (t ∷ r) ∷ q) ≡ within (b ++ (z ∷ [])) (t ∷ r) ++ q = λ q. sym (append_assoc (within b (z ∷ (t ∷ r))) (sharpen z (t ∷ r) ∷ []) q) ∙ ap (◌++ q) (sym (within_last b z (t ∷ r))) in
      decide (eqb z.kind (code After) && eqb t.kind (code Int))
      (λ a. let l = both (eqb z.kind (code After)) (eqb t.kind (code Int)) a in
      let g = swapped (sharpen z (t ∷ r)) t (still_after z (t ∷ r) l.0) l.1 d w (sharpen z (t ∷ v)) (sharpen t v ∷ ahead v) (still_after z (t ∷ v) l.0) e' in
      k g.tree g.more
      (g.spells ∙ append_assoc w (sharpen z (t ∷ r) ∷ (t ∷ [])) g.more ∙ ap (◌++ (sharpen z (t ∷ r) ∷ (t ∷ g.more))) (within_two b z t v r) ∙ back (t ∷ g.more)
      ∙ ap (λ x. within (b ++ (z ∷ [])) (t ∷ r) ++ (x ∷ g.more)) (sym (sharpen_no t r (λ p q. no_int_after t.kind l.1 p)))))
      (λ n. marked_step (within (b ++ (z ∷ [])) (t ∷ r)) k d (ahead v)
      (e' ∙ ap (λ x. w ++ (x ∷ (sharpen t v ∷ ahead v))) (sharpen_no z (t ∷ v) (λ p q. n (and_intro (eqb z.kind (code After)) (eqb t.kind (code Int)) p (spans_int t v q))) ∙ sym (sharpen_no z (t ∷ r) (λ p q. n (and_intro (eqb z.kind (code After)) (eqb t.kind (code Int)) p (spans_int t r q)))))
      ∙ ap (◌++ (sharpen z (t ∷ r) ∷ (sharpen t v ∷ ahead v))) (within_two b z t v r) ∙ back (sharpen t v ∷ ahead v)))

module _ {s : Symbol} (c : Call s) (a : ℕ) (ts : List Tok) (e : Refusal) (pl : T (plain ts)) (x : Stops s a (ahead ts) e) where
  cuts : (b r : List Tok) → b ++ r ≡ ahead ts → blunts b ++ blunts r ≡ ts
  cuts b r p = sym (blunts_append b r) ∙ ap blunts p ∙ blunt_ahead ts pl

  -- by the rest that the reader stopped at
  stop : (r : List Tok) → x.rest ≡ r → (others : List Tok) → Same (blunts r) others → Sentence s (blunts x.before ++ others) → ⊥
  stop [] p [] h y = none c a (ahead ts) e x y.tree [] (subst (λ l. Same l []) (sym p) tt)
      (y.spells ∙ ap ahead (cuts x.before [] (ap (x.before ++◌) (sym p) ∙ x.cut)) ∙ sym x.cut ∙ ap (x.before ++◌) p)
  stop [] p (t ∷ v) h y = absurd h
  stop (t ∷ r) p [] h y = absurd h
  stop (t ∷ r) p (t' ∷ v) h y =
      let u = blunt t in
      let q : x.before ++ (t ∷ r) ≡ ahead ts = ap (x.before ++◌) (sym p) ∙ x.cut in
      let l = cut_eq x.before (u ∷ blunts r) (t ∷ r) (ahead (u ∷ blunts r)) (q ∙ ap ahead (sym (cuts x.before (t ∷ r) q)) ∙ ahead_append (blunts x.before) (u ∷ blunts r)) in
      clash u v (blunts r) (last_of (blunts x.before))
      (λ d y e. none c a (ahead ts) e' x d (sharpen u (blunts r) ∷ y) (subst (λ l. Same l (sharpen u (blunts r) ∷ y)) (sym p) (tops l.1)) (e ∙ ap (◌++ (sharpen u (blunts r) ∷ y)) (sym l.0)))
      y.tree (y.spells ∙ ap (λ k. ahead (blunts x.before ++ (k ∷ v))) (sym h))
    where
      e' : Refusal
      e' = e

  -- what goes on behind them, in kinds of edition 1
  more : List Tok
  more = relabels coarse x.grown.more

  tree : Derivation s
  tree = renew names coarse coarsely x.grown.tree

  goes_on : yield tree ≡ x.before ++ more
  unfolding tree more
  goes_on =
      let same = ap (relabels coarse) x.cut ∙ coarse_ahead ts pl ∙ sym x.cut in
      renew_yield names coarse coarsely x.grown.tree ∙ ap (relabels coarse) x.grown.spells
      ∙ relabels_append coarse x.before x.grown.more
      ∙ ap (◌++ relabels coarse x.grown.more) (coarse_front x.before x.rest same)

  found : Complaint s ts e
  unfolding more
  found = record {
    before = blunts x.before;
    rest = blunts x.rest;
    cut = cuts x.before x.rest x.cut;
    marked = ap blunt x.here ∙ blunt_head x.rest;
    more = blunts more;
    real = plain_blunts x.grown.more;
    begins = record {
      tree = tree;
      spells =
          sym (unblunt (yield tree) (rw append-nil at (coherent tree [] (ends c) tt)))
          ∙ ap (λ l. ahead (blunts l)) goes_on ∙ ap ahead (blunts_append x.before more);
    };
    stops = λ others h. stop x.rest refl others;
  }

-- R-14: of each call, for the refusals 12 to 19 and 22
pub complaint : {s : Symbol} → Call s → (a : ℕ) (ts : List Tok) → T (plain ts) → (e : Refusal) → parse s a (ahead ts) ≡ bad e
    → T (marking e.number) → Complaint s ts e
complaint {s} c a ts pl e q l = found c a ts e pl (place s a (ahead ts) e q (plain_single ts pl) l)
