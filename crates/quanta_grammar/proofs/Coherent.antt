-- What a derivation spells is told apart rightly: `after` is of the finer kind exactly before an integer and a unit.
-- Assumes nothing.
use mathlib.Core.Path.{◌≡◌, refl, ap, sym, ◌∙◌, subst}
use mathlib.Core.Bool.{Bool, true, false, not, ◌&&◌, ◌||◌}
use mathlib.Core.List.{List, [], ◌∷◌, ◌++◌, append_assoc}
use Prim.Native.Nat.{ℕ}
use lib.Dec.{T, leb, eqb, eqb→eq}
use Rattle.grammar.specs.Grammar.{Tok, next, Items, one, sub, has, node, Forest, end, leaf, down, yield, yields}
use Rattle.grammar.proofs.Table.{both, and_intro, every, all_at, or_cases, or_false, implies, yes_not, same_place, every_symbol, at_symbol, every_rule, at_rule}
use Rattle.grammar.proofs.Halves.{spells_self}
use Rattle.grammar.proofs.Complete as Complete
use Rattle.quanta_token.specs.TokenKind.{code, Int, After}
use Rattle.quanta_grammar.specs.FineKind.{fine, UnitWord, AfterSpan}
use Rattle.quanta_grammar.specs.Names.{symbol_place, symbol_no, names}
use Rattle.quanta_grammar.specs.Productions.{Symbol, Production, grammar, Derivation, duration, expr, primary, int_unit}
use Rattle.quanta_grammar.specs.Reading.{toll, terms, plan}
use Rattle.quanta_grammar.specs.Refine.{span_here, sharpen, ahead}
use Rattle.quanta_grammar.specs.Complaint.{blunt, blunts}
use Rattle.quanta_grammar.proofs.Tables.{fronts, follows, low, ok}

-- expressions and what they are made of
abbrev in_expr : Symbol → Bool
in_expr s = leb (symbol_no expr) (symbol_no s) && leb (symbol_no s) (symbol_no primary)

abbrev is_duration : Symbol → Bool
is_duration s = eqb (symbol_no s) (symbol_no duration)

pub symbol_eq : (s t : Symbol) → T (eqb (symbol_no s) (symbol_no t)) → s ≡ t
symbol_eq s t e = same_place (symbol_place s) (symbol_place t) (eqb→eq (symbol_no s) (symbol_no t) e)

and_no : (a b : Bool) → (T a → ⊥) → T (not (a && b))
and_no true b h = absurd (h tt)
and_no false b h = tt

and_no' : (a b : Bool) → (T b → ⊥) → T (not (a && b))
and_no' true true h = absurd (h tt)
and_no' true false h = tt
and_no' false b h = tt

no_int : (ts : List Tok) → (T (eqb (next ts) (code Int)) → ⊥) → T (not (span_here ts))
no_int [] h = tt
no_int (i ∷ []) h = tt
no_int (i ∷ (u ∷ ts)) h = and_no (eqb i.kind (code Int)) (eqb u.kind (fine UnitWord)) h

no_unit : (t : Tok) (ts : List Tok) → (T (eqb (next ts) (fine UnitWord)) → ⊥) → T (not (span_here (t ∷ ts)))
no_unit t [] h = tt
no_unit t (u ∷ ts) h = and_no' (eqb t.kind (code Int)) (eqb u.kind (fine UnitWord)) h

lacks : (cs : List ℕ) (k n : ℕ) → T (not (has cs k)) → T (has cs n) → T (eqb n k) → ⊥
lacks cs k n h x e = yes_not (has cs k) h (rw (eqb→eq n k e) at x)

-- the tests of Complete, at the kinds of Quanta
abbrev ahead_of : (Symbol → List ℕ) → Items grammar → List ℕ → List ℕ
ahead_of = Complete.ahead grammar.pair grammar.half

abbrev good : List ℕ → Items grammar → Bool
good = Complete.good grammar.pair grammar.half fronts follows

-- no integer of an expression stands before a unit
unfoldable paired : List ℕ → Items grammar → Bool
paired F [] = true
paired F (one c ∷ is) = (not (has c (code Int)) || not (has (ahead_of fronts is F) (fine UnitWord))) && paired F is
paired F (sub s ∷ is) = in_expr s && paired F is

abbrev pairs : (s : Symbol) → Production s → Bool
pairs s p = not (in_expr s) || paired (follows s) (grammar.parts s p)

pairs_ok : T (every_rule names pairs)
unfolding paired fronts follows
pairs_ok = tt

abbrev apart : Symbol → Bool
apart s = not (in_expr s) || not (has (follows s) (code Int))

apart_ok : T (every_symbol names apart)
unfolding follows
apart_ok = tt

good_at : (s : Symbol) (p : Production s) → T (good (follows s) (grammar.parts s p))
good_at s p = (Complete.fit grammar toll terms plan fronts follows names low ok s p).0

opening : (F : List ℕ) {is : Items grammar} (f : Forest grammar is) (r : List Tok) → T (good F is) → T (has F (next r)) → T (has (ahead_of fronts is F) (next (yields f ++ r)))
opening F f r g h =
    Complete.opening grammar toll terms plan fronts follows names low ok F f (spells_self (yields f) r) g h

good_on : (F : List ℕ) (c : List ℕ) (is : Items grammar) → T (good F (one c ∷ is)) → T (good F is)
good_on F c is g = (both (not (has c grammar.half && has c grammar.pair)) (good F is) g).1

behind : (F : List ℕ) (s : Symbol) {is : Items grammar} (f : Forest grammar is) (r : List Tok) → T (good F (sub s ∷ is)) → T (has F (next r)) → T (has (follows s) (next (yields f ++ r))) × T (good F is)
behind F s {is} f r g h =
    let l = both (every (has (follows s)) (ahead_of fronts is F)) (good F is) g in
    (all_at (has (follows s)) (ahead_of fronts is F) (next (yields f ++ r)) l.0 (opening F f r l.1 h), l.1)

mutual
  unfolding yield paired

  first_tree : {s : Symbol} (d : Derivation s) (r : List Tok) → T (in_expr s) → T (has (follows s) (next r)) → T (not (span_here (yield d ++ r)))
  first_tree (node {s = s} p f) r y h =
      first_forest (follows s) f r (good_at s p) (implies (in_expr s) (paired (follows s) (grammar.parts s p)) (at_rule names pairs pairs_ok s p) y) h
      (implies (in_expr s) (not (has (follows s) (code Int))) (at_symbol names apart apart_ok s) y)

  first_forest : (F : List ℕ) {is : Items grammar} (f : Forest grammar is) (r : List Tok) → T (good F is) → T (paired F is) → T (has F (next r)) → T (not (has F (code Int))) → T (not (span_here (yields f ++ r)))
  first_forest F end r g q h n = no_int r (lacks F (code Int) (next r) n h)
  first_forest F (leaf {c = c} {is = is} t x f) r g q h n =
      let l = both (not (has c (code Int)) || not (has (ahead_of fronts is F) (fine UnitWord))) (paired F is) q in
      or_cases (not (has c (code Int))) (not (has (ahead_of fronts is F) (fine UnitWord))) l.0
      (λ a. no_int (t ∷ (yields f ++ r)) (lacks c (code Int) t.kind a x))
      (λ a. no_unit t (yields f ++ r) (lacks (ahead_of fronts is F) (fine UnitWord) (next (yields f ++ r)) a (opening F f r (good_on F c is g) h)))
  first_forest F (down {s = s} {is = is} d f) r g q h n =
      let l = both (in_expr s) (paired F is) q in
      rw append_assoc (first_tree d (yields f ++ r) l.0 (behind F s f r g h).0)

-- told apart rightly
abbrev pub Right : Tok → List Tok → Type 0
Right t ts = (T (eqb t.kind (fine AfterSpan)) → T (span_here ts)) × (T (eqb t.kind (code After)) → T (not (span_here ts)))

abbrev pub Coherent : List Tok → Type 0
Coherent [] = Unit {0}
Coherent (t ∷ ts) = Right t ts × Coherent ts

-- behind the one `after` a duration stands, behind the other an expression
abbrev starts : (Symbol → Bool) → Items grammar → Bool
starts Z [] = false
starts Z (one c ∷ is) = false
starts Z (sub s ∷ is) = Z s

abbrev sharp : Items grammar → Bool
sharp [] = true
sharp (one c ∷ is) = (not (has c (fine AfterSpan)) || starts is_duration is) && ((not (has c (code After)) || starts in_expr is) && sharp is)
sharp (sub s ∷ is) = sharp is

sharp_ok : T (every_rule names (λ s p. sharp (grammar.parts s p)))
sharp_ok = tt

duration_span : (d : Derivation duration) (r : List Tok) → T (span_here (yield d ++ r))
unfolding yield
duration_span (node int_unit (leaf i h (leaf u k end))) r = and_intro (eqb i.kind (code Int)) (eqb u.kind (fine UnitWord)) (or_false (eqb i.kind (code Int)) h) (or_false (eqb u.kind (fine UnitWord)) k)

spans : {is : Items grammar} (f : Forest grammar is) (r : List Tok) → T (starts is_duration is) → T (span_here (yields f ++ r))
unfolding yield
spans end r t = absurd t
spans (leaf x h f) r t = absurd t
spans (down {s = s} d f) r t =
    rw append_assoc (subst (λ (s : Symbol). (d : Derivation s) (r : List Tok) → T (span_here (yield d ++ r))) (sym (symbol_eq s duration t)) duration_span d (yields f ++ r))

firsts : (F : List ℕ) {is : Items grammar} (f : Forest grammar is) (r : List Tok) → T (good F is) → T (has F (next r)) → T (starts in_expr is) → T (not (span_here (yields f ++ r)))
unfolding yield
firsts F end r g h t = absurd t
firsts F (leaf x k f) r g h t = absurd t
firsts F (down {s = s} d f) r g h t = rw append_assoc (first_tree d (yields f ++ r) t (behind F s f r g h).0)

mutual
  unfolding yield

  pub coherent : {s : Symbol} (d : Derivation s) (r : List Tok) → T (has (follows s) (next r)) → Coherent r → Coherent (yield d ++ r)
  coherent (node {s = s} p f) r h c = coherents (follows s) f r (good_at s p) (at_rule names (λ s p. sharp (grammar.parts s p)) sharp_ok s p) h c

  coherents : (F : List ℕ) {is : Items grammar} (f : Forest grammar is) (r : List Tok) → T (good F is) → T (sharp is) → T (has F (next r)) → Coherent r → Coherent (yields f ++ r)
  coherents F end r g q h c = c
  coherents F (leaf {c = k} {is = is} t x f) r g q h c =
      let l = both (not (has k (fine AfterSpan)) || starts is_duration is) ((not (has k (code After)) || starts in_expr is) && sharp is) q in
      let m = both (not (has k (code After)) || starts in_expr is) (sharp is) l.1 in (
        (
          λ e. spans f r (or_cases (not (has k (fine AfterSpan))) (starts is_duration is) l.0 (λ n. absurd (lacks k (fine AfterSpan) t.kind n x e)) (λ y. y)),
          λ e. firsts F f r (good_on F k is g) h (or_cases (not (has k (code After))) (starts in_expr is) m.0 (λ n. absurd (lacks k (code After) t.kind n x e)) (λ y. y)),
        ),
        coherents F f r (good_on F k is g) m.1 h c,
      )
  coherents F (down {s = s} d f) r g q h c =
      let o = behind F s f r g h in
      rw append_assoc (coherent d (yields f ++ r) o.0 (coherents F f r o.1 q h c))

-- so blunting can be undone
span_kind : (k n : ℕ) → (T (eqb (fine AfterSpan) n) → ⊥) → (T (eqb (code After) n) → ⊥) → eqb (elim (eqb k (fine AfterSpan)) [ true ↦ code After | false ↦ k ]) n ≡ eqb k n
span_kind k n p q = go (eqb k (fine AfterSpan)) (eqb→eq k (fine AfterSpan))
  where
    both_no : (a b : Bool) → (T a → ⊥) → (T b → ⊥) → b ≡ a
    both_no true b p q = absurd (p tt)
    both_no false true p q = absurd (q tt)
    both_no false false p q = refl

    go : (b : Bool) → (T b → k ≡ fine AfterSpan) → eqb (elim b [ true ↦ code After | false ↦ k ]) n ≡ eqb k n
    go true e = rw (e tt) (both_no (eqb (fine AfterSpan) n) (eqb (code After) n) p q)
    go false e = refl

span_blunts : (ts : List Tok) → span_here (blunts ts) ≡ span_here ts
span_blunts [] = refl
span_blunts (i ∷ []) = refl
span_blunts (i ∷ (u ∷ ts)) =
    let p = span_kind i.kind (code Int) (λ x. x) (λ x. x) in
    let q = span_kind u.kind (fine UnitWord) (λ x. x) (λ x. x) in
    ap (λ b. b && eqb (blunt u).kind (fine UnitWord)) p ∙ ap (λ b. eqb i.kind (code Int) && b) q

kind_back : (k : ℕ) (c : Bool) → (T (eqb k (fine AfterSpan)) → T c) → (T (eqb k (code After)) → T (not c))
    → elim (eqb (elim (eqb k (fine AfterSpan)) [ true ↦ code After | false ↦ k ]) (code After) && c) as (λ z. ℕ) [ true ↦ fine AfterSpan | false ↦ elim (eqb k (fine AfterSpan)) [ true ↦ code After | false ↦ k ] ] ≡ k
kind_back k c p q = go (eqb k (fine AfterSpan)) (eqb→eq k (fine AfterSpan)) p
  where
    one_way : (c : Bool) → T c → elim c as (λ z. ℕ) [ true ↦ fine AfterSpan | false ↦ code After ] ≡ fine AfterSpan
    one_way true t = refl
    one_way false t = absurd t

    no_way : (a c : Bool) → (T a → T (not c)) → elim (a && c) as (λ z. ℕ) [ true ↦ fine AfterSpan | false ↦ k ] ≡ k
    no_way true true h = absurd (h tt)
    no_way true false h = refl
    no_way false c h = refl

    go : (b : Bool) → (T b → k ≡ fine AfterSpan) → (T b → T c) → elim (eqb (elim b [ true ↦ code After | false ↦ k ]) (code After) && c) as (λ z. ℕ) [ true ↦ fine AfterSpan | false ↦ elim b [ true ↦ code After | false ↦ k ] ] ≡ k
    go true e h = one_way c (h tt) ∙ sym (e tt)
    go false e h = no_way (eqb k (code After)) c q

pub unblunt : (ts : List Tok) → Coherent ts → ahead (blunts ts) ≡ ts
unblunt [] c = refl
unblunt (t ∷ ts) c =
    let r = c.0 in
    let e = span_blunts ts in
    let p : sharpen (blunt t) (blunts ts) ≡ t = ap (λ n. record { place = t.place; kind = n; start = t.start; stop = t.stop }) (rw e (kind_back t.kind (span_here ts) r.0 r.1)) in
    let q = unblunt ts c.1 in
    cc
