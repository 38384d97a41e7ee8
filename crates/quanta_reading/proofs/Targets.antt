-- The target rule is the condition that the reader keeps: what leaves the record of a name or of a field is one, once parentheses are removed.
-- Assumes nothing.
use mathlib.Core.Path.{sym, subst}
use mathlib.Core.Bool.{Bool, true, false, not, ◌&&◌, ◌||◌}
use mathlib.Core.List.{List, [], ◌∷◌, ◌++◌}
use mathlib.Core.Logic.{◌↔◌}
use Prim.Native.Nat.{ℕ, zero, suc, ◌≤◌}
use native.Mathlib.Omega.{arith}
use lib.Dec.{T}
use Rattle.grammar.specs.Grammar.{Tok, next, has, one, sub, Items, node, Forest, end, leaf, down, yield, yields, before, measure, Lawful, Lawfuls}
use Rattle.grammar.specs.Records.{Row, none, put, glue, Acc, fresh, leaf_kind, walk}
use Rattle.grammar.proofs.Table.{both, implies, all_at, or_cases, every_rule, at_rule}
use Rattle.quanta_token.specs.TokenKind.{code, Semi}
use Rattle.quanta_grammar.specs.NodeKind.{node_code, name_node, access_node}
use Rattle.quanta_grammar.specs.Productions.{Level, Symbol, Production, grammar, Derivation, outs, name, literal, assigns, operand}
use Rattle.quanta_grammar.specs.Productions.{logic_or, logic_and, equality, comparison, shift, additive, multiplicative}
use Rattle.quanta_grammar.specs.Productions.{stmt, expr, level, links, unary, postfix, suffixes, suffix, primary}
use Rattle.quanta_grammar.specs.Productions.{guard_stmt, let_stmt, emit_stmt, assign_or_expr_stmt, subject_expr, assign_tail, semi_tail, top, operands, link, link_end, prefix, no_prefix}
use Rattle.quanta_grammar.specs.Productions.{chain, a_suffix, no_suffix, dot_name, call, atom, in_parens, in_checked, in_wrapping}
use Rattle.quanta_grammar.specs.Names.{names}
use Rattle.quanta_grammar.specs.Measuring.{is}
use Rattle.quanta_grammar.specs.Reading.{is_target, targets, terms}
use Rattle.quanta_grammar.proofs.Coherent.{symbol_eq}
use Rattle.quanta_reading.specs.Targets.{is_field, FieldLast, alone, after, NameOrField, a_name, field, in_parentheses, unsuffixed, unprefixed, unlinked, whole, Target, here, inside, Targets, past, first, later, EveryTarget}

-- d leaves the record of a name or of a field on top of c
abbrev Left : {s : Symbol} → Derivation s → Acc → Type 0
Left d c = T (is_target (walk outs d c).row)

glued : (x : Row) → T (is_target x) → T (is_target (glue none x))
glued none h = h
glued (put b r ks) h = h

unglued : (x : Row) → T (is_target (glue none x)) → T (is_target x)
unglued none h = h
unglued (put b r ks) h = h

-- among tokens that are expressions, names alone leave the record of a name
abbrev named : ℕ → Bool
named k = has (node_code name_node ∷ node_code access_node ∷ []) (leaf_kind outs.leafs k)

name_left : (k : ℕ) → T (has name k) → T (named k)
name_left k h = all_at named name k tt h

name_alone : (k : ℕ) → T (has literal k) → T (named k) → T (has name k)
name_alone k h = implies (named k) (has name k) (all_at (λ k. not (named k) || has name k) literal k tt h)

-- WHAT IS A NAME OR A FIELD leaves its record ..
last_left : {l : Derivation suffixes} → FieldLast l → (c : Acc) → Left l c
unfolding walk
last_left (alone {x = node dot_name (leaf t h (leaf u k end))} p) c = tt
last_left (alone {x = node call f} p) c = absurd p
last_left (after {x = x} p) c = last_left p (walk outs x c)

left : {s : Symbol} {d : Derivation s} → NameOrField s d → Left d fresh
unfolding walk
left (a_name {t = t} p) = name_left t.kind p
left (field p) = last_left p _
left (in_parentheses {d = d} p) = glued (walk outs d fresh).row (left p)
left (unsuffixed {d = d} p) = glued (walk outs d fresh).row (left p)
left (unprefixed {d = d} p) = glued (walk outs d fresh).row (left p)
left (unlinked {d = d} p) = glued (walk outs d fresh).row (left p)
left (whole {d = d} p) = glued (walk outs d fresh).row (left p)

-- .. and nothing else does: by the height of a derivation
abbrev height : {s : Symbol} → Derivation s → ℕ
height d = measure (λ s p. before) d

-- an operator leaves its own record
linked : (n : ℕ) (v : Level) (f : Forest grammar (grammar.parts (links v) link)) → height (node (link {v = v}) f) ≤ n → (c : Acc) → Left (node (link {v = v}) f) c → ⊥
unfolding walk measure
linked zero v f b c p = absurd (omega (arith, b))
linked (suc n) v (leaf t h (down d (down (node link_end end) end))) b c p = p
linked (suc n) v (leaf t h (down d (down (node link f) end))) b c p = linked n v f (omega (arith, b)) _ p

by_links : (v : Level) (d : Derivation (operand v)) (l : Derivation (links v)) → (Left d fresh → NameOrField (operand v) d) → Left (node (operands {v = v}) (down d (down l end))) fresh
    → NameOrField (level v) (node operands (down d (down l end)))
unfolding walk
by_links v d (node link_end end) g p = unlinked (g (unglued (walk outs d fresh).row p))
by_links v d (node link f) g p = absurd (linked (height (node (link {v = v}) f)) v f (omega arith) _ p)

-- so does a call
by_suffix : (x : Derivation suffix) (c : Acc) → Left x c → T (is_field x)
unfolding walk
by_suffix (node dot_name f) c p = tt
by_suffix (node call (leaf t h (down a (leaf u k end)))) c p = p

by_last : (n : ℕ) (x : Derivation suffix) (l : Derivation suffixes) → height l ≤ n → (c : Acc) → Left (node a_suffix (down x (down l end))) c → FieldLast (node a_suffix (down x (down l end)))
unfolding walk measure
by_last zero x (node q f) b c p = absurd (omega (arith, b))
by_last (suc n) x (node no_suffix end) b c p = alone (by_suffix x c p)
by_last (suc n) x (node a_suffix (down y (down l end))) b c p = after (by_last n y l (omega (arith, b)) (walk outs x c) p)

mutual
  unfolding walk measure

  by_expr : (n : ℕ) (d : Derivation expr) → height d ≤ n → Left d fresh → NameOrField expr d
  by_expr zero (node q f) b p = absurd (omega (arith, b))
  by_expr (suc n) (node top (down d end)) b p = whole (by_level n logic_or d (omega (arith, b)) (unglued (walk outs d fresh).row p))

  by_level : (n : ℕ) (v : Level) (d : Derivation (level v)) → height d ≤ n → Left d fresh → NameOrField (level v) d
  by_level zero v (node q f) b p = absurd (omega (arith, b))
  by_level (suc n) logic_or (node operands (down d (down l end))) b p = by_links logic_or d l (λ q. by_level n logic_and d (omega (arith, b)) q) p
  by_level (suc n) logic_and (node operands (down d (down l end))) b p = by_links logic_and d l (λ q. by_level n equality d (omega (arith, b)) q) p
  by_level (suc n) equality (node operands (down d (down l end))) b p = by_links equality d l (λ q. by_level n comparison d (omega (arith, b)) q) p
  by_level (suc n) comparison (node operands (down d (down l end))) b p = by_links comparison d l (λ q. by_level n shift d (omega (arith, b)) q) p
  by_level (suc n) shift (node operands (down d (down l end))) b p = by_links shift d l (λ q. by_level n additive d (omega (arith, b)) q) p
  by_level (suc n) additive (node operands (down d (down l end))) b p = by_links additive d l (λ q. by_level n multiplicative d (omega (arith, b)) q) p
  by_level (suc n) multiplicative (node operands (down d (down l end))) b p = by_links multiplicative d l (λ q. by_unary n d (omega (arith, b)) q) p

  by_unary : (n : ℕ) (d : Derivation unary) → height d ≤ n → Left d fresh → NameOrField unary d
  by_unary zero (node q f) b p = absurd (omega (arith, b))
  by_unary (suc n) (node prefix (leaf t h (down d end))) b p = absurd p
  by_unary (suc n) (node no_prefix (down d end)) b p = unprefixed (by_postfix n d (omega (arith, b)) (unglued (walk outs d fresh).row p))

  by_postfix : (n : ℕ) (d : Derivation postfix) → height d ≤ n → Left d fresh → NameOrField postfix d
  by_postfix zero (node q f) b p = absurd (omega (arith, b))
  by_postfix (suc n) (node chain (down d (down (node no_suffix end) end))) b p = unsuffixed (by_primary n d (omega (arith, b)) (unglued (walk outs d fresh).row p))
  by_postfix (suc n) (node chain (down d (down (node a_suffix (down x (down l end))) end))) b p = field (by_last (height l) x l (omega arith) _ p)

  by_primary : (n : ℕ) (d : Derivation primary) → height d ≤ n → Left d fresh → NameOrField primary d
  by_primary zero (node q f) b p = absurd (omega (arith, b))
  by_primary (suc n) (node atom (leaf t h end)) b p = a_name (name_alone t.kind h p)
  by_primary (suc n) (node in_parens (leaf t h (down d (leaf u k end)))) b p = in_parentheses (by_expr n d (omega (arith, b)) (unglued (walk outs d fresh).row p))
  by_primary (suc n) (node in_checked (leaf w g (leaf t h (down d (leaf u k end))))) b p = absurd p
  by_primary (suc n) (node in_wrapping (leaf w g (leaf t h (down d (leaf u k end))))) b p = absurd p

-- a condition that minds b alone
minded : (b x : Bool) → T b → T (elim b [ true ↦ x | false ↦ true ]) → T x
minded true x h p = p
minded false x h p = absurd h

met : (b x : Bool) → T x → T (elim b [ true ↦ x | false ↦ true ])
met true x p = p
met false x p = tt

unminded : (b x : Bool) → T (not b) → T (elim b [ true ↦ x | false ↦ true ])
unminded true x h = absurd h
unminded false x h = tt

-- WHERE THE CONDITION HOLDS, every assignment target is a name or a field ..
mutual
  unfolding Lawful walk yield

  found : {e : Derivation expr} {s : Symbol} {d : Derivation s} (r : List Tok) → Target e s d → Lawful terms d r → NameOrField expr e
  found {e = e} r (here {f = leaf t h f}) p = by_expr (height e) e (omega arith) (unglued (walk outs e fresh).row (minded (has assigns t.kind) _ h p.0))
  found r (inside x) p = founds r x p

  founds : {e : Derivation expr} {is : Items grammar} {f : Forest grammar is} (r : List Tok) → Targets e is f → Lawfuls terms f r → NameOrField expr e
  founds r (past x) p = founds r x p
  founds r (first x) p = found _ x p.1
  founds r (later x) p = founds r x p.2

-- .. and back. Each of a production's parts may stand where it stands
unfoldable Suited : {is : Items grammar} → Forest grammar is → List Tok → Type 0
Suited end r = Unit {0}
Suited (leaf t h f) r = Suited f r
Suited (down {s = s} d f) r = T (terms.suits s d (next (yields f ++ r))) × Suited f r

-- the condition is on a statement's parts alone
unfoldable free : Items grammar → Bool
free [] = true
free (one c ∷ is) = free is
free (sub s ∷ is) = not (targets.minds s) && free is

abbrev only : (s : Symbol) → Production s → Bool
only s p = is stmt s || free (grammar.parts s p)

only_stmt : T (every_rule names only)
unfolding free
only_stmt = tt

freed : {is : Items grammar} (f : Forest grammar is) (r : List Tok) → T (free is) → Suited f r
unfolding free Suited
freed end r h = tt
freed (leaf t k f) r h = freed f r h
freed (down {s = s} {is = is} d f) r h = let z = both (not (targets.minds s)) (free is) h in (unminded (targets.minds s) _ z.0, freed f r z.1)

by_stmt : (p : Production stmt) (f : Forest grammar (grammar.parts stmt p)) (r : List Tok) → EveryTarget (node p f) → Suited f r
unfolding free Suited walk yield
by_stmt guard_stmt f r h = freed f r tt
by_stmt let_stmt f r h = freed f r tt
by_stmt emit_stmt f r h = freed f r tt
by_stmt assign_or_expr_stmt (down (node subject_expr (down e end)) (down (node assign_tail (leaf t k f)) end)) r h = (met (has assigns t.kind) _ (glued (walk outs e fresh).row (left (h e here))), (tt, tt))
by_stmt assign_or_expr_stmt (down (node subject_expr (down e end)) (down (node semi_tail (leaf t k f)) end)) r h =
    (unminded (has assigns t.kind) _ (all_at (λ k. not (has assigns k)) (code Semi ∷ []) t.kind tt k), (tt, tt))

suited : (s : Symbol) (p : Production s) (f : Forest grammar (grammar.parts s p)) (r : List Tok) → EveryTarget (node p f) → Suited f r
suited s p f r h =
    or_cases (is stmt s) (free (grammar.parts s p)) (at_rule names only only_stmt s p)
    (λ e. subst (λ (s : Symbol). (p : Production s) (f : Forest grammar (grammar.parts s p)) (r : List Tok) → EveryTarget (node p f) → Suited f r) (sym (symbol_eq s stmt e)) by_stmt p f r h)
    (λ k. freed f r k)

mutual
  unfolding Lawful Suited

  lawful : {s : Symbol} (d : Derivation s) (r : List Tok) → EveryTarget d → Lawful terms d r
  lawful (node {s = s} p f) r h = lawfuls f r (λ e x. h e (inside x)) (suited s p f r h)

  lawfuls : {is : Items grammar} (f : Forest grammar is) (r : List Tok) → ((e : Derivation expr) → Targets e is f → NameOrField expr e) → Suited f r → Lawfuls terms f r
  lawfuls end r h u = tt
  lawfuls (leaf t k f) r h u = lawfuls f r (λ e x. h e (past x)) u
  lawfuls (down d f) r h u = (u.0, lawful d (yields f ++ r) (λ e x. h e (first x)), lawfuls f r (λ e x. h e (later x)) u.1)

-- THE READER'S CONDITION IS THE TARGET RULE, whatever stands behind
pub lawful_targets : {s : Symbol} (d : Derivation s) (r : List Tok) → Lawful terms d r ↔ EveryTarget d
lawful_targets d r = (λ p e x. found r x p, λ h. lawful d r h)
