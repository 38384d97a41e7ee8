-- THE TARGET RULE: every assignment target is a name or a field once parentheses are removed.
-- Assumes nothing.
use Rattle.std.specs.Prelude.{Bool, true, false, List, [], ◌∷◌, ℕ, T}
use Rattle.grammar.specs.Grammar.{Tok, has, one, sub, Items, node, Forest, end, leaf, down}
use Rattle.quanta_token.specs.TokenKind.{code, LParen, RParen}
use Rattle.quanta_grammar.specs.Productions.{Level, Symbol, Production, grammar, Derivation, name, literal, operand}
use Rattle.quanta_grammar.specs.Productions.{logic_or, stmt, tail, expr, level, unary, postfix, suffixes, suffix, primary}
use Rattle.quanta_grammar.specs.Productions.{assign_or_expr_stmt, subject_expr, assign_tail, top, operands, link_end, no_prefix, chain, a_suffix, no_suffix, dot_name, call, atom, in_parens}

-- a suffix is a field or a call
abbrev pub is_field : Derivation suffix → Bool
is_field (node dot_name f) = true
is_field (node call f) = false

-- the last of some suffixes is a field
pub data FieldLast : Derivation suffixes → Type 0 where
  alone : {x : Derivation suffix} → T (is_field x) → FieldLast (node a_suffix (down x (down (node no_suffix end) end)))
  after : {x : Derivation suffix} {l : Derivation suffixes} → FieldLast l → FieldLast (node a_suffix (down x (down l end)))

-- A NAME OR A FIELD ONCE PARENTHESES ARE REMOVED
pub data NameOrField : (s : Symbol) → Derivation s → Type 0 where
  -- a name
  a_name : {t : Tok} {h : T (has literal t.kind)} → T (has name t.kind) → NameOrField primary (node atom (leaf t h end))
  -- a field, of whatever stands before it
  field : {d : Derivation primary} {l : Derivation suffixes} → FieldLast l → NameOrField postfix (node chain (down d (down l end)))
  -- either in parentheses
  in_parentheses : {t u : Tok} {h : T (has (code LParen ∷ []) t.kind)} {k : T (has (code RParen ∷ []) u.kind)} {d : Derivation expr}
      → NameOrField expr d → NameOrField primary (node in_parens (leaf t h (down d (leaf u k end))))
  -- with no suffix, no prefix, and no operator of any level
  unsuffixed : {d : Derivation primary} → NameOrField primary d → NameOrField postfix (node chain (down d (down (node no_suffix end) end)))
  unprefixed : {d : Derivation postfix} → NameOrField postfix d → NameOrField unary (node no_prefix (down d end))
  unlinked : {v : Level} {d : Derivation (operand v)} → NameOrField (operand v) d → NameOrField (level v) (node operands (down d (down (node link_end end) end)))
  whole : {d : Derivation (level logic_or)} → NameOrField (level logic_or) d → NameOrField expr (node top (down d end))

-- e is the target of an assignment: of the statement itself, or of one inside
mutual
  pub data Target (e : Derivation expr) : (s : Symbol) → Derivation s → Type 0 where
    here : {f : Forest grammar (grammar.parts tail assign_tail)} → Target e stmt (node assign_or_expr_stmt (down (node subject_expr (down e end)) (down (node assign_tail f) end)))
    inside : {s : Symbol} {p : Production s} {f : Forest grammar (grammar.parts s p)} → Targets e (grammar.parts s p) f → Target e s (node p f)

  -- .. in one of a production's parts
  pub data Targets (e : Derivation expr) : (is : Items grammar) → Forest grammar is → Type 0 where
    past : {c : List ℕ} {is : Items grammar} {t : Tok} {h : T (has c t.kind)} {f : Forest grammar is} → Targets e is f → Targets e (one c ∷ is) (leaf t h f)
    first : {s : Symbol} {is : Items grammar} {d : Derivation s} {f : Forest grammar is} → Target e s d → Targets e (sub s ∷ is) (down d f)
    later : {s : Symbol} {is : Items grammar} {d : Derivation s} {f : Forest grammar is} → Targets e is f → Targets e (sub s ∷ is) (down d f)

-- every assignment target is a name or a field once parentheses are removed
abbrev pub EveryTarget : {s : Symbol} → Derivation s → Type 0
EveryTarget {s} d = (e : Derivation expr) → Target e s d → NameOrField expr e
