-- Document 01's measure, sentence by sentence.
-- Assumes nothing.
use mathlib.Core.Path.{◌≡◌, refl}
use mathlib.Core.Bool.{Bool, ◌||◌}
use mathlib.Core.List.{[], ◌∷◌}
use Prim.Native.Nat.{◌+◌, max}
use native.Mathlib.Omega.{arith}
use lib.Dec.{T, leb}
use Rattle.grammar.specs.Grammar.{Tok, has, node, Forest, end, leaf, down, measure}
use Rattle.grammar.specs.Facts.{most, overs, rising}
use Rattle.grammar.proofs.Table.{every_rule, or_right}
use Rattle.grammar.proofs.Measure.{chains, outer_measure, links_law, level_law, pays_law}
use Rattle.quanta_token.specs.TokenKind.{code, LParen, RParen, Checked, Wrapping}
use Rattle.quanta_grammar.specs.Names.{symbol_no, names}
use Rattle.quanta_grammar.specs.Productions.{Level, Symbol, grammar, Derivation, prefixes, type_name, operand}
use Rattle.quanta_grammar.specs.Productions.{logic_or, logic_and, equality, comparison, shift, additive, multiplicative}
use Rattle.quanta_grammar.specs.Productions.{program_call, tail, expr, level, links, unary, postfix, suffixes, suffix, args, more_args, primary, type, type_args, type_arg, more_type_args, of_int}
use Rattle.quanta_grammar.specs.Productions.{top, operands, prefix, no_prefix, chain, dot_name, call, atom, in_parens, in_checked, in_wrapping, named_type}
use Rattle.quanta_grammar.specs.Reading.{toll}
use Rattle.quanta_grammar.specs.Measuring.{size, sizes_of, is, operands_of, links_of, arguments_of, types_of, outer}

-- An expression is 1 more than its top level.
pub expr_measure : (d : Derivation (level logic_or)) → size (node top (down d end)) ≡ 1 + size d
unfolding measure
expr_measure d = omega arith

-- A level with operands 0 to k is the greatest of i plus operand i.
tested : (v : Level) → T (every_rule names (chains grammar toll (is (operand v)) (is (links v))))
tested logic_or = tt
tested logic_and = tt
tested equality = tt
tested comparison = tt
tested shift = tt
tested additive = tt
tested multiplicative = tt

pub level_measure : (v : Level) (d : Derivation (level v)) → size d ≡ rising 0 (sizes_of (operands_of v d))
level_measure logic_or (node operands f) = level_law grammar names toll (is (operand logic_or)) (is (links logic_or)) (tested logic_or) operands f tt refl tt
level_measure logic_and (node operands f) = level_law grammar names toll (is (operand logic_and)) (is (links logic_and)) (tested logic_and) operands f tt refl tt
level_measure equality (node operands f) = level_law grammar names toll (is (operand equality)) (is (links equality)) (tested equality) operands f tt refl tt
level_measure comparison (node operands f) = level_law grammar names toll (is (operand comparison)) (is (links comparison)) (tested comparison) operands f tt refl tt
level_measure shift (node operands f) = level_law grammar names toll (is (operand shift)) (is (links shift)) (tested shift) operands f tt refl tt
level_measure additive (node operands f) = level_law grammar names toll (is (operand additive)) (is (links additive)) (tested additive) operands f tt refl tt
level_measure multiplicative (node operands f) = level_law grammar names toll (is (operand multiplicative)) (is (links multiplicative)) (tested multiplicative) operands f tt refl tt

-- A prefix adds 1.
pub prefix_measure : (t : Tok) (h : T (has prefixes t.kind)) (d : Derivation unary) → size (node prefix (leaf t h (down d end))) ≡ 1 + size d
unfolding measure
prefix_measure t h d = omega arith

pub unprefixed : (d : Derivation postfix) → size (node no_prefix (down d end)) ≡ size d
unfolding measure
unprefixed d = omega arith

-- A postfix chain is the greatest of its primary and its links: link j, the first being 1, needs j, or j plus the greatest of its arguments' measures.
pub postfix_measure : (p : Derivation primary) (l : Derivation suffixes) → size (node chain (down p (down l end))) ≡ max (size p) (rising 1 (sizes_of (links_of l)))
unfolding measure
postfix_measure p l = omega (arith, links_law grammar names toll (is suffix) (is suffixes) tt l tt)

pub dot_measure : (f : Forest grammar (grammar.parts suffix dot_name)) → size (node dot_name f) ≡ 0
unfolding measure
dot_measure (leaf t h (leaf u k end)) = refl

pub call_measure : (t u : Tok) (h : T (has (code LParen ∷ []) t.kind)) (k : T (has (code RParen ∷ []) u.kind)) (a : Derivation args) → size (node call (leaf t h (down a (leaf u k end)))) ≡ most (sizes_of (arguments_of a))
unfolding measure
call_measure t u h k a = omega (arith, outer_measure grammar names toll (is expr) (λ s. is args s || is more_args s) tt a tt)

-- A primary has its inner expression's measure, else 0.
pub primary_atom : (f : Forest grammar (grammar.parts primary atom)) → size (node atom f) ≡ 0
unfolding measure
primary_atom (leaf t h end) = refl

pub primary_parens : (t u : Tok) (h : T (has (code LParen ∷ []) t.kind)) (k : T (has (code RParen ∷ []) u.kind)) (e : Derivation expr) → size (node in_parens (leaf t h (down e (leaf u k end)))) ≡ size e
unfolding measure
primary_parens t u h k e = omega arith

pub primary_checked : (w t u : Tok) (g : T (has (code Checked ∷ []) w.kind)) (h : T (has (code LParen ∷ []) t.kind)) (k : T (has (code RParen ∷ []) u.kind)) (e : Derivation expr) → size (node in_checked (leaf w g (leaf t h (down e (leaf u k end))))) ≡ size e
unfolding measure
primary_checked w t u g h k e = omega arith

pub primary_wrapping : (w t u : Tok) (g : T (has (code Wrapping ∷ []) w.kind)) (h : T (has (code LParen ∷ []) t.kind)) (k : T (has (code RParen ∷ []) u.kind)) (e : Derivation expr) → size (node in_wrapping (leaf w g (leaf t h (down e (leaf u k end))))) ≡ size e
unfolding measure
primary_wrapping w t u g h k e = omega arith

-- A type is 0 or, over its type arguments, 1 plus the greatest; an argument that is no type isn't counted.
pub type_measure : (t : Tok) (h : T (has type_name t.kind)) (a : Derivation type_args) → size (node named_type (leaf t h (down a end))) ≡ overs (sizes_of (types_of a))
unfolding measure
type_measure t h a = omega (arith, pays_law grammar names toll (is type) (λ s. is type_args s || is type_arg s || is more_type_args s || is of_int s) tt a tt)

-- A program's measure is the greatest among its expressions and types, or 0; and so of any phrase above them.
abbrev above : Symbol → Bool
above s = leb (symbol_no s) (symbol_no tail) || is args s || is more_args s

pub greatest : {s : Symbol} (d : Derivation s) → T (above s) → size d ≡ most (sizes_of (outer d))
greatest {s} d h = outer_measure grammar names toll (λ t. is expr t || is type t) above tt d (or_right (is expr s || is type s) (above s) h)

pub program_measure : (d : Derivation program_call) → size d ≡ most (sizes_of (outer d))
program_measure d = greatest d tt
