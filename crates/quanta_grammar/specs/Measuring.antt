-- The parts of derivations that document 01's measure speaks of.
-- Assumes nothing.
use Rattle.std.specs.Prelude.{Bool, ◌||◌, List, ℕ, eqb}
use Rattle.grammar.specs.Grammar.{measure}
use Rattle.grammar.specs.Facts.{Phrase, sizes, outermost}
use Rattle.quanta_grammar.specs.Names.{symbol_no}
use Rattle.quanta_grammar.specs.Productions.{Level, Symbol, grammar, Derivation, operand, expr, level, suffixes, suffix, args, type, type_args}
use Rattle.quanta_grammar.specs.Reading.{toll}

-- the measure of a derivation, and the measures of phrases
abbrev pub size : {s : Symbol} → Derivation s → ℕ
size d = measure toll d

abbrev pub sizes_of : List (Phrase grammar) → List ℕ
sizes_of = sizes grammar toll

abbrev pub is : Symbol → Symbol → Bool
is s t = eqb (symbol_no t) (symbol_no s)

-- the operands 0 to k of a level
abbrev pub operands_of : (v : Level) → Derivation (level v) → List (Phrase grammar)
operands_of v d = outermost (is (operand v)) d

-- the links of a postfix chain, the arguments of a call, the arguments of a type that are types
abbrev pub links_of : Derivation suffixes → List (Phrase grammar)
links_of l = outermost (is suffix) l

abbrev pub arguments_of : Derivation args → List (Phrase grammar)
arguments_of a = outermost (is expr) a

abbrev pub types_of : Derivation type_args → List (Phrase grammar)
types_of a = outermost (is type) a

-- the outermost expressions and types of any phrase
abbrev pub outer : {s : Symbol} → Derivation s → List (Phrase grammar)
outer d = outermost (λ t. is expr t || is type t) d
