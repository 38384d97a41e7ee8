-- How the reader chooses a production: by the kind of the next token, the first production that is listed with it; else another, or a refusal.
-- Assumes nothing.
use Rattle.std.specs.Prelude.{List, [], ◌∷◌, ◌++◌, ℕ}
use Rattle.grammar.specs.Reader.{use', refuse, Guide}
use Rattle.quanta_token.specs.TokenKind.{TokenKind, code, codes}
use Rattle.quanta_token.specs.TokenKind.{Contract, Entry, Guard, Genesis, State, Invariant, Event, Emit, Asset, Let, Signed, Sealed, Meta, After, From, Mints, Burns, Conserves, Writes, Reads, Limits, Denies, Import}
use Rattle.quanta_token.specs.TokenKind.{Int, Checked, Wrapping, RBrace, LParen, RParen, Comma, Dot, Eq, Lt, Eof}
use Rattle.quanta_grammar.specs.RefusalKind.{RefusalKind, refusal_code, expected_expression, expected_type, expected_contract_item}
use Rattle.quanta_grammar.specs.Productions.{Symbol, Production, of_word, after_span, type_name, literal, prefixes, assigns, operators}
use Rattle.quanta_grammar.specs.Productions.{program_call, item_call, stmt_call, expr_call, type_call, imports, import, more_imports, contracts, contract, items, item, block, fields}
use Rattle.quanta_grammar.specs.Productions.{field, meta_opt, default, param_list, params, more_params, param, sealed_opt, signed_opt, clauses, clause, more_names, duration, from_opt}
use Rattle.quanta_grammar.specs.Productions.{stmts, stmt, subject, tail, expr, level, links, unary, postfix, suffixes, suffix, args, more_args, primary}
use Rattle.quanta_grammar.specs.Productions.{type, type_args, type_arg, more_type_args, of_int}
use Rattle.quanta_grammar.specs.Productions.{whole_program, whole_item, whole_stmt, whole_expr, whole_type, an_import, no_import, import_decl, another_import, import_end, a_contract, no_contract, contract_decl, an_item}
use Rattle.quanta_grammar.specs.Productions.{no_item, asset_decl, state_block, genesis_block, invariant_decl, event_decl, entry_decl, braces, a_field, no_field, field_decl, meta, no_meta, a_default}
use Rattle.quanta_grammar.specs.Productions.{no_default, parens, some_params, no_params, another_param, param_end, param_decl, sealed, no_sealed, signed_by, no_signed, a_clause, no_clause, writes}
use Rattle.quanta_grammar.specs.Productions.{reads, conserves, mints, burns, limits, denies, after_expr, after_duration, another_name, name_end, int_unit, from_expr, no_from, a_stmt}
use Rattle.quanta_grammar.specs.Productions.{no_stmt, guard_stmt, let_stmt, emit_stmt, assign_or_expr_stmt, subject_expr, assign_tail, semi_tail, top, operands, link, link_end, prefix, no_prefix}
use Rattle.quanta_grammar.specs.Productions.{chain, a_suffix, no_suffix, dot_name, call, some_args, no_args, another_arg, arg_end, atom, in_parens, in_checked, in_wrapping, named_type}
use Rattle.quanta_grammar.specs.Productions.{some_type_args, no_type_args, int_arg, type_as_arg, another_type_arg, type_arg_end, some_of, no_of}

infix 4 ◌otherwise◌
infix 4 ◌refusing◌
abbrev on : {R : Type 0} → TokenKind → R → List ℕ × R
on k p = (code k ∷ [], p)

abbrev on_of : {R : Type 0} → List ℕ → R → List ℕ × R
on_of ks p = (ks, p)

abbrev ◌otherwise◌ : {R : Type 0} → List (List ℕ × R) → R → Guide R
ws otherwise p = record { ways = ws; other = use' p }

abbrev ◌refusing◌ : {R : Type 0} → List (List ℕ × R) → RefusalKind → Guide R
ws refusing e = record { ways = ws; other = refuse (refusal_code e) }

abbrev only : {R : Type 0} → R → Guide R
only p = [] otherwise p

-- a list between braces goes on up to its brace, or to the end of all
abbrev pub closing : List ℕ
closing = codes (RBrace ∷ Eof ∷ [])

-- what a clause begins with
abbrev pub clause_start : List ℕ
clause_start = codes (Writes ∷ Reads ∷ Conserves ∷ Mints ∷ Burns ∷ Limits ∷ Denies ∷ After ∷ []) ++ after_span

abbrev pub guide : (s : Symbol) → Guide (Production s)
-- the calls
guide program_call = only whole_program
guide item_call = only whole_item
guide stmt_call = only whole_stmt
guide expr_call = only whole_expr
guide type_call = only whole_type
-- programs
guide imports = on Import an_import ∷ [] otherwise no_import
guide import = only import_decl
guide more_imports = on Comma another_import ∷ [] otherwise import_end
guide contracts = on Contract a_contract ∷ [] otherwise no_contract
guide contract = only contract_decl
-- items
guide items = on_of closing no_item ∷ [] otherwise an_item
guide item =
    on Asset asset_decl ∷ on State state_block ∷ on Genesis genesis_block ∷ on Invariant invariant_decl ∷ on Event event_decl ∷ on Entry entry_decl ∷ []
    refusing expected_contract_item
guide block = only braces
guide fields = on_of closing no_field ∷ [] otherwise a_field
guide field = only field_decl
guide meta_opt = on Meta meta ∷ [] otherwise no_meta
guide default = on Eq a_default ∷ [] otherwise no_default
guide param_list = only parens
guide params = on RParen no_params ∷ [] otherwise some_params
guide more_params = on Comma another_param ∷ [] otherwise param_end
guide param = only param_decl
guide sealed_opt = on Sealed sealed ∷ [] otherwise no_sealed
guide signed_opt = on Signed signed_by ∷ [] otherwise no_signed
-- clauses
guide clauses = on_of clause_start a_clause ∷ [] otherwise no_clause
guide clause =
    on Writes writes ∷ on Reads reads ∷ on Conserves conserves ∷ on Mints mints ∷ on Burns burns ∷ on Limits limits ∷ on Denies denies ∷
    on After after_expr ∷ []
    otherwise after_duration
guide more_names = on Comma another_name ∷ [] otherwise name_end
guide duration = only int_unit
guide from_opt = on From from_expr ∷ [] otherwise no_from
-- statements
guide stmts = on_of closing no_stmt ∷ [] otherwise a_stmt
guide stmt = on Guard guard_stmt ∷ on Let let_stmt ∷ on Emit emit_stmt ∷ [] otherwise assign_or_expr_stmt
guide subject = only subject_expr
guide tail = on_of assigns assign_tail ∷ [] otherwise semi_tail
-- expressions
guide expr = only top
guide (level v) = only operands
guide (links v) = on_of (operators v) link ∷ [] otherwise link_end
guide unary = on_of prefixes prefix ∷ [] otherwise no_prefix
guide postfix = only chain
guide suffixes = on_of (codes (Dot ∷ LParen ∷ [])) a_suffix ∷ [] otherwise no_suffix
guide suffix = on Dot dot_name ∷ [] otherwise call
guide args = on RParen no_args ∷ [] otherwise some_args
guide more_args = on Comma another_arg ∷ [] otherwise arg_end
guide primary = on_of literal atom ∷ on LParen in_parens ∷ on Checked in_checked ∷ on Wrapping in_wrapping ∷ [] refusing expected_expression
-- types
guide type = on_of type_name named_type ∷ [] refusing expected_type
guide type_args = on Lt some_type_args ∷ [] otherwise no_type_args
guide type_arg = on Int int_arg ∷ [] otherwise type_as_arg
guide more_type_args = on Comma another_type_arg ∷ [] otherwise type_arg_end
guide of_int = on_of of_word some_of ∷ [] otherwise no_of
