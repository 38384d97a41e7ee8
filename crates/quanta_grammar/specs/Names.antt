-- All symbols and productions in lists, and the place of each: what is kept by their names is looked up by these places.
-- An entry that does not hold is refused.
-- Assumes nothing.
use Rattle.std.specs.Prelude.{refl, List, [], ◌∷◌, ◌++◌, ℕ}
use Rattle.grammar.specs.Names.{Placed, at, Names}
use Rattle.grammar.specs.Reader.{Choice, use', refuse}
use Rattle.quanta_grammar.specs.Guides.{guide}
use Rattle.quanta_grammar.specs.Productions.{Level, Symbol, Production, grammar}
use Rattle.quanta_grammar.specs.Productions.{logic_or, logic_and, equality, comparison, shift, additive, multiplicative}
use Rattle.quanta_grammar.specs.Productions.{program_call, item_call, stmt_call, expr_call, type_call, imports, import, more_imports, contracts, contract, items, item, block, fields}
use Rattle.quanta_grammar.specs.Productions.{field, meta_opt, default, param_list, params, more_params, param, sealed_opt, signed_opt, clauses, clause, more_names, duration, from_opt}
use Rattle.quanta_grammar.specs.Productions.{stmts, stmt, subject, tail, expr, level, links, unary, postfix, suffixes, suffix, args, more_args, primary}
use Rattle.quanta_grammar.specs.Productions.{type, type_args, type_arg, more_type_args, of_int}
use Rattle.quanta_grammar.specs.Productions.{whole_program, whole_item, whole_stmt, whole_expr, whole_type, an_import, no_import, import_decl, another_import, import_end, a_contract, no_contract, contract_decl, an_item}
use Rattle.quanta_grammar.specs.Productions.{no_item, asset_decl, state_block, genesis_block, invariant_decl, event_decl, entry_decl, braces, a_field, no_field, field_decl, meta, no_meta, a_default}
use Rattle.quanta_grammar.specs.Productions.{no_default, parens, some_params, no_params, another_param, param_end, param_decl, sealed, no_sealed, signed_by, no_signed, a_clause, no_clause, writes}
use Rattle.quanta_grammar.specs.Productions.{reads, conserves, mints, burns, limits, denies, after_expr, after_duration, another_name, name_end, int_unit, from_expr, no_from, a_stmt}
use Rattle.quanta_grammar.specs.Productions.{no_stmt, guard_stmt, let_stmt, emit_stmt, assign_or_expr_stmt, subject_expr, assign_tail, semi_tail, top, operands, link, link_end, prefix, no_prefix}
use Rattle.quanta_grammar.specs.Productions.{chain, a_suffix, no_suffix, dot_name, call, some_args, no_args, another_arg, arg_end, atom, in_parens, in_checked, in_wrapping, named_type}
use Rattle.quanta_grammar.specs.Productions.{some_type_args, no_type_args, int_arg, type_as_arg, another_type_arg, type_arg_end, some_of, no_of}

abbrev pub levels : List Level
levels = logic_or ∷ logic_and ∷ equality ∷ comparison ∷ shift ∷ additive ∷ multiplicative ∷ []

abbrev pub symbols : List Symbol
symbols =
    program_call ∷ item_call ∷ stmt_call ∷ expr_call ∷ type_call ∷ imports ∷ import ∷ more_imports ∷ contracts ∷ contract ∷
    items ∷ item ∷ block ∷ fields ∷ field ∷ meta_opt ∷ default ∷ param_list ∷ params ∷ more_params ∷
    param ∷ sealed_opt ∷ signed_opt ∷ clauses ∷ clause ∷ more_names ∷ duration ∷ from_opt ∷ stmts ∷ stmt ∷
    subject ∷ tail ∷ expr ∷ level logic_or ∷ level logic_and ∷ level equality ∷ level comparison ∷ level shift ∷ level additive ∷ level multiplicative ∷
    links logic_or ∷ links logic_and ∷ links equality ∷ links comparison ∷ links shift ∷ links additive ∷ links multiplicative ∷ unary ∷ postfix ∷ suffixes ∷
    suffix ∷ args ∷ more_args ∷ primary ∷ type ∷ type_args ∷ type_arg ∷ more_type_args ∷ of_int ∷
    []

-- the productions of a symbol, in the order of its guide
abbrev ways : {R : Type 0} → List (List ℕ × R) → List R
ways [] = []
ways (w ∷ ws) = w.1 ∷ ways ws

abbrev others : {R : Type 0} → Choice R → List R
others (use' p) = p ∷ []
others (refuse n) = []

abbrev pub rules : (s : Symbol) → List (Production s)
rules s = ways (guide s).ways ++ others (guide s).other

abbrev pub symbol_place : (s : Symbol) → Placed symbols s
symbol_place program_call = at 0 refl
symbol_place item_call = at 1 refl
symbol_place stmt_call = at 2 refl
symbol_place expr_call = at 3 refl
symbol_place type_call = at 4 refl
symbol_place imports = at 5 refl
symbol_place import = at 6 refl
symbol_place more_imports = at 7 refl
symbol_place contracts = at 8 refl
symbol_place contract = at 9 refl
symbol_place items = at 10 refl
symbol_place item = at 11 refl
symbol_place block = at 12 refl
symbol_place fields = at 13 refl
symbol_place field = at 14 refl
symbol_place meta_opt = at 15 refl
symbol_place default = at 16 refl
symbol_place param_list = at 17 refl
symbol_place params = at 18 refl
symbol_place more_params = at 19 refl
symbol_place param = at 20 refl
symbol_place sealed_opt = at 21 refl
symbol_place signed_opt = at 22 refl
symbol_place clauses = at 23 refl
symbol_place clause = at 24 refl
symbol_place more_names = at 25 refl
symbol_place duration = at 26 refl
symbol_place from_opt = at 27 refl
symbol_place stmts = at 28 refl
symbol_place stmt = at 29 refl
symbol_place subject = at 30 refl
symbol_place tail = at 31 refl
symbol_place expr = at 32 refl
symbol_place (level logic_or) = at 33 refl
symbol_place (level logic_and) = at 34 refl
symbol_place (level equality) = at 35 refl
symbol_place (level comparison) = at 36 refl
symbol_place (level shift) = at 37 refl
symbol_place (level additive) = at 38 refl
symbol_place (level multiplicative) = at 39 refl
symbol_place (links logic_or) = at 40 refl
symbol_place (links logic_and) = at 41 refl
symbol_place (links equality) = at 42 refl
symbol_place (links comparison) = at 43 refl
symbol_place (links shift) = at 44 refl
symbol_place (links additive) = at 45 refl
symbol_place (links multiplicative) = at 46 refl
symbol_place unary = at 47 refl
symbol_place postfix = at 48 refl
symbol_place suffixes = at 49 refl
symbol_place suffix = at 50 refl
symbol_place args = at 51 refl
symbol_place more_args = at 52 refl
symbol_place primary = at 53 refl
symbol_place type = at 54 refl
symbol_place type_args = at 55 refl
symbol_place type_arg = at 56 refl
symbol_place more_type_args = at 57 refl
symbol_place of_int = at 58 refl

abbrev pub rule_place : (s : Symbol) (p : Production s) → Placed (rules s) p
rule_place program_call whole_program = at 0 refl
rule_place item_call whole_item = at 0 refl
rule_place stmt_call whole_stmt = at 0 refl
rule_place expr_call whole_expr = at 0 refl
rule_place type_call whole_type = at 0 refl
rule_place imports an_import = at 0 refl
rule_place imports no_import = at 1 refl
rule_place import import_decl = at 0 refl
rule_place more_imports another_import = at 0 refl
rule_place more_imports import_end = at 1 refl
rule_place contracts a_contract = at 0 refl
rule_place contracts no_contract = at 1 refl
rule_place contract contract_decl = at 0 refl
rule_place items no_item = at 0 refl
rule_place items an_item = at 1 refl
rule_place item asset_decl = at 0 refl
rule_place item state_block = at 1 refl
rule_place item genesis_block = at 2 refl
rule_place item invariant_decl = at 3 refl
rule_place item event_decl = at 4 refl
rule_place item entry_decl = at 5 refl
rule_place block braces = at 0 refl
rule_place fields no_field = at 0 refl
rule_place fields a_field = at 1 refl
rule_place field field_decl = at 0 refl
rule_place meta_opt meta = at 0 refl
rule_place meta_opt no_meta = at 1 refl
rule_place default a_default = at 0 refl
rule_place default no_default = at 1 refl
rule_place param_list parens = at 0 refl
rule_place params no_params = at 0 refl
rule_place params some_params = at 1 refl
rule_place more_params another_param = at 0 refl
rule_place more_params param_end = at 1 refl
rule_place param param_decl = at 0 refl
rule_place sealed_opt sealed = at 0 refl
rule_place sealed_opt no_sealed = at 1 refl
rule_place signed_opt signed_by = at 0 refl
rule_place signed_opt no_signed = at 1 refl
rule_place clauses a_clause = at 0 refl
rule_place clauses no_clause = at 1 refl
rule_place clause writes = at 0 refl
rule_place clause reads = at 1 refl
rule_place clause conserves = at 2 refl
rule_place clause mints = at 3 refl
rule_place clause burns = at 4 refl
rule_place clause limits = at 5 refl
rule_place clause denies = at 6 refl
rule_place clause after_expr = at 7 refl
rule_place clause after_duration = at 8 refl
rule_place more_names another_name = at 0 refl
rule_place more_names name_end = at 1 refl
rule_place duration int_unit = at 0 refl
rule_place from_opt from_expr = at 0 refl
rule_place from_opt no_from = at 1 refl
rule_place stmts no_stmt = at 0 refl
rule_place stmts a_stmt = at 1 refl
rule_place stmt guard_stmt = at 0 refl
rule_place stmt let_stmt = at 1 refl
rule_place stmt emit_stmt = at 2 refl
rule_place stmt assign_or_expr_stmt = at 3 refl
rule_place subject subject_expr = at 0 refl
rule_place tail assign_tail = at 0 refl
rule_place tail semi_tail = at 1 refl
rule_place expr top = at 0 refl
rule_place (level v) operands = at 0 refl
rule_place (links v) link = at 0 refl
rule_place (links v) link_end = at 1 refl
rule_place unary prefix = at 0 refl
rule_place unary no_prefix = at 1 refl
rule_place postfix chain = at 0 refl
rule_place suffixes a_suffix = at 0 refl
rule_place suffixes no_suffix = at 1 refl
rule_place suffix dot_name = at 0 refl
rule_place suffix call = at 1 refl
rule_place args no_args = at 0 refl
rule_place args some_args = at 1 refl
rule_place more_args another_arg = at 0 refl
rule_place more_args arg_end = at 1 refl
rule_place primary atom = at 0 refl
rule_place primary in_parens = at 1 refl
rule_place primary in_checked = at 2 refl
rule_place primary in_wrapping = at 3 refl
rule_place type named_type = at 0 refl
rule_place type_args some_type_args = at 0 refl
rule_place type_args no_type_args = at 1 refl
rule_place type_arg int_arg = at 0 refl
rule_place type_arg type_as_arg = at 1 refl
rule_place more_type_args another_type_arg = at 0 refl
rule_place more_type_args type_arg_end = at 1 refl
rule_place of_int some_of = at 0 refl
rule_place of_int no_of = at 1 refl

abbrev pub names : Names grammar
names = record { symbols = symbols; symbol = symbol_place; rules = rules; rule = rule_place }

-- a symbol's number, and a production's among those of its symbol
abbrev pub symbol_no : Symbol → ℕ
symbol_no s = (symbol_place s).no

abbrev pub rule_no : {s : Symbol} → Production s → ℕ
rule_no {s} p = (rule_place s p).no
