-- The grammar of Quanta: one production on a line, with what each of its parts leaves in the tree.
-- Assumes nothing.
use Rattle.std.specs.Prelude.{List, [], ◌∷◌, ◌++◌, ℕ}
use Rattle.grammar.specs.Grammar.{Grammar, Tree}
use Rattle.grammar.specs.Records.{nothing, own as owns, word as words, pass as passes, fold as folds, widens, replaces, make as makes, plus as adds, start as starts, Part, then, token, phrase, reaching, items as items_of, marks as marks_of, Outs}
use Rattle.quanta_token.specs.TokenKind.{TokenKind, code, codes}
use Rattle.quanta_token.specs.TokenKind.{Ident, Int, Date, Str}
use Rattle.quanta_token.specs.TokenKind.{Contract, Entry, Guard, Genesis, Caller, InAsset, Native, Now, State, Invariant, Event, Emit, Asset, Let, Signed, By}
use Rattle.quanta_token.specs.TokenKind.{Sealed, Meta, Quorum, After, From, Mints, Burns, Conserves, Writes, Reads, Limits, Denies, Import, Checked, Wrapping}
use Rattle.quanta_token.specs.TokenKind.{LBrace, RBrace, LParen, RParen, Comma, Semi, Colon, Dot, Eq, PlusEq, MinusEq, Plus, Minus, Star, Slash, Percent}
use Rattle.quanta_token.specs.TokenKind.{Lt, Gt, Le, Ge, EqEq, Ne, Bang, AndAnd, OrOr, Shr}
use Rattle.quanta_token.specs.TokenKind.{Eof}
use Rattle.quanta_grammar.specs.FineKind.{fine, OfWord, UnitWord, AfterSpan, TwoClosers, OneCloser}
use Rattle.quanta_grammar.specs.NodeKind.{NodeKind, node_code, Flag, flag_code, is_meta, has_default, is_sealed, is_signed, has_from, has_duration}
use Rattle.quanta_grammar.specs.NodeKind.{program_node, import_node, contract_node, asset_node, state_node, genesis_node, invariant_node, event_node, entry_node, field_node}
use Rattle.quanta_grammar.specs.NodeKind.{param_node, writes_node, reads_node, conserves_node, mints_node, burns_node, limits_node, denies_node, after_node, type_node}
use Rattle.quanta_grammar.specs.NodeKind.{m_of_n_node, guard_node, let_node, emit_node, assign_node, expr_node, name_node, int_node, date_node, str_node}
use Rattle.quanta_grammar.specs.NodeKind.{caller_node, in_asset_node, native_node, now_node, checked_node, wrapping_node, unary_node, binary_node, access_node, call_node}

-- the binary levels of an expression, loosest first
pub data Level : Type 0 where
  logic_or logic_and equality comparison shift additive multiplicative : Level

-- the symbols: the five calls; programs; items; clauses; statements; expressions; types
pub data Symbol : Type 0 where
  program_call item_call stmt_call expr_call type_call : Symbol
  imports import more_imports contracts contract : Symbol
  items item block fields field meta_opt default param_list params more_params param sealed_opt signed_opt : Symbol
  clauses clause more_names duration from_opt : Symbol
  stmts stmt subject tail : Symbol
  expr : Symbol
  level links : Level → Symbol
  unary postfix suffixes suffix args more_args primary : Symbol
  type type_args type_arg more_type_args of_int : Symbol

-- the names of each symbol's productions
pub data Production : Symbol → Type 0 where
  whole_program : Production program_call
  whole_item : Production item_call
  whole_stmt : Production stmt_call
  whole_expr : Production expr_call
  whole_type : Production type_call
  an_import no_import : Production imports
  import_decl : Production import
  another_import import_end : Production more_imports
  a_contract no_contract : Production contracts
  contract_decl : Production contract
  an_item no_item : Production items
  asset_decl state_block genesis_block invariant_decl event_decl entry_decl : Production item
  braces : Production block
  a_field no_field : Production fields
  field_decl : Production field
  meta no_meta : Production meta_opt
  a_default no_default : Production default
  parens : Production param_list
  some_params no_params : Production params
  another_param param_end : Production more_params
  param_decl : Production param
  sealed no_sealed : Production sealed_opt
  signed_by no_signed : Production signed_opt
  a_clause no_clause : Production clauses
  writes reads conserves mints burns limits denies after_expr after_duration : Production clause
  another_name name_end : Production more_names
  int_unit : Production duration
  from_expr no_from : Production from_opt
  a_stmt no_stmt : Production stmts
  guard_stmt let_stmt emit_stmt assign_or_expr_stmt : Production stmt
  subject_expr : Production subject
  assign_tail semi_tail : Production tail
  top : Production expr
  operands : {v : Level} → Production (level v)
  link link_end : {v : Level} → Production (links v)
  prefix no_prefix : Production unary
  chain : Production postfix
  a_suffix no_suffix : Production suffixes
  dot_name call : Production suffix
  some_args no_args : Production args
  another_arg arg_end : Production more_args
  atom in_parens in_checked in_wrapping : Production primary
  named_type : Production type
  some_type_args no_type_args : Production type_args
  int_arg type_as_arg : Production type_arg
  another_type_arg type_arg_end : Production more_type_args
  some_of no_of : Production of_int

-- Sets of kinds. A name may spell `of` or a unit.
abbrev pub name : List ℕ
name = code Ident ∷ fine OfWord ∷ fine UnitWord ∷ []

abbrev pub of_word : List ℕ
of_word = fine OfWord ∷ []

abbrev pub unit_word : List ℕ
unit_word = fine UnitWord ∷ []

abbrev pub after_span : List ℕ
after_span = fine AfterSpan ∷ []

-- `>>`, in edition 1 and in edition 2
abbrev pub shr : List ℕ
shr = code Shr ∷ fine TwoClosers ∷ []

-- what closes a type list: `>`, or one of the two closers that a `>>` of edition 2 counts as
abbrev pub closer : List ℕ
closer = code Gt ∷ fine OneCloser ∷ []

abbrev pub type_name : List ℕ
type_name = code Quorum ∷ name

abbrev pub literal : List ℕ
literal = codes (Int ∷ Date ∷ Str ∷ Caller ∷ InAsset ∷ Native ∷ Now ∷ []) ++ name

abbrev pub prefixes : List ℕ
prefixes = codes (Bang ∷ Minus ∷ [])

abbrev pub assigns : List ℕ
assigns = codes (Eq ∷ PlusEq ∷ MinusEq ∷ [])

-- a level's operators, and what stands between them
abbrev pub operators : Level → List ℕ
operators logic_or = codes (OrOr ∷ [])
operators logic_and = codes (AndAnd ∷ [])
operators equality = codes (EqEq ∷ Ne ∷ [])
operators comparison = codes (Lt ∷ Gt ∷ Le ∷ Ge ∷ [])
operators shift = shr
operators additive = codes (Plus ∷ Minus ∷ [])
operators multiplicative = codes (Star ∷ Slash ∷ Percent ∷ [])

abbrev pub operand : Level → Symbol
operand logic_or = level logic_and
operand logic_and = level equality
operand equality = level comparison
operand comparison = level shift
operand shift = level additive
operand additive = level multiplicative
operand multiplicative = unary

-- WHAT STANDS IN A LINE BELOW.
-- A token, of one kind or of a set: `tok` leaves nothing; `own` is the own token of the record to come; `word` leaves a record of its own.
-- A phrase: `sub` leaves its records beside those so far; `fold` goes on with what is left so far.
-- The span so far: a part that is `wide` is joined to it; one that is `last` takes its place; any other leaves it as it is.
-- Then: `make` puts a record with that span over all so far; `plus` adds to its flag; `start` joins the production's first token to the span.
abbrev tok : TokenKind → Part Symbol
tok k = token nothing (code k ∷ [])

abbrev own : TokenKind → Part Symbol
own k = token owns (code k ∷ [])

abbrev tok_of : List ℕ → Part Symbol
tok_of = token nothing

abbrev word : TokenKind → Part Symbol
word k = token words (code k ∷ [])

abbrev own_of : List ℕ → Part Symbol
own_of = token owns

abbrev word_of : List ℕ → Part Symbol
word_of = token words

abbrev sub : Symbol → Part Symbol
sub = phrase passes

abbrev fold : Symbol → Part Symbol
fold = phrase folds

abbrev wide : Part Symbol → Part Symbol
wide = reaching widens

abbrev last : Part Symbol → Part Symbol
last = reaching replaces

abbrev make : NodeKind → Part Symbol
make n = then (makes (node_code n))

abbrev plus : Flag → Part Symbol
plus f = then (adds (flag_code f))

abbrev start : Part Symbol
start = then starts

-- THE PRODUCTIONS
abbrev pub rule : (s : Symbol) → Production s → List (Part Symbol)
-- the calls
rule program_call whole_program = fold imports ∷ fold contracts ∷ own Eof ∷ start ∷ make program_node ∷ []
rule item_call whole_item = sub item ∷ tok Eof ∷ []
rule stmt_call whole_stmt = sub stmt ∷ tok Eof ∷ []
rule expr_call whole_expr = sub expr ∷ tok Eof ∷ []
rule type_call whole_type = sub type ∷ tok Eof ∷ []
-- programs
rule imports an_import = last (sub import) ∷ fold imports ∷ []
rule imports no_import = []
rule import import_decl = wide (own Import) ∷ tok LBrace ∷ word_of type_name ∷ fold more_imports ∷ tok RBrace ∷ tok From ∷ word Str ∷ wide (tok Semi) ∷ make import_node ∷ []
rule more_imports another_import = tok Comma ∷ word_of type_name ∷ fold more_imports ∷ []
rule more_imports import_end = []
rule contracts a_contract = last (sub contract) ∷ fold contracts ∷ []
rule contracts no_contract = []
rule contract contract_decl = wide (own Contract) ∷ word_of name ∷ tok LBrace ∷ sub items ∷ wide (tok RBrace) ∷ make contract_node ∷ []
-- items
rule items an_item = sub item ∷ fold items ∷ []
rule items no_item = []
rule item asset_decl = wide (own Asset) ∷ word_of name ∷ wide (tok Semi) ∷ make asset_node ∷ []
rule item state_block = wide (own State) ∷ tok LBrace ∷ sub fields ∷ wide (tok RBrace) ∷ make state_node ∷ []
rule item genesis_block = wide (own Genesis) ∷ wide (sub block) ∷ make genesis_node ∷ []
rule item invariant_decl = wide (own Invariant) ∷ sub expr ∷ wide (tok Semi) ∷ make invariant_node ∷ []
rule item event_decl = wide (own Event) ∷ word_of name ∷ sub param_list ∷ wide (tok Semi) ∷ make event_node ∷ []
rule item entry_decl = wide (own Entry) ∷ word_of name ∷ sub param_list ∷ sub clauses ∷ wide (sub block) ∷ make entry_node ∷ []
rule block braces = wide (tok LBrace) ∷ sub stmts ∷ wide (tok RBrace) ∷ []
rule fields a_field = sub field ∷ fold fields ∷ []
rule fields no_field = []
rule field field_decl = fold meta_opt ∷ word_of name ∷ own Colon ∷ sub type ∷ fold default ∷ wide (tok Semi) ∷ start ∷ make field_node ∷ []
rule meta_opt meta = tok Meta ∷ plus is_meta ∷ []
rule meta_opt no_meta = []
rule default a_default = tok Eq ∷ sub expr ∷ plus has_default ∷ []
rule default no_default = []
rule param_list parens = tok LParen ∷ sub params ∷ tok RParen ∷ []
rule params some_params = sub param ∷ fold more_params ∷ []
rule params no_params = []
rule more_params another_param = tok Comma ∷ sub param ∷ fold more_params ∷ []
rule more_params param_end = []
rule param param_decl = word_of name ∷ own Colon ∷ fold sealed_opt ∷ last (sub type) ∷ fold signed_opt ∷ start ∷ make param_node ∷ []
rule sealed_opt sealed = tok Sealed ∷ plus is_sealed ∷ []
rule sealed_opt no_sealed = []
rule signed_opt signed_by = tok Signed ∷ tok By ∷ last (word_of name) ∷ plus is_signed ∷ []
rule signed_opt no_signed = []
-- clauses
rule clauses a_clause = sub clause ∷ fold clauses ∷ []
rule clauses no_clause = []
rule clause writes = wide (own Writes) ∷ tok LParen ∷ word_of name ∷ fold more_names ∷ wide (tok RParen) ∷ make writes_node ∷ []
rule clause reads = wide (own Reads) ∷ tok LParen ∷ word_of name ∷ fold more_names ∷ wide (tok RParen) ∷ make reads_node ∷ []
rule clause conserves = wide (own Conserves) ∷ wide (word_of name) ∷ make conserves_node ∷ []
rule clause mints = wide (own Mints) ∷ wide (word_of name) ∷ make mints_node ∷ []
rule clause burns = wide (own Burns) ∷ wide (word_of name) ∷ make burns_node ∷ []
rule clause limits = wide (own Limits) ∷ wide (sub expr) ∷ make limits_node ∷ []
rule clause denies = wide (own Denies) ∷ wide (sub expr) ∷ make denies_node ∷ []
rule clause after_expr = own After ∷ last (sub expr) ∷ fold from_opt ∷ start ∷ make after_node ∷ []
rule clause after_duration = own_of after_span ∷ last (sub duration) ∷ plus has_duration ∷ fold from_opt ∷ start ∷ make after_node ∷ []
rule duration int_unit = wide (word Int) ∷ wide (word_of unit_word) ∷ []
rule from_opt from_expr = tok From ∷ last (sub expr) ∷ plus has_from ∷ []
rule from_opt no_from = []
rule more_names another_name = tok Comma ∷ word_of name ∷ fold more_names ∷ []
rule more_names name_end = []
-- statements
rule stmts a_stmt = sub stmt ∷ fold stmts ∷ []
rule stmts no_stmt = []
rule stmt guard_stmt = wide (own Guard) ∷ sub expr ∷ wide (tok Semi) ∷ make guard_node ∷ []
rule stmt let_stmt = wide (own Let) ∷ word_of name ∷ tok Eq ∷ sub expr ∷ wide (tok Semi) ∷ make let_node ∷ []
rule stmt emit_stmt = wide (own Emit) ∷ word_of name ∷ tok LParen ∷ sub args ∷ tok RParen ∷ wide (tok Semi) ∷ make emit_node ∷ []
rule stmt assign_or_expr_stmt = wide (sub subject) ∷ fold tail ∷ []
rule subject subject_expr = wide (sub expr) ∷ []
rule tail assign_tail = own_of assigns ∷ sub expr ∷ wide (tok Semi) ∷ make assign_node ∷ []
rule tail semi_tail = wide (own Semi) ∷ make expr_node ∷ []
-- expressions
rule expr top = wide (sub (level logic_or)) ∷ []
rule (level v) operands = wide (sub (operand v)) ∷ fold (links v) ∷ []
rule (links v) link = own_of (operators v) ∷ wide (sub (operand v)) ∷ make binary_node ∷ fold (links v) ∷ []
rule (links v) link_end = []
rule unary prefix = wide (own_of prefixes) ∷ wide (sub unary) ∷ make unary_node ∷ []
rule unary no_prefix = wide (sub postfix) ∷ []
rule postfix chain = wide (sub primary) ∷ fold suffixes ∷ []
rule suffixes a_suffix = fold suffix ∷ fold suffixes ∷ []
rule suffixes no_suffix = []
rule suffix dot_name = own Dot ∷ wide (word_of name) ∷ make access_node ∷ []
rule suffix call = own LParen ∷ sub args ∷ wide (tok RParen) ∷ make call_node ∷ []
rule args some_args = sub expr ∷ fold more_args ∷ []
rule args no_args = []
rule more_args another_arg = tok Comma ∷ sub expr ∷ fold more_args ∷ []
rule more_args arg_end = []
rule primary atom = wide (word_of literal) ∷ []
rule primary in_parens = tok LParen ∷ wide (sub expr) ∷ tok RParen ∷ []
rule primary in_checked = wide (own Checked) ∷ tok LParen ∷ sub expr ∷ wide (tok RParen) ∷ make checked_node ∷ []
rule primary in_wrapping = wide (own Wrapping) ∷ tok LParen ∷ sub expr ∷ wide (tok RParen) ∷ make wrapping_node ∷ []
-- types
rule type named_type = wide (own_of type_name) ∷ wide (sub type_args) ∷ make type_node ∷ []
rule type_args some_type_args = tok Lt ∷ sub type_arg ∷ fold more_type_args ∷ wide (tok_of closer) ∷ []
rule type_args no_type_args = []
rule type_arg int_arg = wide (word Int) ∷ fold of_int ∷ []
rule type_arg type_as_arg = wide (sub type) ∷ []
rule more_type_args another_type_arg = tok Comma ∷ sub type_arg ∷ fold more_type_args ∷ []
rule more_type_args type_arg_end = []
rule of_int some_of = own_of of_word ∷ wide (word Int) ∷ make m_of_n_node ∷ []
rule of_int no_of = []

-- the grammar proper: of each production's line the parts alone; and a `>>` of edition 2 as the pair of two closers
abbrev pub grammar : Grammar
grammar = record {
  Symbol = Symbol;
  Rule = Production;
  parts = λ s p. items_of (rule s p);
  pair = fine TwoClosers;
  half = fine OneCloser;
}

-- a derivation: a tree of productions
abbrev pub Derivation : Symbol → Type 0
Derivation = Tree grammar

-- a set for each of these kinds
abbrev pub each : List ℕ → List (List ℕ)
each [] = []
each (k ∷ ks) = (k ∷ []) ∷ each ks

-- what the parts leave; the record of a token that leaves one; the tokens that number a record's flag, in the order of `AssignOp`, `UnaryOp` and `BinOp`
abbrev pub outs : Outs grammar
outs = record {
  marks = λ s p. marks_of (rule s p);
  leafs =
      (node_code name_node, type_name) ∷
      (node_code int_node, codes (Int ∷ [])) ∷
      (node_code date_node, codes (Date ∷ [])) ∷
      (node_code str_node, codes (Str ∷ [])) ∷
      (node_code caller_node, codes (Caller ∷ [])) ∷
      (node_code in_asset_node, codes (InAsset ∷ [])) ∷
      (node_code native_node, codes (Native ∷ [])) ∷
      (node_code now_node, codes (Now ∷ [])) ∷
      [];
  flags =
      (node_code assign_node, each assigns) ∷
      (node_code unary_node, each prefixes) ∷
      (node_code binary_node, each (codes (OrOr ∷ AndAnd ∷ EqEq ∷ Ne ∷ Lt ∷ Gt ∷ Le ∷ Ge ∷ Plus ∷ Minus ∷ Star ∷ Slash ∷ Percent ∷ [])) ++ (shr ∷ [])) ∷
      [];
}
