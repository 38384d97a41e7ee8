-- Document 01's own tokens: of which kinds a record's own token is, by the record's kind.
-- Assumes nothing.
use Rattle.std.specs.Prelude.{List, [], ◌∷◌, ◌++◌, ℕ}
use Rattle.quanta_token.specs.TokenKind.{code, codes}
use Rattle.quanta_token.specs.TokenKind.{Int, Date, Str, Contract, Entry, Guard, Genesis, Caller, InAsset, Native, Now, State, Invariant, Event, Emit, Asset, Let, After, Mints, Burns, Conserves, Writes, Reads, Limits, Denies, Import, Checked, Wrapping}
use Rattle.quanta_token.specs.TokenKind.{LParen, Semi, Colon, Dot, Plus, Minus, Star, Slash, Percent, Lt, Gt, Le, Ge, EqEq, Ne, AndAnd, OrOr, Eof}
use Rattle.quanta_grammar.specs.NodeKind.{NodeKind, node_code}
use Rattle.quanta_grammar.specs.NodeKind.{program_node, import_node, contract_node, asset_node, state_node, genesis_node, invariant_node, event_node, entry_node, field_node}
use Rattle.quanta_grammar.specs.NodeKind.{param_node, writes_node, reads_node, conserves_node, mints_node, burns_node, limits_node, denies_node, after_node, type_node}
use Rattle.quanta_grammar.specs.NodeKind.{m_of_n_node, guard_node, let_node, emit_node, assign_node, expr_node, name_node, int_node, date_node, str_node}
use Rattle.quanta_grammar.specs.NodeKind.{caller_node, in_asset_node, native_node, now_node, checked_node, wrapping_node, unary_node, binary_node, access_node, call_node}
use Rattle.quanta_grammar.specs.Productions.{of_word, after_span, type_name, shr, prefixes, assigns}

infix 4 ◌owns◌
abbrev ◌owns◌ : NodeKind → List ℕ → ℕ × List ℕ
n owns ks = (node_code n, ks)

abbrev pub own_kinds : List (ℕ × List ℕ)
own_kinds =
    -- the keyword
    (import_node owns codes (Import ∷ [])) ∷
    (contract_node owns codes (Contract ∷ [])) ∷
    (asset_node owns codes (Asset ∷ [])) ∷
    (state_node owns codes (State ∷ [])) ∷
    (genesis_node owns codes (Genesis ∷ [])) ∷
    (invariant_node owns codes (Invariant ∷ [])) ∷
    (event_node owns codes (Event ∷ [])) ∷
    (entry_node owns codes (Entry ∷ [])) ∷
    (writes_node owns codes (Writes ∷ [])) ∷
    (reads_node owns codes (Reads ∷ [])) ∷
    (conserves_node owns codes (Conserves ∷ [])) ∷
    (mints_node owns codes (Mints ∷ [])) ∷
    (burns_node owns codes (Burns ∷ [])) ∷
    (limits_node owns codes (Limits ∷ [])) ∷
    (denies_node owns codes (Denies ∷ [])) ∷
    (after_node owns code After ∷ after_span) ∷
    (guard_node owns codes (Guard ∷ [])) ∷
    (let_node owns codes (Let ∷ [])) ∷
    (emit_node owns codes (Emit ∷ [])) ∷
    (caller_node owns codes (Caller ∷ [])) ∷
    (in_asset_node owns codes (InAsset ∷ [])) ∷
    (native_node owns codes (Native ∷ [])) ∷
    (now_node owns codes (Now ∷ [])) ∷
    (checked_node owns codes (Checked ∷ [])) ∷
    (wrapping_node owns codes (Wrapping ∷ [])) ∷
    -- the identifier or literal
    (name_node owns type_name) ∷
    (int_node owns codes (Int ∷ [])) ∷
    (date_node owns codes (Date ∷ [])) ∷
    (str_node owns codes (Str ∷ [])) ∷
    -- `.` and `(`, the operator, `:`, `of`, the name of a type, `;`, Eof
    (access_node owns codes (Dot ∷ [])) ∷
    (call_node owns codes (LParen ∷ [])) ∷
    (assign_node owns assigns) ∷
    (unary_node owns prefixes) ∷
    (binary_node owns codes (OrOr ∷ AndAnd ∷ EqEq ∷ Ne ∷ Lt ∷ Gt ∷ Le ∷ Ge ∷ Plus ∷ Minus ∷ Star ∷ Slash ∷ Percent ∷ []) ++ shr) ∷
    (field_node owns codes (Colon ∷ [])) ∷
    (param_node owns codes (Colon ∷ [])) ∷
    (m_of_n_node owns of_word) ∷
    (type_node owns type_name) ∷
    (expr_node owns codes (Semi ∷ [])) ∷
    (program_node owns codes (Eof ∷ [])) ∷
    []
