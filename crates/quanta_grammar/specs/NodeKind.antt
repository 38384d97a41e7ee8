-- The kinds of tree records by name, their numbers, and the flags that add up. The one list of each.
-- Assumes nothing.
use Rattle.std.specs.Prelude.{ℕ}

pub data NodeKind : Type 0 where
  program_node import_node contract_node asset_node state_node genesis_node invariant_node event_node entry_node field_node : NodeKind
  param_node writes_node reads_node conserves_node mints_node burns_node limits_node denies_node after_node type_node : NodeKind
  m_of_n_node guard_node let_node emit_node assign_node expr_node name_node int_node date_node str_node : NodeKind
  caller_node in_asset_node native_node now_node checked_node wrapping_node unary_node binary_node access_node call_node : NodeKind

-- a kind's number in the tree records
abbrev pub node_code : NodeKind → ℕ
node_code program_node = 1
node_code import_node = 2
node_code contract_node = 3
node_code asset_node = 4
node_code state_node = 5
node_code genesis_node = 6
node_code invariant_node = 7
node_code event_node = 8
node_code entry_node = 9
node_code field_node = 10
node_code param_node = 11
node_code writes_node = 12
node_code reads_node = 13
node_code conserves_node = 14
node_code mints_node = 15
node_code burns_node = 16
node_code limits_node = 17
node_code denies_node = 18
node_code after_node = 19
node_code type_node = 20
node_code m_of_n_node = 21
node_code guard_node = 22
node_code let_node = 23
node_code emit_node = 24
node_code assign_node = 25
node_code expr_node = 26
node_code name_node = 27
node_code int_node = 28
node_code date_node = 29
node_code str_node = 30
node_code caller_node = 31
node_code in_asset_node = 32
node_code native_node = 33
node_code now_node = 34
node_code checked_node = 35
node_code wrapping_node = 36
node_code unary_node = 37
node_code binary_node = 38
node_code access_node = 39
node_code call_node = 40

-- the flags of a field, a parameter and an `after`, two for each
pub data Flag : Type 0 where
  is_meta has_default : Flag
  is_sealed is_signed : Flag
  has_from has_duration : Flag

abbrev pub flag_code : Flag → ℕ
flag_code is_meta = 1
flag_code has_default = 2
flag_code is_sealed = 1
flag_code is_signed = 2
flag_code has_from = 1
flag_code has_duration = 2
