-- The refusals of the parser by name, and their numbers. The one list of both.
-- Assumes nothing.
use Rattle.std.specs.Prelude.{ℕ}

pub data RefusalKind : Type 0 where
  expected_token expected_identifier expected_integer expected_import_name expected_string : RefusalKind
  expected_expression expected_type expected_contract_item : RefusalKind
  too_deep bad_target token_after_the_end : RefusalKind

abbrev pub refusal_code : RefusalKind → ℕ
refusal_code expected_token = 12
refusal_code expected_identifier = 13
refusal_code expected_integer = 14
refusal_code expected_import_name = 15
refusal_code expected_string = 16
refusal_code expected_expression = 17
refusal_code expected_type = 18
refusal_code expected_contract_item = 19
refusal_code too_deep = 20
refusal_code bad_target = 21
refusal_code token_after_the_end = 22
