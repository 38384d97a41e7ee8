-- `quanta_lexer::scan::Lexer::scan_symbol` meets its contract: the tests in turn choose as `symbol_at` does.
-- Assumes nothing.
use Prim.Native.Nat.{◌+◌}
use mathlib.Core.Path.{sym, ◌∙◌}
use native.Mathlib.Omega.{arith}
use lib.ListN.{get_or}
use lib.Dec.{eqb}
use Rattle.quanta_token.proofs.BoolLaws.{both}
use Rattle.quanta_lexer.specs.Scan.{date_at}
use Rattle.quanta_lexer.proofs.ScanLaws.{date_inside, symbol_pair, symbol_single, symbol_none}
use Rattle.quanta_lexer.proofs.scan.Lexer.scan_symbol.Goals as goal

pub is_dated-requires : goal.is_dated-requires
is_dated-requires c =
    let src = c.args.self.now.src.now in
    let k = c.args.start in
    let d = sym c.is_date_after.ensures ∙ c.if-is_date_after.true in
    omega (arith, date_inside src (k + 1) (both (eqb (get_or src k 0) 0x40) (date_at src (k + 1)) d).1)

pub returns-in-Some : goal.returns-in-Some
returns-in-Some c =
    c.found-in-Some.ensures ∙ sym (symbol_pair c.args.self.now.edition c.args.self.now.src.now c.args.start
    (sym c.is_date_after.ensures ∙ c.if-is_date_after.false) c.peek.ensures c.pair_kind.ensures c.in-Some.is)

pub returns-in-Some-single_kind : goal.returns-in-Some-single_kind
returns-in-Some-single_kind c =
    c.found-in-Some-single_kind.ensures ∙ sym (symbol_single c.args.self.now.edition c.args.self.now.src.now c.args.start
    (sym c.is_date_after.ensures ∙ c.if-is_date_after.false) c.peek.ensures c.pair_kind.ensures c.in_default.not-Some
    c.single_kind.ensures c.in-Some-single_kind.is)

pub returns : goal.returns
returns c =
    c.refused-2.ensures ∙ sym (symbol_none c.args.self.now.edition c.args.self.now.src.now c.args.start
    (sym c.is_date_after.ensures ∙ c.if-is_date_after.false) c.peek.ensures c.pair_kind.ensures c.in_default.not-Some
    c.single_kind.ensures c.in_default-single_kind.not-Some)
