-- `quanta_parser::whole::whole_item` meets its contract.
-- Assumes nothing.
use Rattle.quanta_grammar.specs.Refine.{text}
use Rattle.quanta_parser.proofs.Wholes.{item_call_lem, fails_whole, whole_bad, whole_inside, whole_ends}
use Rattle.quanta_parser.proofs.whole.whole_item.Goals as goal

pub contract_item-requires : goal.contract_item-requires
contract_item-requires c = c.requires

pub returns-in_err-item : goal.returns-in_err-item
returns-in_err-item c =
    fails_whole c.from_residual.ensures.1
    (whole_bad item_call_lem (text c.args.edition c.args.src.now) c.requires c.contract_item.ensures c.in_err-item.was)

pub to_the_end-requires : goal.to_the_end-requires
to_the_end-requires c =
    whole_inside item_call_lem (text c.args.edition c.args.src.now) c.requires c.contract_item.ensures c.in_ok-item.was

pub returns : goal.returns
returns c =
    whole_ends item_call_lem (text c.args.edition c.args.src.now) c.requires c.contract_item.ensures c.in_ok-item.was
    c.to_the_end.ensures
