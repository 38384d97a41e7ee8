-- `quanta_reading::finish::finish` meets its contract.
-- Assumes nothing.
use Rattle.quanta_reading.proofs.Finishing.{refused, no_room, room}
use Rattle.quanta_reading.proofs.finish.finish.Goals as goal

pub returns-then-tree-records : goal.returns-then-tree-records
returns-then-tree-records c = no_room c.args.tree.now c.args.tokens c.args.parsed c.in-Ok.is c.if-tree-records.true (c.fill-then-tree-records.ensures.after (λ y h. h))

pub returns-in-Err : goal.returns-in-Err
returns-in-Err c = refused c.args.tree.now c.args.tokens c.args.parsed c.in-Err.is (c.fill.ensures.after (λ y h. h))

pub returns-else-tree-records : goal.returns-else-tree-records
returns-else-tree-records c = room c.args.tree.now c.args.tokens c.args.parsed c.in-Ok.is c.if-tree-records.false (c.fill-in-Ok.ensures.after (λ y h. h))
