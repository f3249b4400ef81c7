-- `codec::entry::task_at` meets its contract.
use Rattle.std.proofs.Common.{arith}
use Rattle.codec.specs.Table.{task_in}
use Rattle.codec.specs.TaskLaws.{size_low}
use Rattle.codec.proofs.entry.task_at.Goals as goal

pub number4-requires : goal.number4-requires
number4-requires c = omega (arith, size_low c.args.edition)

pub number4-requires-2 : goal.number4-requires-2
number4-requires-2 c = omega (arith, size_low c.args.edition)

pub number4-requires-3 : goal.number4-requires-3
number4-requires-3 c = omega (arith, size_low c.args.edition)

pub returns : goal.returns
unfolding task_in
returns c = cc
