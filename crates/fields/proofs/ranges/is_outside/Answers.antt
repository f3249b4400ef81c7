use Rattle.std.proofs.Common.{arith}
use Rattle.std.proofs.lemmas.Grind.{common_steps}
use Rattle.tasks.specs.Tests.{outside}
use Rattle.fields.proofs.ranges.is_outside.Goals as goal

pub returns-then-x-low : goal.returns-then-x-low
unfolding outside
returns-then-x-low c = grind (arith, common_steps)

pub returns-else-x-low : goal.returns-else-x-low
unfolding outside
returns-else-x-low c = grind (arith, common_steps)
