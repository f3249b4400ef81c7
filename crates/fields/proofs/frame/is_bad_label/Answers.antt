use Rattle.std.proofs.Common.{arith}
use Rattle.std.proofs.lemmas.Grind.{common_steps}
use Rattle.tasks.specs.TaskSet.{row}
use Rattle.tasks.specs.Tests.{bad_label}
use Rattle.fields.proofs.frame.is_bad_label.Goals as goal

pub returns-then-labels-i-gt-LABEL_HIGH : goal.returns-then-labels-i-gt-LABEL_HIGH
unfolding bad_label row
returns-then-labels-i-gt-LABEL_HIGH c = grind (arith, common_steps)

pub returns-then-i-gt0 : goal.returns-then-i-gt0
unfolding bad_label row
returns-then-i-gt0 c = grind (arith, common_steps)

pub returns-else-i-gt0 : goal.returns-else-i-gt0
unfolding bad_label row
returns-else-i-gt0 c = grind (arith, common_steps)
