-- `reader::load_tasks` meets its contract: the array is filled in order.
use native.Mathlib.Omega.{arith}
use mathlib.Core.Path.{◌∙◌}
use Rattle.laws.specs.TabLaws.{filled_none}
use Rattle.tasks.specs.Content.{no_task}
use Rattle.reader.specs.LoadLaws.{filled_step, filled_end}
use Rattle.reader.proofs.load_tasks.Goals as goal

pub loop-i-init : goal.loop-i-init
loop-i-init c = rw c.no_task-tasks.ensures (filled_none _ no_task 16)

pub loop-i-preserved : goal.loop-i-preserved
loop-i-preserved c = filled_step _ no_task _ 16 _ _ (omega arith) c.loop-i.invariant (c.task_at.ensures ∙ rw c.task_size-size.ensures)

pub returns : goal.returns
returns c = filled_end _ no_task _ 16 _ _ (omega arith) c.loop-i.invariant
