-- `converter::convert_tasks` meets its contract: the array is filled in order.
use native.Mathlib.Omega.{arith}
use mathlib.Core.Path.{◌≡◌, ◌∙◌}
use Rattle.laws.specs.TabLaws.{filled_none, cut_all}
use Rattle.tasks.specs.Content.{no_task, task_of}
use Rattle.reader.specs.LoadLaws.{filled_step}
use Rattle.conversion.specs.Converted.{converted_task}
use Rattle.converter.proofs.convert_tasks.Goals as goal

pub loop-i-init : goal.loop-i-init
loop-i-init c = rw c.no_task-out.ensures (filled_none _ no_task 16)

pub loop-i-preserved : goal.loop-i-preserved
unfolding task_of no_task converted_task
loop-i-preserved c = filled_step _ no_task _ 16 _ _ (omega arith) c.loop-i.invariant (rw c.deadline_in.ensures)

pub returns : goal.returns
returns c =
    let e : c.loop-i.i ≡ 16 = omega arith in
    rw e at c.loop-i.invariant ∙ cut_all 16 _ no_task
