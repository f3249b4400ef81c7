-- `sections::put_tasks` meets its contract. The loop's invariant: the first i entries are stored behind the count.
use mathlib.Core.Path.{refl, ◌∙◌}
use Rattle.tasks.specs.Content.{no_task, task_of}
use Rattle.numbers.specs.Bytes.{entries}
use Rattle.codec.specs.Table.{task_size}
use Rattle.numbers.specs.StoreLaws.{sets-entry}
use Rattle.codec.specs.TaskLaws.{length-task}
use Rattle.sections.proofs.put_tasks.Goals as goal

pub loop-i-init : goal.loop-i-init
unfolding entries
loop-i-init c = refl

pub loop-i-preserved : goal.loop-i-preserved
unfolding task_of no_task
loop-i-preserved c =
    let a = c.args in
    c.put_task.ensures
    ∙ rw c.task_size-size.ensures
    (sets-entry (task_size a.edition) _ (λ j. length-task _ _) _ _ _ _ _ _ c.loop-i.invariant refl refl)
