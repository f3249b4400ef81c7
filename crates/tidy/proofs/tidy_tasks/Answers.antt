-- `tidy::tidy_tasks` meets its contract; the loop's invariant says what its turns so far have made.
use Rattle.tasks.specs.Content.{in_edition, no_task, task_of}
use Rattle.laws.specs.TabLaws.{filled_none, filled_next}
use native.Mathlib.Omega.{arith}
use mathlib.Core.Path.{ap, ◌∙◌}
use lib.ListN.{replicate}
use Rattle.tidy.proofs.tidy_tasks.Goals as goal

pub loop-i-init : goal.loop-i-init
loop-i-init c = ap (replicate 16) c.no_task-out.ensures ∙ filled_none _ no_task 16

pub loop-i-preserved : goal.loop-i-preserved
unfolding task_of no_task
loop-i-preserved c =
    let l = c.loop-i in
    let a = c.args in
    rw (l.invariant, c.in_edition.ensures) (filled_next (λ j. in_edition a.edition (task_of a.task j)) no_task l.i 16 (omega arith))
