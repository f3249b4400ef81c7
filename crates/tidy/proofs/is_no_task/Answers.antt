-- `tidy::is_no_task` meets its contract.
use Rattle.tasks.specs.Content.{no_task, zero_task}
use Rattle.tidy.proofs.is_no_task.Goals as goal

pub returns : goal.returns
unfolding no_task zero_task
returns c = rw c.no_task.ensures at c.eq.ensures
