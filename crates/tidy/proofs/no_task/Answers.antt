-- `tidy::no_task` meets its contract, by the definition of a task of zeros.
use mathlib.Core.Path.{refl}
use Rattle.tasks.specs.Content.{no_task}
use Rattle.tidy.proofs.no_task.Goals as goal

pub returns : goal.returns
unfolding no_task
returns c = refl
