-- `tidy::no_plan` meets its contract, by the definition of a plan of zeros.
use Rattle.tasks.specs.Content.{zero_plan}
use Rattle.tidy.proofs.no_plan.Goals as goal

pub returns : goal.returns
unfolding zero_plan
returns c = rw c.no_task.ensures
