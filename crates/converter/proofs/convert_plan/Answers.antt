-- `converter::convert_plan` meets its contract.
use Rattle.converter.specs.ConverterLaws.{converted_plan}
use Rattle.converter.proofs.convert_plan.Goals as goal

pub returns : goal.returns
unfolding converted_plan
returns c = rw c.convert_tasks-task.ensures
