-- `table::verdict::refused` meets its contract.
use Rattle.laws.specs.Tab.{tab}
use Rattle.tasks.specs.TaskSet.{row}
use Rattle.table.specs.Judged.{refused_with}
use Rattle.table.proofs.verdict.refused.Goals as goal

pub returns : goal.returns
unfolding refused_with tab row
returns c = rw c.no_plan-plan.ensures
