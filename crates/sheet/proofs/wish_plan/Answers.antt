-- `sheet::wish_plan` meets its contract.
use Rattle.sheet.specs.WishedLaws.{few, plan-refused, plan-found}
use borrow.Author.Rules.{rules}
use Rattle.sheet.proofs.wish_plan.Goals as goal

pub returns-in_err-solved : goal.returns-in_err-solved
returns-in_err-solved c =
    plan-refused c.args.plan c.args.offers _ (rw c.in_err-solved.was at c.solve_plan.ensures) c.from_residual.result (search rules)

pub with_offsets-task-requires : goal.with_offsets-task-requires
with_offsets-task-requires c = few c.args.plan c.args.offers _ (rw c.in_ok-solved.was at c.solve_plan.ensures)

pub returns : goal.returns
returns c =
    plan-found c.args.plan c.args.offers _ (rw c.in_ok-solved.was at c.solve_plan.ensures) _ c.with_offsets-task.ensures
