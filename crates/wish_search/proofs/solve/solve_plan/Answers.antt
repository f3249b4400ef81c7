-- `wish_search::solve::solve_plan` meets its contract.
use mathlib.Core.Bool.{true}
use mathlib.Core.Path.{sym, ◌∙◌}
use Rattle.slack.specs.StageLaws.{frame-passed}
use Rattle.wish_search.specs.PlanSolvedLaws.{plan-refused, plan-solved}
use borrow.Author.Rules.{rules}
use Rattle.wish_search.proofs.solve.solve_plan.Goals as goal

pub returns-in_err-frame : goal.returns-in_err-frame
returns-in_err-frame c =
    let s = c in
    plan-refused s.args.plan s.args.offers _ c.frame.ensures c.from_residual.result _ c.in_err-frame.was (search rules)

pub returns : goal.returns
returns c =
    let s = c in
    plan-solved s.args.plan s.args.offers _ c.frame.ensures _ c.in_ok-frame.was c.solve_tasks.ensures

pub solve_tasks-requires : goal.solve_tasks-requires
solve_tasks-requires c = frame-passed true _ _ _ (sym c.frame.ensures ∙ c.in_ok-frame.was)
