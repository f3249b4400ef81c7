-- `wish_search::solve::solve_tasks` meets its contract.
use Rattle.wish_search.specs.PlanSolvedLaws.{wish_ranges, tasks-refused, tasks-solved}
use borrow.Author.Rules.{rules}
use Rattle.wish_search.proofs.solve.solve_tasks.Goals as goal

pub returns-in_err-wish_ranges : goal.returns-in_err-wish_ranges
returns-in_err-wish_ranges c =
    let s = c in
    tasks-refused s.args.plan s.args.offers s.requires _ c.wish_ranges.ensures c.from_residual.result _ c.in_err-wish_ranges.was (search rules)

pub solve-requires : goal.solve-requires
solve-requires c =
    let s = c in
    (s.requires, wish_ranges s.args.plan s.args.offers s.requires _ c.wish_ranges.ensures _ c.split-columns.ensures c.in_ok-wish_ranges.was)

pub returns : goal.returns
returns c =
    let s = c in
    tasks-solved s.args.plan s.args.offers s.requires _ c.wish_ranges.ensures _ c.split-columns.ensures c.in_ok-wish_ranges.was _ c.solve.ensures
