-- `fields::bounds::bounds` meets its contract.
use Rattle.tasks.specs.TaskSet.{row}
use Rattle.fields.specs.StageLaws.{scan-found, scan-none, bounds-scan}
use mathlib.Core.Path.{sym, ◌∙◌}
use Rattle.fields.proofs.bounds.bounds.Goals as goal

pub returns-then-over-tasks : goal.returns-then-over-tasks
returns-then-over-tasks c =
    let a = c.args in
    rw c.at.ensures (sym (scan-found 13 _ _ _ (rw c.core_for_each.ensures at c.first_over-over.ensures) c.if-over-tasks.true) ∙ bounds-scan a.plan (row _))

pub returns : goal.returns
returns c =
    let a = c.args in
    sym (scan-none 13 _ _ _ (rw c.core_for_each.ensures at c.first_over-over.ensures) c.if-over-tasks.false) ∙ bounds-scan a.plan (row _)
