-- `converter::test_way` meets its contract: 29 and 30 by where the scan ended.
use native.Mathlib.Omega.{arith}
use mathlib.Core.Path.{sym, ◌∙◌}
use Rattle.tasks.specs.Content.{task_of}
use Rattle.laws.specs.FirstLaws.{first_le}
use Rattle.converter.specs.ConverterLaws.{unfit, way_none, way_met}
use Rattle.converter.proofs.test_way.Goals as goal

pub returns-then-at-tasks : goal.returns-then-at-tasks
returns-then-at-tasks c =
    let a = c.args in
    sym (way_none a.edition a.tasks (task_of a.task) (sym c.first_unfit-at.ensures ∙ c.if-at-tasks.true))

pub overflow_cast-index : goal.overflow_cast-index
overflow_cast-index c =
    let a = c.args in
    omega (arith, c.first_unfit-at.ensures, first_le (unfit a.edition a.tasks (task_of a.task)) a.tasks)

pub returns-then-has_deadlines : goal.returns-then-has_deadlines
returns-then-has_deadlines c =
    let a = c.args in
    let f = c.first_unfit-at in
    rw c.at.ensures (sym (rw (sym c.has_deadlines.ensures ∙ c.if-has_deadlines.true) at (way_met a.edition a.tasks (task_of a.task) _ (sym f.ensures) c.if-at-tasks.false)))

pub returns : goal.returns
returns c =
    let a = c.args in
    let f = c.first_unfit-at in
    rw c.at-2.ensures (sym (rw (sym c.has_deadlines.ensures ∙ c.if-has_deadlines.false) at (way_met a.edition a.tasks (task_of a.task) _ (sym f.ensures) c.if-at-tasks.false)))
