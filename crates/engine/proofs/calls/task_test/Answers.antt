-- `engine::calls::task_test` meets its contract.
use Rattle.state.proofs.CallLaws.{admit_none, admit_some}
use Rattle.state.specs.State.{flag_at}
use Rattle.tasks.specs.Content.{task_of, no_task}
use Rattle.tasks.specs.TaskSet.{row}
use mathlib.Core.Path.{sym, ◌∙◌}
use Rattle.engine.proofs.calls.task_test.Goals as goal

pub returns-then-state-task : goal.returns-then-state-task
returns-then-state-task c =
    let x = c.args in
    rw c.at.ensures (sym (admit_none x.state.now x.task x.demand c.if-state-task.true))

pub returns : goal.returns
unfolding task_of no_task row flag_at
returns c =
    let x = c.args in
    c.admission_test.ensures ∙ sym (admit_some x.state.now x.task x.demand c.if-state-task.false)
