-- `clauses::tasks_zero` meets its contract; the loop's invariant says what its turns so far have made.
use Rattle.clauses.specs.SoundTests.{task_zero, all_more, all_fails}
use Rattle.state.specs.SoundState.{all_of}
use Rattle.tasks.specs.Content.{task_of, no_task}
use Rattle.tasks.specs.TaskSet.{row}
use native.Mathlib.Omega.{arith}
use mathlib.Core.Path.{refl, sym, ◌∙◌}
use Rattle.clauses.proofs.tasks_zero.Goals as goal

pub loop-i-init : goal.loop-i-init
unfolding all_of
loop-i-init c = refl

pub returns-then-not-task_zero : goal.returns-then-not-task_zero
unfolding task_zero task_of no_task row
returns-then-not-task_zero c =
    let p = c.args.plan.now in
    sym
    (all_fails (task_zero p.edition p.tasks p.task p.slack) 16 c.loop-i.i (omega arith)
    (rw (sym c.task_zero.ensures ∙ c.if-not-task_zero.true)))

pub returns-then-not-deadline_zero : goal.returns-then-not-deadline_zero
unfolding task_zero task_of no_task row
returns-then-not-deadline_zero c =
    let p = c.args.plan.now in
    sym
    (all_fails (task_zero p.edition p.tasks p.task p.slack) 16 c.loop-i.i (omega arith)
    (rw (
      sym c.task_zero.ensures ∙ c.if-not-task_zero.false,
      sym c.deadline_zero.ensures ∙ c.if-not-deadline_zero.true,
    )))

pub loop-i-preserved : goal.loop-i-preserved
unfolding task_zero task_of no_task row
loop-i-preserved c =
    let l = c.loop-i in
    all_more _ l.i l.invariant
    (rw (
      sym c.task_zero.ensures ∙ c.if-not-task_zero.false,
      sym c.deadline_zero.ensures ∙ c.if-not-deadline_zero.false,
    ))
