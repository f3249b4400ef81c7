-- `sections::put_plan` meets its contract: the edition byte and the three sections, one behind the other.
use Prim.Native.Nat.{ℕ}
use native.Mathlib.Omega.{arith}
use mathlib.Core.Path.{sym, ◌∙◌}
use lib.ListN.{length-set}
use Rattle.codec.specs.TaskLaws.{size_times}
use Rattle.sections.specs.WriteLaws.{length-plan, plan_written}
use Rattle.sections.proofs.put_plan.Goals as goal

pub bounds-out-0 : goal.bounds-out-0
bounds-out-0 c = omega (arith, length-plan c.args.plan)

pub put_labels-requires : goal.put_labels-requires
put_labels-requires c =
    let a = c.args in
    omega (arith, length-plan a.plan, length-set {A = ℕ})

pub put_tasks-requires : goal.put_tasks-requires
put_tasks-requires c =
    let a = c.args in
    omega (
      arith,
      length-plan a.plan,
      length-set {A = ℕ},
      c.put_labels.auto.out,
      c.tasks_from.ensures,
    )

pub slack_from-requires : goal.slack_from-requires
slack_from-requires c =
    omega (arith, size_times c.args.plan.edition c.args.plan.tasks, c.requires)

pub put_slack-requires : goal.put_slack-requires
put_slack-requires c =
    let a = c.args in
    omega (
      arith,
      length-plan a.plan,
      c.slack_count-count.ensures.0,
      c.slack_count-count.ensures.1,
      c.requires,
      length-set {A = ℕ},
      c.put_labels.auto.out,
      c.put_tasks.auto.out,
      c.slack_from.ensures,
    )

pub table_length-requires : goal.table_length-requires
table_length-requires c =
    omega (arith, size_times c.args.plan.edition c.args.plan.tasks, c.slack_count-count.ensures.1, c.requires)

pub returns : goal.returns
returns c =
    let a = c.args in
    let x = c.slack_count-count.ensures.0 in (
      c.table_length.ensures ∙ rw x (sym (length-plan a.plan)),
      plan_written a.plan a.out.now _ _ _ _ x c.requires.2
          c.put_labels.ensures
          (c.put_tasks.ensures ∙ rw c.tasks_from.ensures)
          (c.put_slack.ensures ∙ rw c.slack_from.ensures),
    )
