use Rattle.tasks.specs.AnswerLaws.{pass_outside}
use Rattle.fields.specs.StageLaws.{outside_low, outside_high, scan-found, scan-none}
use Rattle.tasks.specs.TaskSet.{row}
use Rattle.tasks.specs.Tests.{bad_label, first_met}
use Rattle.fields.specs.Stages.{least_by, frame_test}
use native.Mathlib.Omega.{arith}
use Rattle.fields.proofs.frame.frame.Goals as goal

pub returns-then-cores-lt-CORES_LOW : goal.returns-then-cores-lt-CORES_LOW
unfolding frame_test first_met
returns-then-cores-lt-CORES_LOW c = rw (c.at.ensures, outside_low 2 8 _ c.if-cores-lt-CORES_LOW.true)

pub returns-then-cores-gt-CORES_HIGH : goal.returns-then-cores-gt-CORES_HIGH
unfolding frame_test first_met
returns-then-cores-gt-CORES_HIGH c = rw (c.at-then-cores-gt-CORES_HIGH.ensures, outside_high 2 8 _ c.if-cores-lt-CORES_LOW.false c.if-cores-gt-CORES_HIGH.true)

pub returns-then-bad-cores : goal.returns-then-bad-cores
unfolding frame_test first_met
returns-then-bad-cores c =
    let a = c.args in
    rw (
      c.at-then-bad-cores.ensures,
      pass_outside 2 8 a.cores (omega arith) (omega arith),
      scan-found 4 (bad_label (row a.labels.now)) a.cores _ c.bad_label-bad.ensures c.if-bad-cores.true,
    )

pub returns-then-tasks-least : goal.returns-then-tasks-least
unfolding frame_test first_met
returns-then-tasks-least c =
    let a = c.args in
    let e = c.least.ensures in
    rw (
      c.at-then-tasks-least.ensures,
      pass_outside 2 8 a.cores (omega arith) (omega arith),
      scan-none 4 (bad_label (row a.labels.now)) a.cores _ c.bad_label-bad.ensures c.if-bad-cores.false,
      outside_low (least_by a.wishes a.cores) 16 a.tasks (rw e at c.if-tasks-least.true),
    )

pub returns-then-tasks-gt-TASKS_HIGH : goal.returns-then-tasks-gt-TASKS_HIGH
unfolding frame_test first_met
returns-then-tasks-gt-TASKS_HIGH c =
    let a = c.args in
    let e = c.least.ensures in
    rw (
      c.at-then-tasks-gt-TASKS_HIGH.ensures,
      pass_outside 2 8 a.cores (omega arith) (omega arith),
      scan-none 4 (bad_label (row a.labels.now)) a.cores _ c.bad_label-bad.ensures c.if-bad-cores.false,
      outside_high (least_by a.wishes a.cores) 16 a.tasks (rw e at c.if-tasks-least.false) c.if-tasks-gt-TASKS_HIGH.true,
    )

pub returns : goal.returns
unfolding frame_test first_met
returns c =
    let a = c.args in
    let e = c.least.ensures in
    rw (
      pass_outside 2 8 a.cores (omega arith) (omega arith),
      scan-none 4 (bad_label (row a.labels.now)) a.cores _ c.bad_label-bad.ensures c.if-bad-cores.false,
      pass_outside (least_by a.wishes a.cores) 16 a.tasks (rw e at c.if-tasks-least.false) c.if-tasks-gt-TASKS_HIGH.false,
    )
