-- `fields::bounds::first_over` meets its contract; the invariant says that no task before i meets the test.
use Rattle.tasks.specs.TaskSet.{row, bound_by}
use Rattle.tasks.specs.Content.{task_of}
use Rattle.tasks.specs.Tests.{over_bound}
use Rattle.laws.specs.First.{first}
use mathlib.Core.Path.{◌≡◌}
use Rattle.fields.proofs.bounds.first_over.Given as goal

abbrev pub invariant-loop-i : goal.invariant-loop-i
invariant-loop-i l = first (λ k. over_bound (task_of l.task k) (bound_by l.each (task_of l.task k) (row l.slack k))) l.i ≡ l.i
