-- `clauses::tasks_zero` meets its contract; the loop's invariant says what its turns so far have made.
use Rattle.clauses.specs.SoundTests.{task_zero}
use Rattle.state.specs.SoundState.{all_of}
use mathlib.Core.Bool.{true}
use mathlib.Core.Path.{◌≡◌}
use Rattle.clauses.proofs.tasks_zero.Given as goal

abbrev pub invariant-loop-i : goal.invariant-loop-i
invariant-loop-i l = all_of (task_zero l.plan.edition l.plan.tasks l.plan.task l.plan.slack) l.i ≡ true
