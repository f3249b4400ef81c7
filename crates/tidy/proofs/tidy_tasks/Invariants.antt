-- `tidy::tidy_tasks` meets its contract; the loop's invariant says what its turns so far have made.
use Rattle.tasks.specs.Content.{in_edition, no_task, task_of}
use Rattle.laws.specs.Tab.{tab, cut}
use mathlib.Core.Path.{◌≡◌}
use Rattle.tidy.proofs.tidy_tasks.Given as goal

abbrev pub invariant-loop-i : goal.invariant-loop-i
invariant-loop-i l = l.out ≡ tab (cut l.i (λ j. in_edition l.edition (task_of l.task j)) no_task) 16
