-- `converter::convert_tasks` meets its contract: the array is filled in order.
use mathlib.Core.Path.{◌≡◌}
use Rattle.laws.specs.Tab.{tab, cut}
use Rattle.tasks.specs.Content.{no_task, task_of}
use Rattle.conversion.specs.Converted.{converted_task}
use Rattle.converter.proofs.convert_tasks.Given as goal

abbrev pub invariant-loop-i : goal.invariant-loop-i
invariant-loop-i l = l.out ≡ tab (cut l.i (λ j. converted_task l.edition (task_of l.task j)) no_task) 16
