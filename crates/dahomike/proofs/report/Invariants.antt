-- `dahomike::report` meets its contract.
use lib.Seq.{sets}
use Rattle.tasks.specs.TaskSet.{bound_by, row}
use Rattle.tasks.specs.Content.{task_of}
use Rattle.numbers.specs.Bytes.{entries}
use Rattle.dahomike.specs.Answers.{entry_bytes}
use mathlib.Core.Path.{◌≡◌}
use Rattle.dahomike.proofs.report.Given as goal

abbrev pub invariant-loop-i : goal.invariant-loop-i
invariant-loop-i l =
    l.out
    ≡ sets l.initial.out 0
    (entries (λ j. entry_bytes l.wishes (task_of l.task j).offset (row l.slack j) (bound_by l.each (task_of l.task j) (row l.slack j))) l.i)
