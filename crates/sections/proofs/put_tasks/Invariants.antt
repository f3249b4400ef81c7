-- `sections::put_tasks` meets its contract. The loop's invariant: the first i entries are stored behind the count.
use mathlib.Core.Path.{◌≡◌}
use lib.Seq.{sets}
use Rattle.tasks.specs.Content.{task_of}
use Rattle.numbers.specs.Bytes.{entries}
use Rattle.codec.specs.Table.{task_bytes}
use Rattle.sections.proofs.put_tasks.Given as goal

abbrev pub invariant-loop-i : goal.invariant-loop-i
invariant-loop-i l = l.out ≡ sets l.initial.out l.from (entries (λ j. task_bytes l.edition (task_of l.task j)) l.i)
