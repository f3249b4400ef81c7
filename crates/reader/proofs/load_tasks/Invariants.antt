-- `reader::load_tasks` meets its contract. The loop's invariant: the array is filled up to i, and holds zeros after it.
use Prim.Native.Nat.{◌+◌, ◌*◌}
use mathlib.Core.Path.{◌≡◌}
use Rattle.laws.specs.Tab.{tab, cut}
use Rattle.tasks.specs.Content.{no_task}
use Rattle.codec.specs.Table.{task_size, task_in}
use Rattle.reader.proofs.load_tasks.Given as goal

abbrev pub invariant-loop-i : goal.invariant-loop-i
invariant-loop-i l = l.tasks ≡ tab (cut l.i (λ j. task_in l.edition l.t (l.from + task_size l.edition * j)) no_task) 16
