-- `engine_store::put::put_numbers` meets its contract; the loop's invariant says what its turns so far have made.
use mathlib.Core.Path.{◌≡◌}
use lib.Seq.{sets}
use Rattle.laws.specs.Tab.{tab}
use Rattle.tasks.specs.TaskSet.{row}
use Rattle.engine_store.proofs.put.put_numbers.Given as goal

abbrev pub invariant-loop-i : goal.invariant-loop-i
invariant-loop-i g l = l.words ≡ sets l.initial.words l.at (tab (row l.numbers) l.i)
