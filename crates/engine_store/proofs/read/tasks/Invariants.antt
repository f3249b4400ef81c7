-- `engine_store::read::tasks` meets its contract; the loop's invariant says what its turns so far have made.
use Prim.Native.Nat.{◌+◌, ◌*◌}
use mathlib.Core.Path.{◌≡◌}
use Rattle.laws.specs.Tab.{tab, cut}
use Rattle.tasks.specs.Content.{no_task}
use Rattle.engine_words.specs.Words.{task_in}
use Rattle.engine_store.proofs.read.tasks.Given as goal

abbrev pub invariant-loop-i : goal.invariant-loop-i
invariant-loop-i l = l.task ≡ tab (cut l.i (λ j. task_in l.words (12 + 4 * j)) no_task) 16
