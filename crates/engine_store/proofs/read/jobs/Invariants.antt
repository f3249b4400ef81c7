-- `engine_store::read::jobs` meets its contract; the loop's invariant says what its turns so far have made.
use Rattle.laws.specs.Tab.{tab, cut}
use Rattle.tasks.specs.TaskSet.{row}
use Prim.Native.Nat.{◌+◌}
use mathlib.Core.Path.{◌≡◌}
use Rattle.engine_store.proofs.read.jobs.Given as goal

abbrev pub invariant-loop-i : goal.invariant-loop-i
invariant-loop-i l = l.jobs ≡ tab (cut l.i (λ j. row l.words (93 + j)) 0) 16
