-- `engine_store::read::flags` meets its contract; the loop's invariant says what its turns so far have made.
use lib.Dec.{eqb}
use mathlib.Core.Bool.{false}
use Rattle.laws.specs.Tab.{tab, cut}
use Rattle.tasks.specs.TaskSet.{row}
use Prim.Native.Nat.{◌+◌}
use mathlib.Core.Path.{◌≡◌}
use Rattle.engine_store.proofs.read.flags.Given as goal

abbrev pub invariant-loop-i : goal.invariant-loop-i
invariant-loop-i l = l.flags ≡ tab (cut l.i (λ j. eqb (row l.words (109 + j)) 1) false) 16
