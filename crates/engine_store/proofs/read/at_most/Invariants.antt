-- `engine_store::read::at_most` meets its contract; the loop's invariant says what its turns so far have made.
use Prim.Native.Nat.{◌+◌}
use mathlib.Core.Bool.{true}
use mathlib.Core.Path.{◌≡◌}
use lib.Dec.{leb}
use Rattle.tasks.specs.TaskSet.{row}
use Rattle.state.specs.SoundState.{all_of}
use Rattle.engine_store.proofs.read.at_most.Given as goal

abbrev pub invariant-loop-i : goal.invariant-loop-i
invariant-loop-i l = all_of (λ j. leb (row l.words (l.at + j)) l.high) l.i ≡ true
