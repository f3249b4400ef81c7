use Prim.Native.Nat.{◌%◌}
use Rattle.laws.specs.Tab.{tab, cut}
use Rattle.tasks.specs.TaskSet.{row}
use mathlib.Core.Path.{◌≡◌}
use Rattle.slack.proofs.vector.remainders.Given as goal

abbrev pub invariant-loop-i : goal.invariant-loop-i
invariant-loop-i l = l.rest ≡ tab (cut l.i (λ k. row l.budget k % l.cores) 0) 16
