use Rattle.laws.specs.Sum.{sum}
use Rattle.tasks.specs.TaskSet.{row}
use Prim.Native.Nat.{◌≤◌, ◌*◌}
use mathlib.Core.Path.{◌≡◌}
use Rattle.slack.proofs.rates.total.Given as goal

abbrev pub invariant-loop-x : goal.invariant-loop-x
invariant-loop-x l = (l.all ≡ sum (row l.share) l.x-index) × (l.all ≤ l.x-index * 1000000)
