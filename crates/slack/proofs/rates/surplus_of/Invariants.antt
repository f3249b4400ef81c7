use Rattle.laws.specs.Sum.{sum}
use Rattle.tasks.specs.TaskSet.{row}
use Prim.Native.Nat.{◌≤◌, ◌*◌, ◌-◌}
use mathlib.Core.Path.{◌≡◌}
use Rattle.slack.proofs.rates.surplus_of.Given as goal

abbrev pub invariant-loop-i : goal.invariant-loop-i
invariant-loop-i l = (l.all ≡ sum (λ k. row l.share k * (row l.separation k - row l.offset k)) l.i) × (l.all ≤ l.i * 100000000000)
