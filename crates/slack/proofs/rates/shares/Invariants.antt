use Prim.Native.Nat.{◌/◌}
use Rattle.laws.specs.Tab.{tab, cut}
use Rattle.tasks.specs.TaskSet.{row}
use Prim.Native.Nat.{◌*◌}
use mathlib.Core.Path.{◌≡◌}
use Rattle.slack.proofs.rates.shares.Given as goal

abbrev pub invariant-loop-i : goal.invariant-loop-i
invariant-loop-i l = l.share ≡ tab (cut l.i (λ k. row l.budget k * l.multiple / row l.separation k) 0) 16
