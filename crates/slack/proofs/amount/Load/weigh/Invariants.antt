use Rattle.laws.specs.Tab.{tab, cut}
use Rattle.slack.specs.Weights.{weight_row}
use Prim.Native.Nat.{ℕ, ◌≤◌, ◌<◌}
use mathlib.Core.Path.{◌≡◌}
use Rattle.slack.proofs.amount.Load.weigh.Given as goal

abbrev pub invariant-loop-i : goal.invariant-loop-i
invariant-loop-i l = (l.i ≤ l.self.tasks)
    × (l.weight ≡ tab (cut l.i (weight_row l.self.share.now l.self.offset.now l.slack) 0) 16)
    × ((j : ℕ) → j < l.i → weight_row l.self.share.now l.self.offset.now l.slack j ≤ 8589934592000000)
