-- One loop's queue: its order, and that its head is in time for the loop's bound. T, C are the loop's separation and budget.
--     next T t last          no release of the loop can be taken before this
--     Chain T C nxt r q      q's releases are at r or later and T apart, each job has 1 to C left, and nxt is T or more after the last of them
--     InTime t b q           the head is in time for the bound b, counted from its release
use Prim.Native.Nat.{ℕ, ◌+◌, ◌≤◌, max}
use Rattle.std.proofs.Math.Option.{Option, none, some}
use mathlib.Core.List.{List, [], ◌∷◌}
use Rattle.machine.specs.Machine.{Job, job}

abbrev pub next : ℕ → ℕ → Option ℕ → ℕ
next T t none = t
next T t (some l) = max t (l + T)

module _ (T C : ℕ) where
  abbrev pub Chain : ℕ → ℕ → List Job → Type 0
  Chain nxt r [] = r ≤ nxt
  Chain nxt r (job a w ∷ q) = (r ≤ a) × (1 ≤ w) × (w ≤ C) × Chain nxt (a + T) q

abbrev pub InTime : ℕ → ℕ → List Job → Type 0
InTime t b [] = Unit {0}
InTime t b (job a w ∷ q) = t + w ≤ a + b
