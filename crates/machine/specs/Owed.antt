-- One loop's potential: the work that it owes by a threshold y, times H, and a straight line for what it may still release. T, C, Y are the
-- loop's separation, budget and offset, x its slack, U its share, H the least common multiple of all T and nxt its next release.
--     early Y y q           whether the head has a priority point of at most y
--     owed H Y y q          H × the work left of the jobs with a priority point of at most y
--     line U T Y y nxt      the share of the ticks from nxt to y + T − Y
use Prim.Native.Nat.{ℕ, ◌+◌, ◌-◌, ◌*◌}
use Rattle.std.specs.Prelude.{Bool}
use Rattle.std.proofs.Math.Bool.{false, cond}
use mathlib.Core.List.{List, [], ◌∷◌}
use Rattle.std.proofs.Math.Dec.{leb}
use Rattle.machine.specs.Machine.{Job, job}

abbrev pub early : ℕ → ℕ → List Job → Bool
early Y y [] = false
early Y y (job a w ∷ q) = leb (a + Y) y

abbrev pub owed : ℕ → ℕ → ℕ → List Job → ℕ
owed H Y y [] = 0
owed H Y y (job a w ∷ q) = cond (leb (a + Y) y) (H * w) 0 + owed H Y y q

abbrev pub line : ℕ → ℕ → ℕ → ℕ → ℕ → ℕ
line U T Y y nxt = U * (y + (T - Y) - nxt)
