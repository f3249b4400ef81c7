-- Each turn of the loop looks at one more number.
use Prim.Native.Nat.{ℕ, ◌+◌, ◌-◌, ◌≤◌, ◌<◌}
use mathlib.Core.List.{List}
use Rattle.largest.specs.Chosen.{Arranged}
use Rattle.tasks.specs.TaskSet.{TaskSet}
use Rattle.wish_search.specs.Sheets.{SheetForWith}
use Rattle.wish_search.specs.Leaps.{Far}
use Rattle.wish_search.proofs.search.Sheet.leap.Given as goal

abbrev pub invariant-loop-from : goal.invariant-loop-from
invariant-loop-from l = (l.best ≤ 12000000)
    × (l.start ≤ l.best)
    × Arranged l.names l.self.tasks
    × ((s : TaskSet) (b : List ℕ) → SheetForWith s l.self b l.divided
    → (k : ℕ)
    → k < l.from - l.start
    → Far s (l.start + k) l.best)
