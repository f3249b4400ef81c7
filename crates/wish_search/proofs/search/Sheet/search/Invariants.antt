-- No solution's slack is below the slack on its way; the names can be handed to the choice again.
use lib.ListN.{length}
use mathlib.Core.Path.{◌≡◌}
use Prim.Native.Nat.{ℕ, ◌+◌, ◌-◌, ◌≤◌}
use Rattle.laws.specs.Sum.{sum}
use Rattle.largest.specs.Chosen.{Arranged}
use Rattle.tasks.specs.TaskSet.{TaskSet, row}
use Rattle.wishes.specs.RaisingLaws.{Below}
use Rattle.wish_search.specs.Sheets.{SheetFor}
use Rattle.wish_search.proofs.search.Sheet.search.Given as goal

abbrev pub invariant-loop-divided : goal.invariant-loop-divided
invariant-loop-divided l = (length l.slack ≡ 16)
    × ((k : ℕ) → l.self.tasks ≤ k → row l.slack k ≡ 0)
    × Arranged l.names l.self.tasks
    × ((s : TaskSet) → SheetFor s l.self l.budget → Below s (row l.slack))

abbrev pub decreases-loop-divided : goal.decreases-loop-divided
decreases-loop-divided l = sum (row l.self.room.now) l.self.tasks + 1 - sum (row l.slack) l.self.tasks
