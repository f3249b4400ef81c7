-- What the search for a wish sheet's slack keeps: tasks within the limits at every slack, and slack that is compliant with the largest
-- offsets that it leaves.
--     Within                         at every slack the tasks are within the limits
--     Kept                           slack that is compliant with the largest offsets that it leaves
use Prim.Native.Nat.{ℕ}
use Rattle.tasks.specs.TaskSet.{TaskSet, Compliant}
use Rattle.tasks.specs.Limits.{Limits}
use Rattle.wishes.specs.Wish.{at_slack}

-- "compliant", with the largest offsets that the slack leaves
unfoldable pub Kept : TaskSet → (ℕ → ℕ) → Type 0
Kept s x = Compliant (at_slack s x) x

abbrev pub Within : TaskSet → Type 0
Within s = (x : ℕ → ℕ) → Limits (at_slack s x)
