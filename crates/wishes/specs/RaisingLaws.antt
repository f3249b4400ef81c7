-- The slack on its way from zeros, for the search of a wish sheet's slack.
--     Solving        slack that is compliant with the largest offsets that it leaves, and nowhere above W − C: a solution's
--     Below          what holds of every slack on the way: it is what some amount needs, and no such slack is below it
use Prim.Native.Nat.{ℕ, ◌≤◌, ◌<◌}
use Rattle.std.specs.Prelude.{◌≡◌}
use Rattle.tasks.specs.TaskSet.{TaskSet, needed}
use Rattle.wishes.specs.Wish.{room}
use Rattle.wishes.specs.WishLaws.{Kept}

pub record Solving (s : TaskSet) (v : ℕ → ℕ) : Type 0 where
  pub kept : Kept s v
  pub within : (i : ℕ) → i < s.count → v i ≤ room (s.task i)

pub record Below (s : TaskSet) (x : ℕ → ℕ) : Type 0 where
  pub of : (a : ℕ) × ((k : ℕ) → k < s.count → x k ≡ needed s a k)
  pub least : (v : ℕ → ℕ) → Solving s v → (k : ℕ) → k < s.count → x k ≤ v k
