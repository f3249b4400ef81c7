-- Many turns of the wish search in one: where A rises evenly with the slack.
--     Climbs         tasks whose share A gains with each tick of their slack: it rises, and it is counted or its offset is cut
use Prim.Native.Nat.{ℕ, ◌+◌, ◌≤◌, ◌<◌}
use Rattle.std.specs.Prelude.{◌≡◌, Bool, ◌⊎◌}
use Rattle.std.proofs.Math.Bool.{true}
use Rattle.laws.specs.Member.{member}
use Rattle.tasks.specs.TaskSet.{TaskSet, counted}
use Rattle.wishes.specs.Wish.{room, at_slack}

pub record Climbs (s : TaskSet) (x : ℕ → ℕ) (a : ℕ → Bool) : Type 0 where
  pub rises : (i : ℕ) → i < s.count → a i ≡ true → 1 ≤ x i
  pub gains :
      (i : ℕ) → i < s.count → a i ≡ true
      → (member i (counted (at_slack s x) x) ≡ true) ⊎ (room (s.task i) ≤ x i + (s.task i).separation)
