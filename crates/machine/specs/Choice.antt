-- Heads with an early priority point.
--     early_at s M y i     whether loop i has a head with a priority point of at most y
use Rattle.std.specs.Prelude.{ℕ, Bool}
use Rattle.tasks.specs.TaskSet.{TaskSet}
use Rattle.machine.specs.Machine.{Machine}
use Rattle.machine.specs.Owed.{early}

module _ (s : TaskSet) (M : Machine) where
  unfoldable pub early_at : ℕ → ℕ → Bool
  early_at y i = early (s.task i).offset y (M.lane i).queue
