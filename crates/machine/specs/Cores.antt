-- On which cores a loop runs.
--     Busy s M k        a loop runs on the core with the k-th lowest label
use Rattle.std.specs.Prelude.{ℕ, ◌<◌}
use Rattle.tasks.specs.TaskSet.{TaskSet}
use Rattle.machine.specs.Machine.{Machine, on_core}

module _ (s : TaskSet) (M : Machine) where
  abbrev pub Busy : ℕ → Type 0
  Busy k = on_core s M k < s.count
