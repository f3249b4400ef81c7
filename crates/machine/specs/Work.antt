-- The work that is left, which a taken release adds to and a tick takes from: the ticks in which a loop runs are the ticks of its demands.
--     work q               the ticks of work left in a queue
--     work_in s M           the ticks of work left in all queues
use Rattle.std.specs.Prelude.{ℕ, ◌+◌, List, [], ◌∷◌}
use Rattle.laws.specs.Sum.{sum}
use Rattle.tasks.specs.TaskSet.{TaskSet}
use Rattle.machine.specs.Machine.{Job, remaining, Machine}

abbrev pub work : List Job → ℕ
work [] = 0
work (j ∷ q) = remaining j + work q

unfoldable pub work_in : TaskSet → Machine → ℕ
work_in s M = sum (λ i. work (M.lane i).queue) s.count
