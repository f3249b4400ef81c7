-- Task sets of the documents, machines with releases of their loops, and what is seen of these tick by tick.
--     p3 y              P3's loops, the third with offset y; P3 has 0 there
--     all_released       all three released at tick 0 with full budgets
--     watch             what runs on the two cores, and who finishes, tick by tick
--     p2                P2's loops
--     p2_released       loop 1's job released at 0 and loop 0's at 5, at tick 5
--     pair, no_slack, pair_released      P3's first and third loop on its two cores, with no slack; both released
use Rattle.std.specs.Prelude.{ℕ, zero, suc, List, [], ◌∷◌}
use Rattle.laws.specs.Tab.{tab}
use Rattle.tasks.specs.TaskSet.{TaskSet, plain_task as loop, row}
use Rattle.tasks.specs.Content.{task_of}
use Rattle.machine.specs.Machine.{Machine, opened, admitted, on_core, runs, tick, responses}

unfoldable pub p3 : ℕ → TaskSet
p3 y = record { cores = 2; count = 3; task = task_of (loop 2 1 2 ∷ loop 2 1 2 ∷ loop 3 3 y ∷ []) }

abbrev pub p3-slack : ℕ → ℕ
p3-slack = row (2 ∷ 2 ∷ 1 ∷ [])

unfoldable pub all_released : Machine
all_released = admitted 2 3 (admitted 1 1 (admitted 0 1 opened))

unfoldable pub watch : TaskSet → ℕ → Machine → List (List ℕ × List ℕ)
watch s zero M = []
watch s (suc k) M = (tab (on_core s M) 2, tab (responses (runs s M) M) s.count) ∷ watch s k (tick s M)

unfoldable pub p2 : TaskSet
p2 = record { cores = 2; count = 3; task = task_of (loop 10 9 5 ∷ loop 10 9 10 ∷ loop 100 20 90 ∷ []) }

unfoldable pub p2_released : Machine
p2_released = admitted 0 9 (tick p2 (tick p2 (tick p2 (tick p2 (tick p2 (admitted 1 9 opened))))))

unfoldable pub pair : TaskSet
pair = record { cores = 2; count = 2; task = task_of (loop 2 1 2 ∷ loop 3 3 0 ∷ []) }

abbrev pub no_slack : ℕ → ℕ
no_slack = row []

unfoldable pub pair_released : Machine
pair_released = admitted 1 3 (admitted 0 1 opened)
