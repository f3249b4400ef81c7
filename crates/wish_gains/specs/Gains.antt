-- What A gains with each tick of the tasks' slack.
--     Gain      0, or a task's share where its slack is not 0 and its offset is cut
--     Gains     the same of every task, or it is among these names
use Rattle.std.specs.Prelude.{ℕ, ◌+◌, ◌≤◌, ◌<◌, ◌≡◌, true, List, ◌⊎◌}
use Rattle.laws.specs.Member.{member}
use Rattle.tasks.specs.TaskSet.{row}

abbrev pub Gain : ℕ → ℕ → ℕ → ℕ → ℕ → Type 0
Gain share separation room slack r = (r ≡ 0) ⊎ ((r ≡ share) × (1 ≤ slack) × (room ≤ slack + separation))

abbrev pub Gains : List ℕ → List ℕ → List ℕ → List ℕ → List ℕ → ℕ → List ℕ → Type 0
Gains share separation room slack names n gain =
    (i : ℕ) → i < n
    → (row gain i ≡ 0)
    ⊎ ((row gain i ≡ row share i)
    × (1 ≤ row slack i)
    × ((member i names ≡ true) ⊎ (row room i ≤ row slack i + row separation i)))
