-- What a leap of the wish search says.
--     need_at    what A of a slack needs, the offsets being the largest that it leaves
--     Far       a number that no solution's is below, of those that are `start` and some m's
--     Ahead     of all from `start` on
use Rattle.std.specs.Prelude.{ℕ, ◌+◌, ◌*◌, ◌≤◌, ◌≡◌}
use Rattle.tasks.specs.TaskSet.{TaskSet, hyperperiod, amount}
use Rattle.slack.specs.Arrays.{need}
use Rattle.wishes.specs.Wish.{at_slack}
use Rattle.wishes.specs.RaisingLaws.{Solving}

-- what A of a slack needs
abbrev pub need_at : TaskSet → (ℕ → ℕ) → ℕ
need_at s v = need (amount (at_slack s v) v) (hyperperiod s)

abbrev pub Far : TaskSet → ℕ → ℕ → Type 0
Far s start r = (v : ℕ → ℕ) → Solving s v → (j : ℕ) → need_at s v ≡ start + s.cores * j → r ≤ need_at s v

abbrev pub Ahead : TaskSet → ℕ → ℕ → Type 0
Ahead s start r = (v : ℕ → ℕ) → Solving s v → start ≤ need_at s v → r ≤ need_at s v
