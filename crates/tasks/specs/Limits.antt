-- What a task set that meets none of 3 and 5 to 10 has, and a plan that meets none of 12 and 13.
--     Limits      the limits of the cores and tasks
--     Enough      slack is compliant where loops are more than cores; where they are no more, none is needed
--     Bounded     every bound is at most 16 × T
use Rattle.std.specs.Prelude.{ℕ, ◌*◌, ◌≤◌, ◌<◌, false, ◌≡◌}
use Rattle.laws.specs.Sum.{sum}
use Rattle.tasks.specs.TaskSet.{TaskSet, hyperperiod, share, Compliant, core_for_each, bound}

pub record Limits (s : TaskSet) : Type 0 where
  pub cores-low : 2 ≤ s.cores
  pub cores-high : s.cores ≤ 8
  pub tasks-low : 1 ≤ s.count
  pub tasks-high : s.count ≤ 16
  pub separation-low : (i : ℕ) → i < s.count → 1 ≤ (s.task i).separation
  pub separation-high : (i : ℕ) → i < s.count → (s.task i).separation ≤ 100000
  pub budget-low : (i : ℕ) → i < s.count → 1 ≤ (s.task i).budget
  pub budget-high : (i : ℕ) → i < s.count → (s.task i).budget ≤ (s.task i).separation
  pub offset-high : (i : ℕ) → i < s.count → (s.task i).offset ≤ (s.task i).separation
  pub multiple-high : hyperperiod s ≤ 1000000
  pub shares_high : sum (share s) s.count ≤ s.cores * hyperperiod s

-- where loops are no more than cores nobody waits for a core, whatever the slack
abbrev pub Enough : TaskSet → (ℕ → ℕ) → Type 0
Enough s x = core_for_each s.cores s.count ≡ false → Compliant s x

unfoldable pub Bounded : TaskSet → (ℕ → ℕ) → Type 0
Bounded s x = (i : ℕ) → i < s.count → bound s x i ≤ 16 * (s.task i).separation
