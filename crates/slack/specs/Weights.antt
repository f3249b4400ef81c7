-- The weights as the code works them out, from arrays.
--     weight_row    share × (x + Y)
--     Few          what the shares keep to, so that no sum wraps
--     Weighed      the array of the weights, and the limit of each
--     Amounts      the largest of the weights and a surplus as a sum, and the names of these tasks
use Rattle.std.specs.Prelude.{ℕ, ◌+◌, ◌*◌, ◌≤◌, ◌<◌, ◌≡◌, List, take}
use Rattle.laws.specs.Sum.{sum_over}
use Rattle.laws.specs.Rank.{largest}
use Rattle.laws.specs.Tab.{tab, cut}
use Rattle.tasks.specs.TaskSet.{row}
use Rattle.largest.specs.Chosen.{Arranged}

unfoldable pub weight_row : List ℕ → List ℕ → List ℕ → ℕ → ℕ
weight_row share offset slack i = row share i * (row slack i + row offset i)

pub record Few (share : List ℕ) (tasks : ℕ) : Type 0 where
  pub sixteen : tasks ≤ 16
  pub million : (i : ℕ) → i < tasks → row share i ≤ 1000000

pub record Weighed (w : ℕ → ℕ) (tasks : ℕ) (weight : List ℕ) : Type 0 where
  pub places : weight ≡ tab (cut tasks w 0) 16
  pub limit : (i : ℕ) → i < tasks → w i ≤ 8589934592000000

pub record Amounts (w : ℕ → ℕ) (many tasks surplus : ℕ) (left : List ℕ) (r : ℕ) : Type 0 where
  pub whole : r ≡ sum_over w (largest many w tasks) + surplus
  pub names : take many left ≡ largest many w tasks
  pub again : Arranged left tasks
