-- The claims written out in numbers of the table, and from the other side: what a claim has to say at least. A claim that is weakened does not
-- give them.
--     promised          Y + x + C, or C where loops are no more than cores
--     Conditions        the four conditions of an entry, with its distance to every taken one of its loop before it
use Rattle.std.specs.Prelude.{ℕ, ◌+◌, ◌≤◌, ◌<◌, cond, ◌≡◌, List, leb}
use Rattle.tasks.specs.TaskSet.{TaskSet}
use Rattle.history.specs.Engine.{Engine}
use Rattle.history.specs.Log.{Entry, tick_at, loop_at, demand_at, Taken}

-- "every taken release finishes within offset + slack + budget"; of no more loops than cores, "now within the budget alone"
abbrev pub promised : TaskSet → (ℕ → ℕ) → ℕ → ℕ
promised s x i = cond (leb s.count s.cores) (s.task i).budget ((s.task i).offset + x i + (s.task i).budget)

pub record Conditions (E : Engine) (s : TaskSet) (l : List Entry) (e : ℕ) : Type 0 where
  pub onward : (j : ℕ) → j < e → tick_at l j ≤ tick_at l e
  pub in_table : loop_at l e < s.count
  pub demand-low : 1 ≤ demand_at l e
  pub demand-high : demand_at l e ≤ (s.task (loop_at l e)).budget
  pub apart :
      (j : ℕ) → j < e → loop_at l j ≡ loop_at l e → Taken E l j → tick_at l j + (s.task (loop_at l e)).separation ≤ tick_at l e
