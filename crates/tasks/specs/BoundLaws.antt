-- The bound of a loop, by whether loops are no more than cores.
--     bound-each     where they are no more it is the budget
--     bound-more     where they are more it is Y + x + C
use Rattle.std.specs.Prelude.{ℕ, true, false, ◌≡◌}
use Rattle.tasks.specs.TaskSet.{TaskSet, core_for_each, bound_of, bound}

module _ (s : TaskSet) (x : ℕ → ℕ) where
  pub bound-each : core_for_each s.cores s.count ≡ true → (i : ℕ) → bound s x i ≡ (s.task i).budget
  unfolding bound
  bound-each each i = rw each

  pub bound-more : core_for_each s.cores s.count ≡ false → (i : ℕ) → bound s x i ≡ bound_of (s.task i) (x i)
  unfolding bound
  bound-more more i = rw more
