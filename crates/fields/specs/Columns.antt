-- A plan's tasks field by field, and the task set that columns stand for.
--     columns_of    the columns of the first n tasks of a list, 0 beyond
--     set_from      the task set of m cores and n tasks with these columns
use Rattle.std.specs.Prelude.{ℕ, List}
use Rattle.laws.specs.Tab.{tab, cut}
use Rattle.tasks.specs.declared.Task.{Task}
use Rattle.tasks.specs.TaskSet.{TaskSet, plain_task, row}
use Rattle.tasks.specs.Content.{task_of}
use Rattle.fields.specs.declared.columns.Columns.{Columns}

unfoldable pub columns_of : ℕ → List Task → Columns
columns_of n l =
    record {
      separation = tab (cut n (λ i. (task_of l i).separation) 0) 16;
      budget = tab (cut n (λ i. (task_of l i).budget) 0) 16;
      offset = tab (cut n (λ i. (task_of l i).offset) 0) 16;
    }

unfoldable pub set_from : ℕ → ℕ → List ℕ → List ℕ → List ℕ → TaskSet
set_from m n separation budget offset =
    record {
      cores = m;
      count = n;
      task = λ i. plain_task (row separation i) (row budget i) (row offset i);
    }
