-- What a table or a plan says, with its unused places left out, and the plan that keeps it.
--     has_deadlines        whether an edition's tables have deadlines
--     in_edition           a task as an edition has it: without deadlines its deadline is an unused place
--     Content             the edition, cores' labels, tasks, the slack count and the slack
--     counted_of           the loops counted at its slack
--     late_of, late        counted from the priority point or from the deadline, of a bound and of a content's loop
--     content_of           what a plan says
--     plan_of              the plan that keeps a content, zeros in its unused places
--     tidy                a plan with zeros in its unused places
--     no_task, zero_plan    a task and a plan of zeros; zero_task: whether a task is one
--     Same                "two plans are the same if their used entries and that mark agree", and "only if editions agree too"
use Rattle.std.specs.Prelude.{ℕ, ◌-◌, ◌<◌, ◌≡◌, Bool, false, cond, not, ◌&&◌, List, [], get_or, replicate, eqb}
use Rattle.laws.specs.Tab.{tab, cut}
use Rattle.tasks.specs.declared.Task.{Task}
use Rattle.tasks.specs.declared.Plan.{Plan}
use Rattle.tasks.specs.TaskSet.{TaskSet, counted, core_for_each, bound, row}

-- "Edition 2 carries deadlines."
abbrev pub has_deadlines : ℕ → Bool
has_deadlines e = eqb e 2

-- "The loop record gains the deadline, an unused place in edition 1"
abbrev pub in_edition : ℕ → Task → Task
in_edition e t =
    record { separation = t.separation; budget = t.budget; offset = t.offset; deadline = cond (has_deadlines e) t.deadline 0 }

pub record Content : Type 0 where
  pub edition : ℕ
  pub tasks : TaskSet
  pub label : ℕ → ℕ
  -- the slack section's count: 0 where slack is found
  pub offers : ℕ
  pub slack : ℕ → ℕ

-- "A judgement hands the names back beside the plan, by the weights at its slack, offered or found alike"; where loops are no more than cores it
-- "names no loop"
unfoldable pub counted_of : Content → List ℕ
counted_of c = cond (core_for_each c.tasks.cores c.tasks.count) [] (counted c.tasks c.slack)

-- of a task with bound b: "the larger of 0 and bound minus offset, or minus deadline in edition 2", a difference of natural numbers. Where loops
-- are more than cores the first is "x + C, counted from the priority point".
unfoldable pub late_of : ℕ → Task → ℕ → ℕ
late_of e t b = b - cond (has_deadlines e) t.deadline t.offset

unfoldable pub late : Content → ℕ → ℕ
late c i = late_of c.edition (c.tasks.task i) (bound c.tasks c.slack i)

unfoldable pub no_task : Task
no_task = record { separation = 0; budget = 0; offset = 0; deadline = 0 }

-- whether a task is that one
unfoldable pub zero_task : Task → Bool
zero_task t = eqb t.separation 0 && (eqb t.budget 0 && (eqb t.offset 0 && eqb t.deadline 0))

unfoldable pub zero_plan : Plan
zero_plan =
    record {
      edition = 0;
      offered = false;
      cores = 0;
      tasks = 0;
      labels = replicate 8 0;
      task = replicate 16 no_task;
      slack = replicate 16 0;
    }

unfoldable pub task_of : List Task → ℕ → Task
task_of l i = get_or l i no_task

-- a plan has one slack entry for each loop, so its count is n where it is marked as offered: it meets 11 where loops are no more than cores
unfoldable pub content_of : Plan → Content
content_of p =
    record {
      edition = p.edition;
      tasks =
          record {
            cores = p.cores;
            count = p.tasks;
            task = cut p.tasks (λ i. in_edition p.edition (task_of p.task i)) no_task;
          };
      label = cut p.cores (row p.labels) 0;
      offers = cond p.offered p.tasks 0;
      slack = cut p.tasks (row p.slack) 0;
    }

unfoldable pub plan_of : Content → Plan
plan_of c =
    record {
      edition = c.edition;
      offered = not (eqb c.offers 0);
      cores = c.tasks.cores;
      tasks = c.tasks.count;
      labels = tab c.label 8;
      task = tab c.tasks.task 16;
      slack = tab c.slack 16;
    }

unfoldable pub tidy : Plan → Plan
tidy p = plan_of (content_of p)

-- what stands past the numbers of cores and loops does not matter, nor does a deadline that the edition doesn't have
pub record Same (p q : Plan) : Type 0 where
  pub editions : p.edition ≡ q.edition
  pub marks : p.offered ≡ q.offered
  pub cores : p.cores ≡ q.cores
  pub loops : p.tasks ≡ q.tasks
  pub labels : (i : ℕ) → i < p.cores → row p.labels i ≡ row q.labels i
  pub entries : (i : ℕ) → i < p.tasks → in_edition p.edition (task_of p.task i) ≡ in_edition q.edition (task_of q.task i)
  pub slack : (i : ℕ) → i < p.tasks → row p.slack i ≡ row q.slack i
