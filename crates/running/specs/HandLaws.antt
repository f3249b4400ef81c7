-- An entry's release handed over at its tick, by the arrays.
--     Columns p …            a plan's separations, budgets and offsets, in arrays of their own
--     Handing p l out₀ e …   the run has come to entry e's tick, with the entry's three numbers and the plan's columns
--     Handed                 what the code that hands it over gives: the entry is entered, and whether it was taken
use Rattle.std.specs.Prelude.{ℕ, ◌+◌, ◌<◌, Bool, cond, ◌≡◌, List, length}
use Rattle.tasks.specs.declared.Plan.{Plan}
use Rattle.tasks.specs.TaskSet.{row}
use Rattle.tasks.specs.Content.{task_of, content_of}
use Rattle.history.specs.Engine.{is_taken}
use Rattle.history.specs.Log.{Entry, tick_at, loop_at, demand_at, outcome}
use Rattle.history.specs.OnMachine.{machine_engine}
use Rattle.running.specs.Running.{Arrays}
use Rattle.running.specs.Entered.{Entered, AtTick}

pub record Columns (p : Plan) (tasks : ℕ) (separations budgets offsets : List ℕ) : Type 0 where
  pub tasks_are : tasks ≡ p.tasks
  pub separations_are : (i : ℕ) → i < tasks → row separations i ≡ (task_of p.task i).separation
  pub budgets_are : (i : ℕ) → i < tasks → row budgets i ≡ (task_of p.task i).budget
  pub offsets_are : (i : ℕ) → i < tasks → row offsets i ≡ (task_of p.task i).offset

pub record Handing (p : Plan) (l : List Entry) (out₀ : List ℕ) (e tick task demand tasks : ℕ) (separations budgets offsets : List ℕ)
    (W : Arrays) (released : List Bool) (last : List ℕ) : Type 0 where
  pub at : AtTick p l out₀ e W released last
  pub less : e < length l
  pub columns : Columns p tasks separations budgets offsets
  pub tick_is : tick ≡ tick_at l e
  pub task_is : task ≡ loop_at l e
  pub demand_is : demand ≡ demand_at l e

-- 1 where entry e is taken, else 0
abbrev pub takes : Plan → List Entry → ℕ → ℕ
takes p l e = cond (is_taken (outcome (machine_engine (content_of p).tasks) l e)) 1 0

abbrev pub Handed :
    ℕ → ℕ → ℕ → ℕ → ℕ → List ℕ → List ℕ → List ℕ → Arrays → List Bool → List ℕ → ℕ → Arrays → List Bool → List ℕ → Type 0
Handed e tick task demand tasks separations budgets offsets W released last took W' released' last' =
    (p : Plan) (l : List Entry) (out₀ : List ℕ)
    → Handing p l out₀ e tick task demand tasks separations budgets offsets W released last
    → Entered p l out₀ (e + 1) tick W' released' last' × (took ≡ takes p l e)
