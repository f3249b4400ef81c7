-- The engine that a controller in C sees: nothing but the numbers that the C calls answer and the words and bytes that they leave.
--     step_runs           whether a step is taken and names a loop as running
--     outcome_in          the answer to a release, from its number
--     nothing_held        whether the words say that no loop holds a job
--     controller_of t ws  the engine opened on the table t over the lent words ws
use Rattle.std.specs.Prelude.{ℕ, ◌+◌, ◌/◌, Bool, cond, not, ◌&&◌, List, [], eqb}
use Rattle.laws.specs.Member.{member}
use Rattle.tasks.specs.TaskSet.{row}
use Rattle.machine.specs.Machine.{idle}
use Rattle.state.specs.SoundState.{all_of}
use Rattle.history.specs.Engine.{Outcome, taken, refused, Engine}
use Rattle.engine_lent.specs.Lent.{open_leaves, release_number, release_leaves, step_number, step_leaves, runs_leave}

-- 0 is answered, and the loop stands in the bytes of a core; idle stands for none
unfoldable pub step_runs : List ℕ → ℕ → Bool
step_runs ws i = eqb (step_number ws) 0 && (not (eqb i idle) && member i (runs_leave ws []))

-- "0 or 4,294,967,296 × number + index"
unfoldable pub outcome_in : ℕ → Outcome
outcome_in r = cond (eqb r 0) taken (refused (r / 4294967296))

-- "93 to 108 the jobs that each loop holds"
unfoldable pub nothing_held : List ℕ → Bool
nothing_held ws = all_of (λ i. eqb (row ws (93 + i)) 0) 16

abbrev pub controller_of : List ℕ → List ℕ → Engine
controller_of t ws =
    record {
      St = List ℕ;
      opened = open_leaves t ws;
      runs = step_runs;
      stepped = step_leaves;
      answer = λ l i c. outcome_in (release_number l i c);
      handed = release_leaves;
      quiet = nothing_held;
    }
