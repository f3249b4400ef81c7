-- The delivered engine: what can be seen of it is what `open`, `release` and `step` answer, for every input, tests 18 and 19 included.
--     names_as_running     whether a step's answer names a loop as running
--     nothing_pending     whether no loop of a state has an unfinished job
--     engine_of p         the engine opened on the plan p
use Rattle.std.specs.Prelude.{ℕ, Bool, not, ◌&&◌, eqb}
use Rattle.laws.specs.Member.{member}
use Rattle.tasks.specs.declared.Plan.{Plan}
use Rattle.tasks.specs.TaskSet.{row}
use Rattle.machine.specs.Machine.{idle}
use Rattle.state.specs.declared.State.{State}
use Rattle.state.specs.SoundState.{all_of}
use Rattle.state.specs.Calls.{open_of, release_of, step_of}
use Rattle.history.specs.Engine.{outcome_of, Engine}

-- "The answer says for each core which loop ran or that it was idle"
unfoldable pub names_as_running : State → ℕ → Bool
names_as_running s i = not (eqb i idle) && member i (step_of s).runs

unfoldable pub nothing_pending : State → Bool
nothing_pending s = all_of (λ i. eqb (row s.jobs i) 0) 16

abbrev pub engine_of : Plan → Engine
engine_of p =
    record {
      St = State;
      opened = (open_of p).state;
      runs = names_as_running;
      stepped = λ s. (step_of s).state;
      answer = λ s i c. outcome_of (release_of s i c).answer;
      handed = λ s i c. (release_of s i c).state;
      quiet = nothing_pending;
    }
