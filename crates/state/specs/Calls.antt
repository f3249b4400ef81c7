-- What open, release and step answer, for every input.
--     open_of                          document 01's opening of a plan
--     release_tests, release_of         a release
--     step_tests, step_of               a step; ticked_of: one that isn't refused
use Rattle.std.specs.Prelude.{ℕ, not, [], ◌∷◌, replicate, eqb}
use Rattle.laws.specs.Tab.{tab}
use Rattle.tasks.specs.declared.Plan.{Plan}
use Rattle.tasks.specs.Answer.{Answer, Accepted}
use Rattle.tasks.specs.Numbers.{clock_end}
use Rattle.tasks.specs.TaskSet.{TaskSet}
use Rattle.tasks.specs.Content.{content_of, tidy}
use Rattle.tasks.specs.Tests.{refuse, first_met, unless_refused, test_plan}
use Rattle.machine.specs.Machine.{Machine, opened, admitted, on_core, runs, tick, responses, idle}
use Rattle.machine.specs.Admission.{admit_tests}
use Rattle.state.specs.declared.State.{State}
use Rattle.state.specs.declared.Opened.{Opened}
use Rattle.state.specs.declared.Released.{Released}
use Rattle.state.specs.declared.Stepped.{Stepped}
use Rattle.state.specs.State.{state_of, machine_of, zero_state}
use Rattle.state.specs.SoundState.{sound_of}

-- "The engine is opened on a plan, tested by 3 to 13, at tick 0 with nothing pending." "Core and loop places that a plan doesn't use are handed
-- back as zeros, in a newly opened state too"; "A refused … opening hands back a … state of zeros"
unfoldable pub open_of : Plan → Opened
open_of p = record { answer = test_plan p; state = unless_refused (test_plan p) (state_of (tidy p) opened) zero_state }

-- the tasks of a state's table part
unfoldable pub tasks_of : State → TaskSet
tasks_of s = (content_of s.plan).tasks

-- "18. The engine state isn't sound. 19. The clock stands at 4,000,000,000 (step and release)."
unfoldable pub step_tests : State → Answer
step_tests s = first_met (refuse 18 (not (sound_of s)) ∷ refuse 19 (eqb s.clock clock_end) ∷ [])

-- "A step tests 18 and 19, a release 18 to 23."
unfoldable pub release_tests : State → ℕ → ℕ → Answer
release_tests s i c = first_met (step_tests s ∷ admit_tests (tasks_of s) (machine_of s) i c ∷ [])

-- "the state returned is the one handed in" on a refusal
unfoldable pub release_of : State → ℕ → ℕ → Released
release_of s i c =
    record {
      answer = release_tests s i c;
      state = unless_refused (release_tests s i c) (state_of s.plan (admitted i c (machine_of s))) s;
    }

-- the machine's tick: the state one tick later, what ran on each core, and who finished
unfoldable pub ticked_of : Plan → TaskSet → Machine → Stepped
ticked_of p s M =
    record {
      answer = Accepted;
      state = state_of p (tick s M);
      runs = tab (on_core s M) 8;
      responses = tab (responses (runs s M) M) 16;
    }

-- "a refused step names every core idle and no loop finished"
unfoldable pub not_stepped : Answer → State → Stepped
not_stepped a s = record { answer = a; state = s; runs = replicate 8 idle; responses = replicate 16 0 }

unfoldable pub step_of : State → Stepped
step_of s = unless_refused (step_tests s) (ticked_of s.plan (tasks_of s) (machine_of s)) (not_stepped (step_tests s) s)
