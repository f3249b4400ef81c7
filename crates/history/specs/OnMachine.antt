-- The abstract machine as an engine.
--     answer_of            the first of 20, 21, 22 and 23 that a release meets
--     handed_of            the machine handed back: with the release where it is taken, else unchanged
--     quiet_of             whether nothing is pending
--     machine_engine       the engine
use Rattle.std.specs.Prelude.{ℕ, Bool, eqb}
use Rattle.laws.specs.First.{first}
use Rattle.tasks.specs.TaskSet.{TaskSet}
use Rattle.machine.specs.Machine.{Machine, opened, admitted, waiting, runs, tick}
use Rattle.machine.specs.Admission.{admit_tests}
use Rattle.history.specs.Engine.{Outcome, taken, refused, outcome_of, Engine}

unfoldable pub answer_of : TaskSet → Machine → ℕ → ℕ → Outcome
answer_of s M i c = outcome_of (admit_tests s M i c)

abbrev pub if_taken : Outcome → Machine → Machine → Machine
if_taken taken M M' = M
if_taken (refused k) M M' = M'

unfoldable pub handed_of : TaskSet → Machine → ℕ → ℕ → Machine
handed_of s M i c = if_taken (answer_of s M i c) (admitted i c M) M

unfoldable pub quiet_of : TaskSet → Machine → Bool
quiet_of s M = eqb (first (waiting M) s.count) s.count

abbrev pub machine_engine : TaskSet → Engine
machine_engine s =
    record {
      St = Machine;
      opened = opened;
      runs = runs s;
      stepped = tick s;
      answer = answer_of s;
      handed = handed_of s;
      quiet = quiet_of s;
    }
