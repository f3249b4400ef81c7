-- The machine reads T, C and Y of a task and nothing else.
--     plain_engine    the engine of a task set is that of its plain tasks
use Rattle.std.specs.Prelude.{◌≡◌, refl}
use Rattle.tasks.specs.TaskSet.{TaskSet, plain}
use Rattle.machine.specs.Machine.{point, before, chosen, runs, tick}
use Rattle.machine.specs.Admission.{admit_tests}
use Rattle.history.specs.OnMachine.{answer_of, handed_of, quiet_of, machine_engine}

pub plain_engine : (s : TaskSet) → machine_engine (plain s) ≡ machine_engine s
unfolding plain point before chosen runs tick admit_tests answer_of handed_of quiet_of
plain_engine s = refl
