-- What A of a slack is worked out from, as the code hands it on.
--     LoadOf    it and these budgets are those of the task set s
use Rattle.std.specs.Prelude.{ℕ, List}
use Rattle.tasks.specs.TaskSet.{TaskSet}
use Rattle.slack.specs.Arrays.{ArraysOf}
use Rattle.slack.specs.declared.amount.Load.{Load}

abbrev pub LoadOf : TaskSet → Load → List ℕ → Type 0
LoadOf s a budgets = ArraysOf s a.share.now budgets a.offset.now a.multiple a.surplus a.cores a.tasks
