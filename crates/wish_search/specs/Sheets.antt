-- A wish sheet as the search hands it on.
--     SheetFor        it and these budgets are those of the sheet s
--     SheetForWith    the same, with each budget divided by the number of cores
use Rattle.std.specs.Prelude.{ℕ, List}
use Rattle.tasks.specs.TaskSet.{TaskSet}
use Rattle.slack.specs.declared.vector.Divided.{Divided}
use Rattle.wish_search.specs.declared.search.Sheet.{Sheet}
use Rattle.wish_search.specs.SheetArrays.{SheetOf, SheetWith}

abbrev pub SheetFor : TaskSet → Sheet → List ℕ → Type 0
SheetFor s a budgets = SheetOf s a.share.now a.separation.now budgets a.room.now a.multiple a.cores a.tasks

abbrev pub SheetForWith : TaskSet → Sheet → List ℕ → Divided → Type 0
SheetForWith s a budgets d =
    SheetWith s a.share.now a.separation.now budgets a.room.now d.quotient d.rest a.multiple a.cores a.tasks
