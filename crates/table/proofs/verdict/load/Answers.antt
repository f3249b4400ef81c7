-- `table::verdict::load` meets its contract: the fields are the sections' entries.
use mathlib.Core.Path.{refl, ◌∙◌}
use Rattle.table.specs.LoadedLaws.{loaded-from}
use Rattle.table.proofs.verdict.load.Goals as goal

pub returns : goal.returns
returns c =
    loaded-from _ _ _ _ _ c.requires _ refl refl refl refl
    c.load_labels-labels.ensures
    (c.load_tasks-task.ensures ∙ rw c.tasks_from.ensures)
    (c.load_slack-slack.ensures ∙ rw c.slack_from.ensures)
