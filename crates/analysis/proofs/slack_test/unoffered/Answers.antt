-- Slack that is not offered is what the search finds, and the tasks that this counts are named.
use Rattle.slack.specs.StageLaws.{tasks-high}
use Rattle.analysis.proofs.slack_test.unoffered.Goals as goal

pub search-slack-requires : goal.search-slack-requires
search-slack-requires c = (c.requires, c.first_names-names.ensures _ (tasks-high c.requires.1))
