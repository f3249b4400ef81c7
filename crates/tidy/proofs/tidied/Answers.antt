-- `tidy::tidied` meets its contract.
use Rattle.tasks.proofs.ContentLaws.{tidied_code}
use Rattle.tidy.proofs.tidied.Goals as goal

pub returns : goal.returns
returns c = tidied_code c.args.plan _ _ _ c.requires.1 c.tidy_bytes.ensures c.tidy_tasks.ensures c.tidy_slack.ensures
