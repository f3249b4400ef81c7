-- `tidy::tidy_slack` meets its contract.
use Rattle.std.proofs.Common.{arith}
use Rattle.tasks.specs.TaskSet.{row}
use Rattle.tidy.proofs.CopiedLaws.{copied}
use Rattle.tidy.proofs.tidy_slack.Goals as goal

pub returns : goal.returns
unfolding row
returns c = copied c.args.slack.now _ 0 _ _ c.copy_from_slice.ensures.after (omega arith) (omega arith)
