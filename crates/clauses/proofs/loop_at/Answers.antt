-- `clauses::loop_at` meets its contract.
use Rattle.clauses.specs.SoundTests.{loop_holds}
use Rattle.state.specs.SoundState.{loop_test}
use Rattle.tasks.specs.TaskSet.{row}
use borrow.Author.Tests.{lt-leb}
use Rattle.clauses.proofs.loop_at.Goals as goal

pub returns-then-held-gt-JOBS_HIGH : goal.returns-then-held-gt-JOBS_HIGH
unfolding loop_holds loop_test row
returns-then-held-gt-JOBS_HIGH c = rw (lt-leb _ _ c.if-held-gt-JOBS_HIGH.true)

pub returns : goal.returns
unfolding loop_holds row
returns c = rw (← c.saturating_sub.ensures) c.loop_sound.ensures
