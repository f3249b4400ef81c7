-- `engine_store::read::read` meets its contract.
use Rattle.tasks.specs.TaskSet.{row}
use Rattle.engine_words.specs.Words.{fields_in}
use Rattle.engine_store.proofs.read.read.Goals as goal

pub returns : goal.returns
unfolding fields_in row
returns c = rw (c.plan.ensures, c.jobs.ensures, c.flags.ensures, c.numbers.ensures, c.numbers-2.ensures, c.numbers-3.ensures)
