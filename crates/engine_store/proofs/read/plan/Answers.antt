-- `engine_store::read::plan` meets its contract.
use Rattle.std.proofs.Common.{arith}
use Rattle.tasks.specs.TaskSet.{row}
use Rattle.engine_words.specs.Words.{plan_in}
use Rattle.engine_words.proofs.WordsLaws.{edition-byte}
use Rattle.engine_store.proofs.read.plan.Goals as goal

pub overflow_cast-result : goal.overflow_cast-result
unfolding row
overflow_cast-result c = omega (arith, edition-byte c.args.words.now c.requires)

pub returns : goal.returns
unfolding plan_in row
returns c = rw (c.labels.ensures, c.tasks.ensures, c.numbers.ensures)
