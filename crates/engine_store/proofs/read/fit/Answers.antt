-- `engine_store::read::fit` meets its contract.
use Rattle.std.proofs.Common.{rules}
use Rattle.tasks.specs.TaskSet.{row}
use Rattle.engine_words.specs.Words.{fits}
use Rattle.engine_store.proofs.read.fit.Goals as goal

pub returns-then-at_most : goal.returns-then-at_most
unfolding fits row
returns-then-at_most c = search rules

pub returns-else-at_most : goal.returns-else-at_most
unfolding fits row
returns-else-at_most c = search rules
