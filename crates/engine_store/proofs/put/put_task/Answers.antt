-- `engine_store::put::put_task` meets its contract.
use Rattle.laws.specs.SetsLaws.{sets-four}
use Rattle.engine_words.specs.Words.{task_words}
use Rattle.engine_store.proofs.put.put_task.Goals as goal

pub returns : goal.returns
unfolding task_words
returns c = let a = c.args in sets-four a.words.now a.at a.task.separation a.task.budget a.task.offset a.task.deadline
