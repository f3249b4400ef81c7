-- `sheet::with_offsets` meets its contract: the call of the closure at each place hands back the row's entry, and changes nothing of what it reads.
use Rattle.std.proofs.Common.{rules}
use Rattle.laws.specs.Tab.{cut}
use Rattle.tasks.specs.TaskSet.{row}
use Rattle.tasks.specs.Content.{no_task, task_of}
use Rattle.reader.specs.LoadLaws.{from_fn_tab}
use Rattle.sheet.proofs.with_offsets.Goals as goal

pub returns : goal.returns
unfolding cut task_of no_task row
returns c = from_fn_tab _ _ _ 16 _ (λ i v after below called. (search rules, search rules)) no_task c.from_fn.ensures.items
