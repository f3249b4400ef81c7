-- `codec::entry::task_size` meets its contract.
use mathlib.Core.Path.{sym, ◌∙◌}
use Rattle.codec.specs.Table.{task_size}
use Rattle.codec.proofs.entry.task_size.Goals as goal

pub returns-then-has_deadlines : goal.returns-then-has_deadlines
unfolding task_size
returns-then-has_deadlines c = rw (sym c.has_deadlines.ensures ∙ c.if-has_deadlines.true)

pub returns : goal.returns
unfolding task_size
returns c = rw (sym c.has_deadlines.ensures ∙ c.if-has_deadlines.false)
