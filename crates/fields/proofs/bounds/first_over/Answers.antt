-- `fields::bounds::first_over` meets its contract; the invariant says that no task before i meets the test.
use Rattle.tasks.specs.TaskSet.{row}
use Rattle.tasks.specs.Content.{task_of, no_task}
use Rattle.laws.specs.First.{first}
use Rattle.laws.specs.FirstLaws.{none_more, found_at}
use native.Mathlib.Omega.{arith}
use mathlib.Core.Path.{refl, sym, ◌∙◌}
use Rattle.fields.proofs.bounds.first_over.Goals as goal

pub loop-i-init : goal.loop-i-init
unfolding first
loop-i-init c = refl

pub returns-then-is_over : goal.returns-then-is_over
unfolding task_of no_task row
returns-then-is_over c = sym (found_at _ _ _ c.loop-i.invariant (sym c.is_over.ensures ∙ c.if-is_over.true) (omega arith))

pub loop-i-preserved : goal.loop-i-preserved
unfolding task_of no_task row
loop-i-preserved c = none_more _ _ c.loop-i.invariant (sym c.is_over.ensures ∙ c.if-is_over.false)
