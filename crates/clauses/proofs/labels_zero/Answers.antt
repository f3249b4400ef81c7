-- `clauses::labels_zero` meets its contract; the loop's invariant says what its turns so far have made.
use Rattle.clauses.specs.SoundTests.{label_zero, all_more, all_fails}
use Rattle.state.specs.SoundState.{all_of}
use Rattle.tasks.specs.TaskSet.{row}
use native.Mathlib.Omega.{arith}
use mathlib.Core.Path.{refl, sym, ◌∙◌}
use Rattle.clauses.proofs.labels_zero.Goals as goal

pub loop-i-init : goal.loop-i-init
unfolding all_of
loop-i-init c = refl

pub returns-then-not-label_zero : goal.returns-then-not-label_zero
unfolding label_zero row
returns-then-not-label_zero c = sym (all_fails _ 8 c.loop-i.i (omega arith) (sym c.label_zero.ensures ∙ c.if-not-label_zero.true))

pub loop-i-preserved : goal.loop-i-preserved
unfolding label_zero row
loop-i-preserved c = all_more _ c.loop-i.i c.loop-i.invariant (sym c.label_zero.ensures ∙ c.if-not-label_zero.false)
