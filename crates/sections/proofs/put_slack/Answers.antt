-- `sections::put_slack` meets its contract. The loop's invariant: the first i entries are stored behind the count.
use mathlib.Core.Path.{refl, ◌∙◌}
use Rattle.tasks.specs.TaskSet.{row}
use Rattle.numbers.specs.Bytes.{entries}
use Rattle.numbers.specs.StoreLaws.{sets-entry}
use Rattle.numbers.specs.ByteLaws.{length_digits}
use Rattle.sections.proofs.put_slack.Goals as goal

pub loop-i-init : goal.loop-i-init
unfolding entries
loop-i-init c = refl

pub loop-i-preserved : goal.loop-i-preserved
unfolding row
loop-i-preserved c =
    c.put4.ensures ∙ sets-entry 4 _ (λ j. length_digits 4 _) _ _ _ _ _ _ c.loop-i.invariant refl refl
