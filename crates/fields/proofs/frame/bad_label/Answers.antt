use Rattle.laws.specs.First.{first}
use Rattle.laws.specs.FirstLaws.{none_more, found_at}
use native.Mathlib.Omega.{arith}
use mathlib.Core.Path.{refl, sym, ◌∙◌}
use Rattle.fields.proofs.frame.bad_label.Goals as goal

pub loop-i-init : goal.loop-i-init
unfolding first
loop-i-init c = refl

pub returns-then-is_bad_label : goal.returns-then-is_bad_label
returns-then-is_bad_label c = sym (found_at _ _ _ c.loop-i.invariant (sym c.is_bad_label.ensures ∙ c.if-is_bad_label.true) (omega arith))

pub loop-i-preserved : goal.loop-i-preserved
loop-i-preserved c = none_more _ _ c.loop-i.invariant (sym c.is_bad_label.ensures ∙ c.if-is_bad_label.false)
