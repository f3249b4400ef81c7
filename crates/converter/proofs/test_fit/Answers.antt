-- `converter::test_fit` meets its contract.
use mathlib.Core.Path.{sym, ◌∙◌}
use Rattle.conversion.specs.ConvertedLaws.{fit-more, fit-each}
use Rattle.converter.proofs.test_fit.Goals as goal

pub returns-then-core_for_each : goal.returns-then-core_for_each
returns-then-core_for_each c = rw c.at.ensures (sym (fit-each _ _ _ _ (sym c.core_for_each.ensures ∙ c.if-core_for_each.true)))

pub returns : goal.returns
returns c = c.test_way.ensures ∙ sym (fit-more _ _ _ _ (sym c.core_for_each.ensures ∙ c.if-core_for_each.false))
