-- `engine::calls::step_test` meets its contract.
use Rattle.state.specs.Calls.{step_tests}
use Rattle.tasks.specs.Tests.{first_met}
use borrow.Author.Tests.{eq-eqb, ne_eqb}
use mathlib.Core.Path.{sym, ◌∙◌}
use Rattle.engine.proofs.calls.step_test.Goals as goal

pub returns-then-not-sound : goal.returns-then-not-sound
unfolding step_tests first_met
returns-then-not-sound c = rw (c.at.ensures, sym c.sound.ensures ∙ c.if-not-sound.true)

pub returns-then-state : goal.returns-then-state
unfolding step_tests first_met
returns-then-state c = rw (c.at-then-state.ensures, sym c.sound.ensures ∙ c.if-not-sound.false, eq-eqb _ _ c.if-state.true)

pub returns : goal.returns
unfolding step_tests first_met
returns c = rw (sym c.sound.ensures ∙ c.if-not-sound.false, ne_eqb _ _ c.if-state.false)
