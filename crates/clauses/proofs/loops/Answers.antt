-- `clauses::loops` meets its contract; the loop's invariant says what its turns so far have made.
use Rattle.clauses.specs.SoundTests.{all_more, all_fails}
use Rattle.state.specs.SoundState.{all_of}
use native.Mathlib.Omega.{arith}
use mathlib.Core.Path.{refl, sym, ◌∙◌}
use Rattle.clauses.proofs.loops.Goals as goal

pub loop-i-init : goal.loop-i-init
unfolding all_of
loop-i-init c = refl

pub returns-then-not-loop_at : goal.returns-then-not-loop_at
returns-then-not-loop_at c = sym (all_fails _ 16 c.loop-i.i (omega arith) (sym c.loop_at.ensures ∙ c.if-not-loop_at.true))

pub loop-i-preserved : goal.loop-i-preserved
loop-i-preserved c = all_more _ c.loop-i.i c.loop-i.invariant (sym c.loop_at.ensures ∙ c.if-not-loop_at.false)
