use borrow.Author.Tests.{eq-eqb, ne_eqb}
use Rattle.laws.specs.First.{first}
use Rattle.laws.specs.FirstLaws.{none_more, found_at}
use Rattle.tasks.specs.TaskSet.{row}
use native.Mathlib.Omega.{arith}
use mathlib.Core.Path.{refl, sym}
use Rattle.analysis.proofs.plan_test.first_other.Goals as goal

pub loop-i-init : goal.loop-i-init
unfolding first
loop-i-init c = refl

pub returns-then-slack-i : goal.returns-then-slack-i
unfolding row
returns-then-slack-i c =
    let l = c.loop-i in
    sym (found_at _ l.i _ l.invariant (rw (ne_eqb _ _ c.if-slack-i.true)) (omega arith))

pub loop-i-preserved : goal.loop-i-preserved
unfolding row
loop-i-preserved c =
    let l = c.loop-i in
    none_more _ l.i l.invariant (rw (eq-eqb _ _ c.if-slack-i.false))
