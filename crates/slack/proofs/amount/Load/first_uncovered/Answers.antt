use borrow.Author.Tests.{lt-ltb, le-ltb}
use Rattle.laws.specs.First.{first}
use Rattle.laws.specs.FirstLaws.{none_more, found_at}
use Rattle.tasks.specs.TaskSet.{row}
use Rattle.slack.specs.Arrays.{uncovered}
use native.Mathlib.Omega.{arith}
use mathlib.Core.Path.{refl, sym}
use Rattle.slack.proofs.amount.Load.first_uncovered.Goals as goal

pub loop-i-init : goal.loop-i-init
unfolding first
loop-i-init c = refl

pub returns-then-cover-amount : goal.returns-then-cover-amount
unfolding uncovered row
returns-then-cover-amount c =
    let a = c.args in
    let l = c.loop-i in
    sym
    (found_at (uncovered a.amount a.self.now.multiple a.self.now.cores a.budget.now a.slack.now) l.i a.self.now.tasks l.invariant
    (lt-ltb _ _ (rw (c.from-in-loop-i.ensures, c.from.ensures) at c.if-cover-amount.true))
    (omega arith))

pub loop-i-preserved : goal.loop-i-preserved
unfolding uncovered row
loop-i-preserved c =
    let a = c.args in
    let l = c.loop-i in
    none_more (uncovered a.amount a.self.now.multiple a.self.now.cores a.budget.now a.slack.now) l.i l.invariant
    (le-ltb _ _ (rw (c.from-in-loop-i.ensures, c.from.ensures) at c.if-cover-amount.false))
