use Rattle.std.proofs.Common.{refl, arith}
use Rattle.laws.proofs.TakenLaws.{taken}
use Rattle.laws.specs.Sum.{sum}
use Rattle.laws.specs.SumLaws.{sum_step}
use Rattle.tasks.specs.TaskSet.{row}
use Rattle.slack.proofs.rates.total.Goals as goal

pub loop-x-init : goal.loop-x-init
unfolding sum
loop-x-init c = (refl, omega arith)

pub overflow_add-all : goal.overflow_add-all
unfolding row
overflow_add-all c =
    let l = c.loop-x in
    let x = taken c.args.share.now c.args.tasks l.x-index c.loop-x-test.true in
    omega (arith, l.invariant.1, x.0, x.1, c.requires.1 l.x-index x.0)

pub loop-x-preserved : goal.loop-x-preserved
unfolding row
loop-x-preserved c =
    let l = c.loop-x in
    let x = taken c.args.share.now c.args.tasks l.x-index c.loop-x-test.true in
    (rw (sum_step (row c.args.share.now) l.x-index, l.invariant.0, x.1), omega (arith, l.invariant.1, x.1, c.requires.1 l.x-index x.0))
