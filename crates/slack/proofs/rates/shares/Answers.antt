use Prim.Native.Nat.{◌/◌}
use Rattle.laws.specs.TabLaws.{filled_none}
use Rattle.tasks.specs.TaskSet.{row}
use Rattle.fields.specs.StageLaws.{column-more}
use native.Mathlib.Omega.{arith}
use Prim.Native.Nat.{◌*◌}
use Rattle.slack.proofs.rates.shares.Goals as goal

pub loop-i-init : goal.loop-i-init
loop-i-init c = filled_none _ 0 16

pub nonzero_div-share : goal.nonzero_div-share
unfolding row
nonzero_div-share c =
    omega (arith, c.requires.2 c.loop-i.i (omega arith))

pub loop-i-preserved : goal.loop-i-preserved
unfolding row
loop-i-preserved c =
    let l = c.loop-i in
    let a = c.args in
    rw (c.from-in-loop-i.ensures, c.from.ensures)
    (column-more l.share (λ i. row a.budget.now i * a.multiple / row a.separation.now i) l.i (omega arith) l.invariant)
