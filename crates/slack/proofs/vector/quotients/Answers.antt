use Prim.Native.Nat.{◌/◌}
use Rattle.laws.specs.TabLaws.{filled_none}
use Rattle.tasks.specs.TaskSet.{row}
use Rattle.fields.specs.StageLaws.{column-more}
use native.Mathlib.Omega.{arith}
use Rattle.slack.proofs.vector.quotients.Goals as goal

pub loop-i-init : goal.loop-i-init
loop-i-init c = filled_none _ 0 16

pub loop-i-preserved : goal.loop-i-preserved
unfolding row
loop-i-preserved c =
    let l = c.loop-i in
    let a = c.args in
    column-more l.quotient (λ i. row a.budget.now i / a.cores) l.i (omega arith) l.invariant
