-- The array is filled in order.
use native.Mathlib.Omega.{arith}
use mathlib.Core.List.{[]}
use mathlib.Core.Path.{◌∙◌}
use lib.ListN.{length-set}
use Rattle.tasks.specs.TaskSet.{row}
use Rattle.wish_gains.specs.GainLaws.{gains-cut, gains-next}
use Rattle.wish_gains.proofs.cut_gains.Goals as goal

pub loop-i-preserved : goal.loop-i-preserved
unfolding row
loop-i-preserved c =
    let a = c.args in
    let l = c.loop-i in (
      length-set l.gain l.i c.cut_gain.result ∙ l.invariant.0,
      gains-next a.share.now a.separation.now a.room.now a.slack.now [] l.i l.gain _ (omega (arith, l.invariant.0)) l.invariant.1
          (gains-cut a.share.now a.separation.now a.room.now a.slack.now [] l.i _ c.cut_gain.ensures),
    )
