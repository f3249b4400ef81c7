-- The array is filled in order.
use Rattle.laws.specs.TabLaws.{filled_none}
use Rattle.tasks.specs.TaskSet.{row}
use Rattle.fields.specs.StageLaws.{column-more}
use Rattle.wish_offsets.specs.Rows.{offset_row}
use native.Mathlib.Omega.{arith}
use Prim.Native.Nat.{ℕ}
use mathlib.Core.Path.{ap, ◌∙◌}
use lib.ListN.{set}
use Rattle.wish_offsets.proofs.offsets.Goals as goal

pub loop-i-preserved : goal.loop-i-preserved
unfolding offset_row row
loop-i-preserved c =
    let l = c.loop-i in
    let a = c.args in
    ap (λ (v : ℕ). set l.offset l.i v) c.largest_offset.ensures
    ∙ column-more l.offset (offset_row a.separation.now a.room.now a.slack.now) l.i (omega arith) l.invariant

pub loop-i-init : goal.loop-i-init
loop-i-init c = filled_none _ 0 16
