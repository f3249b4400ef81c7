-- The array is filled in order.
use Rattle.laws.specs.TabLaws.{filled_none}
use Rattle.tasks.specs.TaskSet.{row}
use Rattle.fields.specs.StageLaws.{column-more}
use Rattle.wish_offsets.specs.Rows.{room_row}
use native.Mathlib.Omega.{arith}
use Rattle.wish_offsets.proofs.rooms.Goals as goal

pub overflow_sub-room : goal.overflow_sub-room
unfolding row
overflow_sub-room c = c.requires.1 c.loop-i.i (omega arith)

pub loop-i-preserved : goal.loop-i-preserved
unfolding room_row row
loop-i-preserved c =
    let l = c.loop-i in
    let a = c.args in
    column-more l.room (room_row a.wish.now a.budget.now) l.i (omega arith) l.invariant

pub loop-i-init : goal.loop-i-init
loop-i-init c = filled_none _ 0 16
