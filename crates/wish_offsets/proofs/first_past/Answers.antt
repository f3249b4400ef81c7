-- No task before i has its slack above W − C.
use borrow.Author.Tests.{lt-ltb, le-ltb}
use Rattle.laws.specs.First.{first}
use Rattle.laws.specs.FirstLaws.{none_more, found_at}
use Rattle.tasks.specs.TaskSet.{row}
use Rattle.wish_offsets.specs.Rows.{past_row}
use native.Mathlib.Omega.{arith}
use mathlib.Core.Path.{refl, sym}
use Rattle.wish_offsets.proofs.first_past.Goals as goal

pub loop-i-init : goal.loop-i-init
unfolding first
loop-i-init c = refl

pub returns-then-room-i : goal.returns-then-room-i
unfolding past_row row
returns-then-room-i c =
    let l = c.loop-i in
    let a = c.args in
    sym (found_at (past_row a.slack.now a.room.now) l.i a.tasks l.invariant (lt-ltb _ _ c.if-room-i.true) (omega arith))

pub loop-i-preserved : goal.loop-i-preserved
unfolding past_row row
loop-i-preserved c =
    let l = c.loop-i in
    let a = c.args in
    none_more (past_row a.slack.now a.room.now) l.i l.invariant (le-ltb _ _ c.if-room-i.false)
