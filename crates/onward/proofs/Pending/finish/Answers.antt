-- `onward::Pending::finish` meets its contract.
use Rattle.running.specs.FinishCode.{finishing-room, finishing-low, finishing-rises, finished-none, finishing-next, finished-more}
use Rattle.tasks.specs.TaskSet.{row}
use native.Mathlib.Omega.{arith}
use mathlib.Core.Path.{refl}
use Rattle.onward.proofs.Pending.finish.Goals as goal

pub overflow_mul-i : goal.overflow_mul-i
unfolding row
overflow_mul-i c = omega (arith, (finishing-low c.requires).0)

pub offset_bounds-self-i : goal.offset_bounds-self-i
unfolding row
offset_bounds-self-i c = omega (arith, (finishing-low c.requires).0)

pub bounds-self-i : goal.bounds-self-i
unfolding row
bounds-self-i c = omega (arith, (finishing-low c.requires).0)

pub put_finished-requires : goal.put_finished-requires
unfolding row
put_finished-requires c = finishing-room c.requires

pub move_down-requires : goal.move_down-requires
unfolding row
move_down-requires c = omega (arith, (finishing-low c.requires).0)

pub offset_bounds-self-i-2 : goal.offset_bounds-self-i-2
unfolding row
offset_bounds-self-i-2 c = omega (arith, (finishing-low c.requires).0)

pub bounds-self-i-2 : goal.bounds-self-i-2
unfolding row
bounds-self-i-2 c = (finishing-low c.requires).0

pub overflow_sub-more : goal.overflow_sub-more
unfolding row
overflow_sub-more c = (finishing-low c.requires).1

pub offset_bounds-self-i-3 : goal.offset_bounds-self-i-3
unfolding row
offset_bounds-self-i-3 c = omega (arith, (finishing-low c.requires).0)

pub bounds-self-i-3 : goal.bounds-self-i-3
unfolding row
bounds-self-i-3 c = (finishing-low c.requires).0

pub returns-then-more-eq0 : goal.returns-then-more-eq0
unfolding row
returns-then-more-eq0 c = finished-none refl c.move_down.ensures c.put_finished.ensures c.if-more-eq0.true

pub release_at-next-requires : goal.release_at-next-requires
unfolding row
release_at-next-requires c =
    (finishing-next refl c.move_down.ensures c.put_finished.ensures c.if-more-eq0.false c.requires).0

pub insert-requires : goal.insert-requires
unfolding row
insert-requires c =
    let P = c.requires in
    ((finishing-next refl c.move_down.ensures c.put_finished.ensures c.if-more-eq0.false P).1, finishing-rises P)

pub returns : goal.returns
unfolding row
returns c =
    rw c.insert.ensures.1
    (finished-more refl c.move_down.ensures c.put_finished.ensures c.if-more-eq0.false c.release_at-next.ensures
    (rw c.head_key.ensures at c.insert.ensures.0))
