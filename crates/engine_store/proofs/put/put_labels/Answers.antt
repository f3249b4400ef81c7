-- `engine_store::put::put_labels` meets its contract; the loop's invariant says what its turns so far have made.
use mathlib.Core.Path.{refl}
use Rattle.tasks.specs.TaskSet.{row}
use Rattle.engine_words.proofs.PartLaws.{stored-none, stored_next}
use Rattle.engine_store.proofs.put.put_labels.Goals as goal

pub loop-i-init : goal.loop-i-init
loop-i-init c = stored-none _ _ _

pub loop-i-preserved : goal.loop-i-preserved
unfolding row
loop-i-preserved c =
    let l = c.loop-i in
    let a = c.args in
    rw (c.from.ensures, l.invariant) (stored_next (row a.labels.now) _ 4 _ l.i refl)
