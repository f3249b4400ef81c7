-- `engine_store::put::put_jobs` meets its contract; the loop's invariant says what its turns so far have made.
use mathlib.Core.Path.{refl}
use native.Mathlib.Omega.{arith}
use Rattle.tasks.specs.TaskSet.{row}
use Rattle.engine_words.proofs.PartLaws.{stored-none, stored_next}
use Rattle.engine_store.proofs.put.put_jobs.Goals as goal

pub loop-i-init : goal.loop-i-init
loop-i-init c = stored-none _ _ _

pub overflow_cast-words : goal.overflow_cast-words
unfolding row
overflow_cast-words c = omega (arith, c.requires c.loop-i.i (omega arith))

pub loop-i-preserved : goal.loop-i-preserved
unfolding row
loop-i-preserved c =
    let l = c.loop-i in
    let a = c.args in
    rw l.invariant (stored_next (row a.jobs.now) _ 93 _ l.i refl)
