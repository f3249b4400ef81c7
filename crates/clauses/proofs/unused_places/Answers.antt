-- `clauses::unused_places` meets its contract; the loop's invariant says what its turns so far have made.
use Rattle.clauses.specs.SoundTests.{turned, unused-more}
use Rattle.tasks.specs.TaskSet.{row}
use Rattle.clauses.proofs.unused_places.Goals as goal

pub loop-p-preserved : goal.loop-p-preserved
unfolding row
loop-p-preserved c =
    let a = c.args in
    let l = c.loop-p in
    λ T C t e. rw (unused-more T C t a.jobs a.state.now.release a.state.now.remaining a.i l.p l.auto.p, ← l.invariant T C t e) (turned l.zero _ _)
