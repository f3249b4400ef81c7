-- `engine_store::read::tasks` meets its contract; the loop's invariant says what its turns so far have made.
use Prim.Native.Nat.{◌+◌, ◌*◌}
use mathlib.Core.Path.{◌≡◌, ◌∙◌}
use native.Mathlib.Omega.{arith}
use Rattle.laws.specs.TabLaws.{filled_none, filled_next, cut_all}
use Rattle.tasks.specs.TaskSet.{row}
use Rattle.tasks.specs.Content.{no_task}
use Rattle.engine_words.specs.Words.{task_in}
use Rattle.engine_store.proofs.read.tasks.Goals as goal

pub loop-i-init : goal.loop-i-init
loop-i-init c = rw c.no_task-task.ensures (filled_none _ no_task 16)

pub loop-i-preserved : goal.loop-i-preserved
unfolding task_in row
loop-i-preserved c =
    let l = c.loop-i in
    let a = c.args in
    rw l.invariant (filled_next (λ j. task_in a.words.now (12 + 4 * j)) no_task l.i 16 (omega arith))

pub returns : goal.returns
returns c =
    let l = c.loop-i in
    let e : l.i ≡ 16 = omega arith in
    (rw e at l.invariant) ∙ cut_all 16 _ no_task
