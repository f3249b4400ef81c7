-- `engine_store::put::put_tasks` meets its contract; the loop's invariant says what its turns so far have made.
use Prim.Native.Nat.{◌+◌, ◌*◌}
use mathlib.Core.Path.{refl, ◌∙◌}
use native.Mathlib.Numerals.{add-one}
use native.Mathlib.Omega.{arith}
use Rattle.laws.specs.SetsLaws.{sets-next}
use Rattle.tasks.specs.Content.{no_task, task_of}
use Rattle.numbers.specs.Bytes.{entries}
use Rattle.numbers.specs.ByteLaws.{length-entries}
use Rattle.engine_words.specs.Words.{task_words}
use Rattle.engine_store.proofs.put.put_tasks.Goals as goal

pub loop-i-init : goal.loop-i-init
unfolding entries
loop-i-init c = refl

pub loop-i-preserved : goal.loop-i-preserved
unfolding entries task_of task_words no_task
loop-i-preserved c =
    let l = c.loop-i in
    let a = c.args in
    rw (c.put_task.ensures, l.invariant)
    (sets-next a.words.now 12 (12 + 4 * l.i) (entries (λ j. task_words (task_of a.task j)) l.i) (task_words (task_of a.task l.i))
    (omega (arith, length-entries 4 (λ j. task_words (task_of a.task j)) (λ j. refl) l.i))
    ∙ rw add-one)
