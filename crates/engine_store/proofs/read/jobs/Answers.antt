-- `engine_store::read::jobs` meets its contract; the loop's invariant says what its turns so far have made.
use Rattle.laws.specs.TabLaws.{filled_none, filled_next, cut_all}
use Rattle.tasks.specs.TaskSet.{row}
use Rattle.engine_words.specs.Words.{part}
use native.Mathlib.Omega.{arith}
use Prim.Native.Nat.{◌+◌}
use mathlib.Core.Path.{◌≡◌, ◌∙◌}
use Rattle.engine_store.proofs.read.jobs.Goals as goal

pub loop-i-init : goal.loop-i-init
loop-i-init c = filled_none _ 0 16

pub loop-i-preserved : goal.loop-i-preserved
unfolding row
loop-i-preserved c =
    let l = c.loop-i in
    let a = c.args in
    rw l.invariant (filled_next (λ j. row a.words.now (93 + j)) 0 l.i 16 (omega arith))

pub returns : goal.returns
unfolding part
returns c =
    let l = c.loop-i in
    let e : l.i ≡ 16 = omega arith in
    (rw e at l.invariant) ∙ cut_all 16 _ 0
