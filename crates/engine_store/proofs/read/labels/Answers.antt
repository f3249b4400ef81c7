-- `engine_store::read::labels` meets its contract; the loop's invariant says what its turns so far have made.
use Rattle.laws.specs.TabLaws.{filled_none, filled_next, cut_all}
use Rattle.tasks.specs.TaskSet.{row}
use Rattle.engine_words.specs.Words.{part}
use Rattle.engine_words.proofs.WordsLaws.{label-byte}
use native.Mathlib.Omega.{arith}
use Prim.Native.Nat.{◌+◌}
use mathlib.Core.Path.{◌≡◌, ◌∙◌}
use Rattle.engine_store.proofs.read.labels.Goals as goal

pub loop-i-init : goal.loop-i-init
loop-i-init c = filled_none _ 0 8

pub overflow_cast-labels : goal.overflow_cast-labels
unfolding row
overflow_cast-labels c = omega (arith, label-byte c.args.words.now c.requires c.loop-i.i (omega arith))

pub loop-i-preserved : goal.loop-i-preserved
unfolding row
loop-i-preserved c =
    let l = c.loop-i in
    let a = c.args in
    rw l.invariant (filled_next (λ j. row a.words.now (4 + j)) 0 l.i 8 (omega arith))

pub returns : goal.returns
unfolding part
returns c =
    let l = c.loop-i in
    let e : l.i ≡ 8 = omega arith in
    (rw e at l.invariant) ∙ cut_all 8 _ 0
