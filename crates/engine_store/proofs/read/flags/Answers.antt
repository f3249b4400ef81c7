-- `engine_store::read::flags` meets its contract; the loop's invariant says what its turns so far have made.
use lib.Dec.{eqb}
use mathlib.Core.Bool.{false}
use Rattle.laws.specs.TabLaws.{filled_none, filled_next, cut_all}
use Rattle.tasks.specs.TaskSet.{row}
use native.Mathlib.Omega.{arith}
use Prim.Native.Nat.{◌+◌}
use mathlib.Core.Path.{◌≡◌, ◌∙◌}
use Rattle.engine_store.proofs.read.flags.Goals as goal

pub loop-i-init : goal.loop-i-init
loop-i-init c = filled_none _ false 16

pub loop-i-preserved : goal.loop-i-preserved
unfolding row
loop-i-preserved c =
    let l = c.loop-i in
    let a = c.args in
    rw l.invariant (filled_next (λ j. eqb (row a.words.now (109 + j)) 1) false l.i 16 (omega arith))

pub returns : goal.returns
unfolding row
returns c =
    let l = c.loop-i in
    let e : l.i ≡ 16 = omega arith in
    (rw e at l.invariant) ∙ cut_all 16 _ false
