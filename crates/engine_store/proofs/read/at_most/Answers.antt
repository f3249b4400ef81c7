-- `engine_store::read::at_most` meets its contract; the loop's invariant says what its turns so far have made.
use Prim.Native.Nat.{◌+◌}
use mathlib.Core.Path.{refl, sym}
use native.Mathlib.Omega.{arith}
use borrow.Author.Tests.{le-leb, lt-leb}
use Rattle.tasks.specs.TaskSet.{row}
use Rattle.state.specs.SoundState.{all_of}
use Rattle.clauses.specs.SoundTests.{all_more, all_fails}
use Rattle.engine_store.proofs.read.at_most.Goals as goal

pub loop-i-init : goal.loop-i-init
unfolding all_of
loop-i-init c = refl

pub returns-then-high-words : goal.returns-then-high-words
unfolding row
returns-then-high-words c =
    let l = c.loop-i in
    sym (all_fails _ c.args.count l.i (omega arith) (lt-leb _ _ c.if-high-words.true))

pub loop-i-preserved : goal.loop-i-preserved
unfolding row
loop-i-preserved c =
    let l = c.loop-i in
    let a = c.args in
    all_more _ l.i l.invariant (le-leb (row a.words.now (a.at + l.i)) a.high (omega arith))
