-- `logs::read::first_late` meets its contract. The loop's invariant: no tick before entry e is too large.
use Prim.Native.Nat.{◌+◌, ◌*◌, ◌≤◌, ◌<◌}
use native.Mathlib.Omega.{arith}
use mathlib.Core.Path.{refl, sym}
use borrow.Author.Tests.{lt-ltb, le-ltb}
use Rattle.laws.specs.First.{first}
use Rattle.laws.specs.FirstLaws.{none_more, found_at}
use Rattle.numbers.specs.Bytes.{number}
use Rattle.logs.specs.LogBytes.{entry_in}
use Rattle.logs.proofs.read.first_late.Goals as goal

pub loop-e-init : goal.loop-e-init
unfolding first
loop-e-init c = refl

pub returns-then-number4-gt-TICK_HIGH : goal.returns-then-number4-gt-TICK_HIGH
unfolding entry_in
returns-then-number4-gt-TICK_HIGH c =
    let l = c in
    let h : 1000000000 < number 4 l.args.log.now (2 + 9 * l.loop-e.e) = omega (arith, c.number4.ensures) in
    sym (found_at _ l.loop-e.e _ l.loop-e.invariant (lt-ltb _ _ h) (omega arith))

pub loop-e-preserved : goal.loop-e-preserved
unfolding entry_in
loop-e-preserved c =
    let l = c in
    let h : number 4 l.args.log.now (2 + 9 * l.loop-e.e) ≤ 1000000000 = omega (arith, c.number4.ensures) in
    none_more _ l.loop-e.e l.loop-e.invariant (le-ltb _ _ h)
