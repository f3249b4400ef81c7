-- `multiple::gcd` meets its contract. The loop's invariant: the greatest common divisor of x and y is that of a and b. The measure is y.
use Prim.Native.Nat.{ℕ}
use mathlib.Core.Path.{sym, subst}
use Rattle.multiple.specs.Greatest.{Greatest}
use Rattle.multiple.specs.GreatestLaws.{greatest_end, greatest_turn}
use Rattle.multiple.proofs.gcd.Goals as goal

pub loop-y-preserved : goal.loop-y-preserved
loop-y-preserved c = λ g h. c.loop-y.invariant g (greatest_turn c.loop-y.x c.loop-y.y g h)

pub returns : goal.returns
returns c =
    let x = c.loop-y.x in
    c.loop-y.invariant x (subst (λ (y : ℕ). Greatest x y x) (sym c.loop-y-test.false) (greatest_end x))
