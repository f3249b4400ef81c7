-- `multiple::gcd` meets its contract. The loop's invariant: the greatest common divisor of x and y is that of a and b. The measure is y.
use Prim.Native.Nat.{ℕ}
use Rattle.multiple.specs.Greatest.{Greatest}
use Rattle.multiple.proofs.gcd.Given as goal

abbrev pub invariant-loop-y : goal.invariant-loop-y
invariant-loop-y l = (g : ℕ) → Greatest l.x l.y g → Greatest l.a l.b g

abbrev pub decreases-loop-y : goal.decreases-loop-y
decreases-loop-y l = l.y
