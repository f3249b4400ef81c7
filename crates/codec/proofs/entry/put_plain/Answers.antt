-- `codec::entry::put_plain` meets its contract: three numbers, one behind the other.
use Prim.Native.Nat.{◌+◌}
use native.Mathlib.Omega.{arith}
use Rattle.codec.specs.Table.{plain_bytes}
use Rattle.numbers.specs.ByteLaws.{length_digits}
use Rattle.laws.specs.SetsLaws.{sets-three}
use Rattle.numbers.specs.Bytes.{digits}
use Rattle.codec.proofs.entry.put_plain.Goals as goal

pub returns : goal.returns
unfolding plain_bytes
returns c =
    let a = c.args in
    sets-three _ _ _ _ a.at (a.at + 4) (a.at + 8) (digits 4 a.task.separation) (digits 4 a.task.budget) _
    c.put4.ensures c.put4-2.ensures c.put4-3.ensures
    (omega (arith, length_digits 4 a.task.separation)) (omega (arith, length_digits 4 a.task.budget))
