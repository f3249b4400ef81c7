-- `logs::report::put_report` meets its contract: two numbers, one behind the other.
use Prim.Native.Nat.{◌+◌, ◌*◌}
use native.Mathlib.Omega.{arith}
use mathlib.Core.Path.{◌∙◌}
use Rattle.numbers.specs.Bytes.{digits}
use Rattle.numbers.specs.ByteLaws.{length_digits}
use Rattle.laws.specs.SetsLaws.{sets-next}
use Rattle.logs.proofs.report.put_report.Goals as goal

pub returns : goal.returns
returns c =
    let a = c.args in
    c.put4-2.ensures
    ∙ rw c.put4.ensures
    (sets-next a.out.now (8 * a.e) (8 * a.e + 4) (digits 4 a.kind) (digits 4 a.value) (omega (arith, length_digits 4 a.kind)))
