-- `numbers::number4` meets its contract.
use native.Mathlib.Omega.{arith}
use Rattle.numbers.specs.Bytes.{byte}
use Rattle.numbers.specs.ByteLaws.{number-four}
use Rattle.numbers.proofs.number4.Goals as goal

pub returns : goal.returns
unfolding byte
returns c = omega (arith, number-four c.args.t.now c.args.at, c.from_le_bytes.ensures)
