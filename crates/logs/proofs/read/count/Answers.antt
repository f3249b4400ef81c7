-- `logs::read::count` meets its contract: two bytes, low byte first.
use native.Mathlib.Omega.{arith}
use Rattle.logs.specs.LogLaws.{count-bytes}
use Rattle.logs.proofs.read.count.Goals as goal

pub returns : goal.returns
returns c = let a = c.args in omega (arith, count-bytes a.log.now)
