-- `reader::load_slack` meets its contract: the array is filled in order.
use native.Mathlib.Omega.{arith}
use Rattle.laws.specs.TabLaws.{filled_none}
use Rattle.reader.specs.LoadLaws.{filled_step, filled_end}
use Rattle.reader.proofs.load_slack.Goals as goal

pub loop-i-init : goal.loop-i-init
loop-i-init c = filled_none _ 0 16

pub loop-i-preserved : goal.loop-i-preserved
loop-i-preserved c = filled_step _ 0 _ 16 _ _ (omega arith) c.loop-i.invariant c.number4.ensures

pub returns : goal.returns
returns c = filled_end _ 0 _ 16 _ _ (omega arith) c.loop-i.invariant
