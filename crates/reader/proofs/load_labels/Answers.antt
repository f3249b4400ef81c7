-- `reader::load_labels` meets its contract: the array is filled in order.
use native.Mathlib.Omega.{arith}
use mathlib.Core.Path.{refl}
use Rattle.laws.specs.TabLaws.{filled_none}
use Rattle.numbers.specs.Bytes.{byte}
use Rattle.reader.specs.LoadLaws.{filled_step, filled_end}
use Rattle.reader.proofs.load_labels.Goals as goal

pub loop-i-init : goal.loop-i-init
loop-i-init c = filled_none _ 0 8

pub loop-i-preserved : goal.loop-i-preserved
unfolding byte
loop-i-preserved c = filled_step _ 0 _ 8 _ _ (omega arith) c.loop-i.invariant refl

pub returns : goal.returns
returns c = filled_end _ 0 _ 8 _ _ (omega arith) c.loop-i.invariant
