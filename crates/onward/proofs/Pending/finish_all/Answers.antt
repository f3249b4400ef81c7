-- `onward::Pending::finish_all` meets its contract; the loop's invariant says which tasks are noted so far.
use Rattle.running.proofs.AllCode.{all_none, all_one, all_more}
use Rattle.tasks.specs.TaskSet.{row}
use native.Mathlib.Omega.{arith}
use mathlib.Core.Path.{refl}
use borrow.Author.Rules.{rules}
use Rattle.onward.proofs.Pending.finish_all.Goals as goal

pub loop-a-init : goal.loop-a-init
loop-a-init c = (refl, all_none)

pub finish-requires : goal.finish-requires
unfolding row
finish-requires c = all_one (omega arith) c.loop-a.invariant.1 c.requires.1

pub loop-a-preserved : goal.loop-a-preserved
unfolding row
loop-a-preserved c = (search rules, all_more (omega arith) c.loop-a.invariant.1 c.finish.ensures)
