-- `onward::Pending::finish_all` meets its contract; the loop's invariant says which tasks are noted so far.
use Rattle.running.specs.AllCode.{AllFinished}
use Rattle.onward.specs.Arrays.{arrays_of}
use mathlib.Core.Path.{◌≡◌}
use lib.ListN.{length}
use Rattle.onward.proofs.Pending.finish_all.Given as goal

abbrev pub invariant-loop-a : goal.invariant-loop-a
invariant-loop-a l = (length l.out ≡ length l.initial.out)
    × AllFinished l.done.tasks l.done.count l.clock l.on.log.now l.on.columns.offset (arrays_of l.initial.self l.initial.out) l.a (arrays_of l.self l.out)
