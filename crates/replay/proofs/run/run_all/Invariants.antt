-- `replay::run::run_all` meets its contract; the loop's invariant says that the entries so far are entered.
use Rattle.running.specs.RunCode.{EntersTo}
use Rattle.onward.specs.Arrays.{arrays_of}
use Rattle.entry.specs.Start.{at_start}
use mathlib.Core.Path.{◌≡◌}
use lib.ListN.{length}
use Rattle.replay.proofs.run.run_all.Given as goal

abbrev pub invariant-loop-e : goal.invariant-loop-e
invariant-loop-e l = (length l.out ≡ length l.initial.out)
    × EntersTo l.on.log.now l.count l.on.cores l.on.tasks l.on.columns.separation l.on.columns.budget l.on.columns.offset (arrays_of at_start.pending l.initial.out) at_start.released at_start.last l.e l.run.pending.clock l.taken
    (arrays_of l.run.pending l.out) l.run.released l.run.last
