-- `onward::Pending::advance` meets its contract; the loop's invariant says where the leaps so far have led, its measure that they
-- are at most one more than the jobs that finish.
use Rattle.running.specs.Leap.{pending_in, Advanced}
use Rattle.onward.specs.Arrays.{arrays_of}
use Prim.Native.Nat.{◌+◌, ◌≤◌, ◌-◌, min}
use mathlib.Core.Path.{◌≡◌}
use lib.ListN.{length}
use Rattle.onward.proofs.Pending.advance.Given as goal

abbrev pub invariant-loop-self : goal.invariant-loop-self
invariant-loop-self l = (l.initial.self.clock ≤ l.self.clock)
    × (l.self.clock ≤ l.to)
    × (length l.out ≡ length l.initial.out)
    × Advanced l.on.log.now l.on.cores l.on.columns.offset l.initial.self.clock l.to (arrays_of l.initial.self l.initial.out) l.self.clock (arrays_of l.self l.out)

abbrev pub decreases-loop-self : goal.decreases-loop-self
decreases-loop-self l = pending_in l.self.jobs + min 1 (l.to - l.self.clock)
