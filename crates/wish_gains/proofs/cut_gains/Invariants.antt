-- The array is filled in order.
use mathlib.Core.List.{[]}
use mathlib.Core.Path.{◌≡◌}
use lib.ListN.{length}
use Rattle.wish_gains.specs.Gains.{Gains}
use Rattle.wish_gains.proofs.cut_gains.Given as goal

abbrev pub invariant-loop-i : goal.invariant-loop-i
invariant-loop-i l = (length l.gain ≡ 16) × Gains l.share l.separation l.room l.slack [] l.i l.gain
