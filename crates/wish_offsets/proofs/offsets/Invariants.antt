-- The array is filled in order.
use Rattle.laws.specs.Tab.{tab, cut}
use Rattle.wish_offsets.specs.Rows.{offset_row}
use mathlib.Core.Path.{◌≡◌}
use Rattle.wish_offsets.proofs.offsets.Given as goal

abbrev pub invariant-loop-i : goal.invariant-loop-i
invariant-loop-i l = l.offset ≡ tab (cut l.i (offset_row l.separation l.room l.slack) 0) 16
