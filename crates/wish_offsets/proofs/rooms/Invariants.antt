-- The array is filled in order.
use Rattle.laws.specs.Tab.{tab, cut}
use Rattle.wish_offsets.specs.Rows.{room_row}
use mathlib.Core.Path.{◌≡◌}
use Rattle.wish_offsets.proofs.rooms.Given as goal

abbrev pub invariant-loop-i : goal.invariant-loop-i
invariant-loop-i l = l.room ≡ tab (cut l.i (room_row l.wish l.budget) 0) 16
