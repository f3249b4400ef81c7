-- No task before i has its slack above W − C.
use Rattle.laws.specs.First.{first}
use Rattle.wish_offsets.specs.Rows.{past_row}
use mathlib.Core.Path.{◌≡◌}
use Rattle.wish_offsets.proofs.first_past.Given as goal

abbrev pub invariant-loop-i : goal.invariant-loop-i
invariant-loop-i l = first (past_row l.slack l.room) l.i ≡ l.i
