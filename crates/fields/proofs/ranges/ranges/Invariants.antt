-- `fields::ranges::ranges` meets its contract; the invariant says that number and index are the answer for the tasks before i.
use mathlib.Core.Path.{◌≡◌}
use Rattle.tasks.specs.Content.{task_of}
use Rattle.fields.specs.ScanLaws.{scan, range_tests, seen}
use Rattle.fields.proofs.ranges.ranges.Given as goal

abbrev pub invariant-loop-i : goal.invariant-loop-i
invariant-loop-i l = scan (range_tests l.edition l.wishes (task_of l.task)) l.i ≡ seen l.number l.index
