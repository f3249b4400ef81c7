use Rattle.laws.specs.First.{first}
use Rattle.tasks.specs.TaskSet.{row}
use Rattle.tasks.specs.Tests.{bad_label}
use mathlib.Core.Path.{◌≡◌}
use Rattle.fields.proofs.frame.bad_label.Given as goal

abbrev pub invariant-loop-i : goal.invariant-loop-i
invariant-loop-i l = first (bad_label (row l.labels)) l.i ≡ l.i
