use mathlib.Core.Bool.{not}
use lib.Dec.{eqb}
use Rattle.laws.specs.First.{first}
use Rattle.tasks.specs.TaskSet.{row}
use mathlib.Core.Path.{◌≡◌}
use Rattle.analysis.proofs.plan_test.first_other.Given as goal

abbrev pub invariant-loop-i : goal.invariant-loop-i
invariant-loop-i l = first (λ k. not (eqb (row l.slack k) (row l.found k))) l.i ≡ l.i
