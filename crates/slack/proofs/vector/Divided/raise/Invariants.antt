use mathlib.Core.Bool.{not}
use lib.Dec.{ltb, eqb}
use Rattle.laws.specs.First.{first}
use Rattle.laws.specs.Tab.{tab}
use Rattle.tasks.specs.TaskSet.{row}
use Rattle.slack.specs.Arrays.{lifted, upto}
use mathlib.Core.Path.{◌≡◌}
use Rattle.slack.proofs.vector.Divided.raise.Given as goal

abbrev pub invariant-loop-i : goal.invariant-loop-i
invariant-loop-i l = (l.slack ≡ tab (upto l.i (λ k. lifted l.whole l.over (row l.self.quotient k) (row l.self.rest k)) (row l.initial.slack)) 16)
    × (l.changed ≡ ltb (first (λ k. not (eqb (row l.initial.slack k) (lifted l.whole l.over (row l.self.quotient k) (row l.self.rest k)))) l.i) l.i)
