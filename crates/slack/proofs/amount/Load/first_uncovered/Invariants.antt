use Rattle.laws.specs.First.{first}
use Rattle.slack.specs.Arrays.{uncovered}
use mathlib.Core.Path.{◌≡◌}
use Rattle.slack.proofs.amount.Load.first_uncovered.Given as goal

abbrev pub invariant-loop-i : goal.invariant-loop-i
invariant-loop-i l = first (uncovered l.amount l.self.multiple l.self.cores l.budget l.slack) l.i ≡ l.i
