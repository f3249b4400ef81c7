-- The slack rises from zeros and stays below every compliant slack; the names can be handed to the choice again.
use Rattle.laws.specs.Sum.{sum}
use Rattle.largest.specs.Chosen.{Arranged}
use Rattle.tasks.specs.TaskSet.{TaskSet, row}
use Rattle.tasks.specs.Terms.{Rising}
use Rattle.slack.specs.Loads.{LoadOf}
use Prim.Native.Nat.{ℕ, ◌≤◌, ◌*◌, ◌-◌}
use mathlib.Core.Path.{◌≡◌}
use lib.ListN.{length}
use Rattle.slack.proofs.amount.Load.search.Given as goal

abbrev pub invariant-loop-divided : goal.invariant-loop-divided
invariant-loop-divided l = (length l.slack ≡ 16)
    × ((k : ℕ) → l.self.tasks ≤ k → row l.slack k ≡ 0)
    × Arranged l.names l.self.tasks
    × ((s : TaskSet) → LoadOf s l.self l.budget → Rising s (row l.slack))

abbrev pub decreases-loop-divided : goal.decreases-loop-divided
decreases-loop-divided l = l.self.tasks * 800000 - sum (row l.slack) l.self.tasks
