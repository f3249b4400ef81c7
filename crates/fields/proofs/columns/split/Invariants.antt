use Rattle.laws.specs.Tab.{tab, cut}
use Rattle.tasks.specs.Content.{task_of}
use mathlib.Core.Path.{◌≡◌}
use Rattle.fields.proofs.columns.split.Given as goal

abbrev pub invariant-loop-i : goal.invariant-loop-i
invariant-loop-i l = (l.separation ≡ tab (cut l.i (λ k. (task_of l.task k).separation) 0) 16)
    × (l.budget ≡ tab (cut l.i (λ k. (task_of l.task k).budget) 0) 16)
    × (l.offset ≡ tab (cut l.i (λ k. (task_of l.task k).offset) 0) 16)
