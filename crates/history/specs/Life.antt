-- The life of one taken release in a history of the abstract machine: it is pending, with so many ticks of work up to and with it, or it has
-- ended in time.
--     Upto r k q         q holds a job released at r, with k ticks of work up to and with it
--     Life               pending or ended in time
use Prim.Native.Nat.{ℕ, suc, ◌+◌, ◌-◌, ◌≤◌, ◌<◌}
use Rattle.std.specs.Prelude.{◌≡◌, ◌⊎◌}
use mathlib.Core.List.{List, [], ◌∷◌}
use Rattle.tasks.specs.TaskSet.{TaskSet, bound}
use Rattle.machine.specs.Machine.{Job, job}
use Rattle.history.specs.Engine.{Call, clock, state, named_ticks, Ends}
use Rattle.history.specs.OnMachine.{machine_engine}

abbrev pub Upto : ℕ → ℕ → List Job → Type 0
Upto r k [] = ⊥
Upto r k (job a w ∷ q) = ((a ≡ r) × (w ≡ k)) ⊎ ((w < k) × Upto r (k - w) q)

-- loop i's release at tick r, whose demand and those before it add up to d
pub data Life (s : TaskSet) (x : ℕ → ℕ) (h : List Call) (i d r : ℕ) : Type 0 where
  pending :
      (k : ℕ) → Upto r (suc k) ((state (machine_engine s) h).lane i).queue → named_ticks (machine_engine s) h i (clock h) + suc k ≡ d
      → Life s x h i d r
  ended : (f : ℕ) → Ends (machine_engine s) h i d f → f ≤ r + bound s x i → Life s x h i d r
