-- Where loops are no more than cores: every head runs in every tick, so every job finishes within its budget, whatever the offsets and the slack.
--     none-late         a head that is left out in a tick is in time after it, as there is none
--     own_core_kept     in every machine that is reached, chains and heads in time for the budget
use Rattle.std.specs.Prelude.{ℕ, suc, ◌≤◌, ◌<◌, Bool, false, ◌≡◌}
use Rattle.std.proofs.Common.{true≢false, sym, ◌∙◌, arith}
use Rattle.std.proofs.Math.Path.{refl}
use mathlib.Core.List.{List, [], ◌∷◌}
use Rattle.tasks.specs.TaskSet.{TaskSet}
use Rattle.machine.specs.Machine.{Job, Machine, waiting}
use Rattle.machine.specs.Reached.{EarliestFirst, Reached, opening, release, ticked}
use Rattle.machine.specs.Queue.{InTime}
use Rattle.machine.proofs.Choice.{each-runs}
use Rattle.machine.specs.Invariant.{Timely}
use Rattle.machine.proofs.Invariant.{opening-timely}
use Rattle.machine.proofs.Release.{release-timely}
use Rattle.machine.proofs.Tick.{ticked-timely}

module _ (s : TaskSet) (few : s.count ≤ s.cores) where
  none-late :
      (b : ℕ → ℕ) (M : Machine) (run : ℕ → Bool) → EarliestFirst s M run → (j : ℕ) → j < s.count → run j ≡ false
      → InTime (suc M.clock) (b j) (M.lane j).queue
  unfolding waiting
  none-late b M run E j h idle = go (M.lane j).queue refl
    where
      go : (q : List Job) → (M.lane j).queue ≡ q → InTime (suc M.clock) (b j) q
      go [] here = tt
      go (a ∷ q) here = absurd (true≢false (sym (each-runs s M run E few j h (rw here)) ∙ idle))

  pub own_core_kept :
      ((i : ℕ) → i < s.count → (s.task i).budget ≤ (s.task i).separation) → {M : Machine} → Reached s M → Timely s (λ i. (s.task i).budget) M
  own_core_kept small opening = opening-timely s _
  own_core_kept small (release {M = M} i c a r) = release-timely s M i c a _ (omega arith) (own_core_kept small r)
  own_core_kept small (ticked {M = M} run e r) = ticked-timely s _ M (own_core_kept small r) run small (none-late _ M run e)
