-- What the bound theorem speaks of: the machines that are reached from an opening, under any choice of who runs, and what is claimed of them.
--     EarliestFirst s M run     the three facts of a choice `run` that are used: nothing is said of equal priority points
--     Reached s M               M is reached from the opening by taken releases and ticks, in any order
--     AllInTime t b q           each job of q is in time for the bound b, counted from its release
--     OnTime s x M              the claim
use Rattle.std.specs.Prelude.{ℕ, ◌+◌, ◌≤◌, ◌<◌, min, Bool, true, false, ◌≡◌, List, [], ◌∷◌, length}
use Rattle.laws.specs.Sum.{count}
use Rattle.tasks.specs.TaskSet.{TaskSet, bound}
use Rattle.tasks.specs.Limits.{Bounded}
use Rattle.machine.specs.Machine.{Job, job, Machine, opened, too_soon, Allowed, admitted, waiting, point, advanced, responses}

pub record EarliestFirst (s : TaskSet) (M : Machine) (run : ℕ → Bool) : Type 0 where
  -- whoever runs is a head
  pub heads : (i : ℕ) → run i ≡ true → (i < s.count) × (waiting M i ≡ true)
  -- as many run as there are cores, or heads if these are fewer
  pub many : count run s.count ≡ min s.cores (count (waiting M) s.count)
  -- no head that is left out has an earlier priority point than one that runs
  pub order :
      (i j : ℕ) → run i ≡ true → j < s.count → waiting M j ≡ true → run j ≡ false → point s M i ≤ point s M j

pub data Reached (s : TaskSet) : Machine → Type 0 where
  opening : Reached s opened
  release : {M : Machine} (i c : ℕ) → Allowed s M i c → Reached s M → Reached s (admitted i c M)
  ticked : {M : Machine} (run : ℕ → Bool) → EarliestFirst s M run → Reached s M → Reached s (advanced run M)

-- A loop works on one job at a time, so the job behind one with w left cannot start before t + w.
abbrev pub AllInTime : ℕ → ℕ → List Job → Type 0
AllInTime t b [] = Unit {0}
AllInTime t b (job r w ∷ q) = (t + w ≤ r + b) × AllInTime (t + w) b q

pub record OnTime (s : TaskSet) (x : ℕ → ℕ) (M : Machine) : Type 0 where
  -- every pending job is in time for its bound
  pub pending : (i : ℕ) → i < s.count → AllInTime M.clock (bound s x i) (M.lane i).queue
  -- whoever runs in a tick, a job that finishes in it has finish tick − release tick at most its bound: offset + slack + budget, or the budget
  -- alone where loops are no more than cores. (No release is after the clock, so this difference isn't cut at 0: Sound.antt.)
  pub finished : (run : ℕ → Bool) (i : ℕ) → i < s.count → responses run M i ≤ bound s x i
  -- a loop whose separation has passed holds fewer than 16 jobs, so that 23 is never met
  pub room : Bounded s x → (i : ℕ) → i < s.count → too_soon s M i ≡ false → length (M.lane i).queue < 16
