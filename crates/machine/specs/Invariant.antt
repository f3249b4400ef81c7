-- The invariant of the machine's state that carries the bound where loops are more than cores.
--     Setting s x          what is used of a task set within the limits and of compliant slack
--     next_of, potential    the next release of a loop; the work owed by a threshold y, times H, with a straight line for future releases
--     Timely s b M         the loops' chains, and every head in time for the bound b of its loop: all that being on time rests on
--     shared_bound, Due     Y + x + C; a loop's head is in time for it
--     Invariant s x M      the loops' chains, D, I1 and I2
use Rattle.std.specs.Prelude.{ℕ, suc, ◌+◌, ◌*◌, ◌≤◌, ◌<◌, Bool, ◌≡◌, List}
use Rattle.laws.specs.Sum.{sum, count}
use Rattle.laws.specs.SumLaws.{sum_in}
use Rattle.tasks.specs.TaskSet.{TaskSet, hyperperiod, share, weight, surplus, amount, Compliant, bound_of}
use Rattle.machine.specs.Machine.{Job, Machine}
use Rattle.machine.specs.Queue.{next, Chain, InTime}
use Rattle.machine.specs.Owed.{owed, line}
use Rattle.machine.specs.Choice.{early_at}

pub record Setting (s : TaskSet) (x : ℕ → ℕ) : Type 0 where
  pub cores-low : 1 ≤ s.cores
  pub period_low : 1 ≤ hyperperiod s
  pub budget-high : (i : ℕ) → i < s.count → (s.task i).budget ≤ (s.task i).separation
  pub offset-high : (i : ℕ) → i < s.count → (s.task i).offset ≤ (s.task i).separation
  pub share_exact : (i : ℕ) → i < s.count → share s i * (s.task i).separation ≡ hyperperiod s * (s.task i).budget
  pub share_le : (i : ℕ) → i < s.count → share s i ≤ hyperperiod s
  pub shares_high : sum (share s) s.count ≤ s.cores * hyperperiod s
  -- A is at least the weights of any m − 1 loops and all surpluses
  pub amount_best :
      (p : ℕ → Bool) → count p s.count < s.cores → sum_in p (weight s x) s.count + sum (surplus s) s.count ≤ amount s x
  pub compliant : Compliant s x

unfoldable pub next_of : TaskSet → Machine → ℕ → ℕ
next_of s M i = next (s.task i).separation M.clock (M.lane i).last

-- V(y) of loop i
unfoldable pub potential_of : TaskSet → Machine → ℕ → ℕ → ℕ
potential_of s M y i =
    owed (hyperperiod s) (s.task i).offset y (M.lane i).queue
    + line (share s i) (s.task i).separation (s.task i).offset y (next_of s M i)

-- V(y)
unfoldable pub potential : TaskSet → Machine → ℕ → ℕ
potential s M y = sum (potential_of s M y) s.count

abbrev pub Chained : TaskSet → Machine → ℕ → Type 0
Chained s M i = Chain (s.task i).separation (s.task i).budget (next_of s M i) 0 (M.lane i).queue

pub record Timely (s : TaskSet) (b : ℕ → ℕ) (M : Machine) : Type 0 where
  pub chain : (i : ℕ) → i < s.count → Chained s M i
  pub in_time : (i : ℕ) → i < s.count → InTime M.clock (b i) (M.lane i).queue

-- the bound of loops that are more than the cores they share
abbrev pub shared_bound : TaskSet → (ℕ → ℕ) → ℕ → ℕ
shared_bound s x i = bound_of (s.task i) (x i)

-- the head of loop i's queue q is in time at t
abbrev pub Due : TaskSet → (ℕ → ℕ) → ℕ → ℕ → List Job → Type 0
Due s x t i q = InTime t (shared_bound s x i) q

pub record Invariant (s : TaskSet) (x : ℕ → ℕ) (M : Machine) : Type 0 where
  -- chains, and D: every head is in time
  pub timely : Timely s (shared_bound s x) M
  -- I1, at y = t + d
  pub ahead : (d : ℕ) → potential s M (M.clock + d) ≤ amount s x + s.cores * hyperperiod s * d
  -- I2, at y = t − (d + 1): fewer than m heads have a priority point of at most y, or this
  pub behind :
      (y d : ℕ) → y + suc d ≡ M.clock → s.cores ≤ count (early_at s M y) s.count
      → potential s M y + s.cores * hyperperiod s * suc d ≤ amount s x
