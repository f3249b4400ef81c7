-- Document 01, "Compliant slack": the numbers of a set of tasks. Document 01's loop is a task here; T, C, Y are its separation, budget and
-- offset, m is `cores` and n is `count`. Slack x is a row, a function of the loop.
--     TaskSet                   m cores and n tasks
--     plain_task, plain          a task by T, C and Y, and a task set of such tasks
--     hyperperiod               H
--     share, weight, surplus    of one task
--     counted, amount           the tasks with the m − 1 largest weights, and A
--     Compliant, covers         the condition, for all tasks and as a test of one
--     raise, found              the slack raised once, and raised from zeros until nothing changes
--     core_for_each               whether loops are no more than cores
--     bound_of, bound_by, bound   counted from release, of one task, of one with a core of its own or without, and of a set's
use Rattle.std.specs.Prelude.{ℕ, suc, ◌+◌, ◌-◌, ◌*◌, ◌/◌, ◌≤◌, ◌<◌, Bool, cond, List, get_or, replicate, leb}
use Rattle.laws.specs.Sum.{sum, sum_over}
use Rattle.laws.specs.Tab.{tab}
use Rattle.laws.specs.Rank.{largest}
use Rattle.laws.specs.Multiple.{lcm_below}
use Rattle.laws.specs.Settle.{settle}
use Rattle.tasks.specs.declared.Task.{Task}

pub record TaskSet : Type 0 where
  pub cores : ℕ
  pub count : ℕ
  pub task : ℕ → Task

-- a task by the three numbers that the analysis reads, its other places 0
abbrev pub plain_task : ℕ → ℕ → ℕ → Task
plain_task T C Y = record { separation = T; budget = C; offset = Y; deadline = 0 }

-- a task set of such tasks
unfoldable pub plain : TaskSet → TaskSet
plain s =
    record {
      cores = s.cores;
      count = s.count;
      task = λ i. plain_task (s.task i).separation (s.task i).budget (s.task i).offset;
    }

-- "H is the least common multiple of all T."
unfoldable pub hyperperiod : TaskSet → ℕ
hyperperiod s = lcm_below (λ i. (s.task i).separation) s.count

-- "The share of a loop is C × H / T, a whole number."
unfoldable pub share : TaskSet → ℕ → ℕ
share s i = (s.task i).budget * hyperperiod s / (s.task i).separation

-- "weight of loop i = share × (x + Y)"
unfoldable pub weight : TaskSet → (ℕ → ℕ) → ℕ → ℕ
weight s x i = share s i * (x i + (s.task i).offset)

-- "surplus of loop i = share × (T − Y)"
unfoldable pub surplus : TaskSet → ℕ → ℕ
surplus s i = share s i * ((s.task i).separation - (s.task i).offset)

-- the loops with "the m − 1 largest weights", largest first, equal weights by lower loop
unfoldable pub counted : TaskSet → (ℕ → ℕ) → List ℕ
counted s x = largest (s.cores - 1) (weight s x) s.count

-- "A = the sum of the m − 1 largest weights, plus all n surpluses"
unfoldable pub amount : TaskSet → (ℕ → ℕ) → ℕ
amount s x = sum_over (weight s x) (counted s x) + sum (surplus s) s.count

-- "m × H × x + H × C", loop k's side of the condition
unfoldable pub cover : TaskSet → (ℕ → ℕ) → ℕ → ℕ
cover s x k = s.cores * hyperperiod s * x k + hyperperiod s * (s.task k).budget

-- "slack is compliant if for every loop k: m × H × x + H × C is at least A"
unfoldable pub Compliant : TaskSet → (ℕ → ℕ) → Type 0
Compliant s x = (k : ℕ) → k < s.count → amount s x ≤ cover s x k

-- the same as a test of loop k
unfoldable pub covers : TaskSet → (ℕ → ℕ) → ℕ → Bool
covers s x k = leb (amount s x) (cover s x k)

-- the least whole v with m × H × v + H × C at least a
unfoldable pub needed : TaskSet → ℕ → ℕ → ℕ
needed s a k =
    (a - hyperperiod s * (s.task k).budget + (s.cores * hyperperiod s - 1)) / (s.cores * hyperperiod s)

-- a list of numbers as a row, 0 past its end
unfoldable pub row : List ℕ → ℕ → ℕ
row l i = get_or l i 0

-- every loop's slack raised to the least that covers A of the slack at hand
unfoldable pub raise : TaskSet → List ℕ → List ℕ
raise s x = tab (needed s (amount s (row x))) s.count

-- no table that passes 3 to 10 needs more slack than this at a loop
abbrev pub ceiling : ℕ
ceiling = 800000

-- "Where loops are no more than cores": n loops on m cores
abbrev pub core_for_each : ℕ → ℕ → Bool
core_for_each m n = leb n m

-- "starting at zeros, the vector is raised until nothing changes"; where loops are no more than cores, a loop's "slack is 0"
unfoldable pub found : TaskSet → List ℕ
found s =
    cond (core_for_each s.cores s.count)
    (replicate s.count 0)
    (settle (raise s) s.count (suc (s.count * ceiling)) (replicate s.count 0))

-- "The bound of a loop is Y + x + C, counted from release."
abbrev pub bound_of : Task → ℕ → ℕ
bound_of t x = t.offset + x + t.budget

-- the same, or where loops are no more than cores: "its bound is its budget"
abbrev pub bound_by : Bool → Task → ℕ → ℕ
bound_by each t x = cond each t.budget (bound_of t x)

unfoldable pub bound : TaskSet → (ℕ → ℕ) → ℕ → ℕ
bound s x i = bound_by (core_for_each s.cores s.count) (s.task i) (x i)
