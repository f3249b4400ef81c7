-- The slack as the code works it out, from arrays.
--     uncovered    whether m × H × x + H × C of task k is below the amount
--     lifted       the least slack, from what is needed and the budget, both divided by the number of cores
--     need         what an amount needs: it divided by H, rounded up
--     upto         the row f below n and g from n on
--     ArraysOf     the arrays and numbers are those of the task set s, which has more loops than cores
--     Needs        what A of the slack x needs, and the tasks counted at x first among the names
--     Had          the slack x in an array, and of more loops than cores the tasks counted at it first among the names
use Rattle.std.specs.Prelude.{ℕ, ◌+◌, ◌*◌, ◌-◌, ◌/◌, ◌≤◌, ◌<◌, ◌≡◌, Bool, false, cond, List, ltb, take}
use Rattle.laws.specs.Sum.{sum}
use Rattle.laws.specs.Tab.{tab}
use Rattle.tasks.specs.TaskSet.{TaskSet, hyperperiod, share, surplus, counted, amount, core_for_each, row}
use Rattle.tasks.specs.Limits.{Limits}

unfoldable pub uncovered : ℕ → ℕ → ℕ → List ℕ → List ℕ → ℕ → Bool
uncovered amount multiple cores budget slack k =
    ltb (cores * multiple * row slack k + multiple * row budget k) amount

unfoldable pub lifted : ℕ → ℕ → ℕ → ℕ → ℕ
lifted whole over quotient rest = whole + cond (ltb rest over) 1 0 - quotient

-- ⌈a / h⌉
unfoldable pub need : ℕ → ℕ → ℕ
need a h = (a + (h - 1)) / h

unfoldable pub upto : ℕ → (ℕ → ℕ) → (ℕ → ℕ) → ℕ → ℕ
upto n f g i = cond (ltb i n) (f i) (g i)

pub record ArraysOf (s : TaskSet) (shares budgets offsets : List ℕ) (h surpluses m n : ℕ) : Type 0 where
  pub limits : Limits s
  pub more-tasks : s.cores < s.count
  pub cores : m ≡ s.cores
  pub tasks : n ≡ s.count
  pub multiple : h ≡ hyperperiod s
  pub surplus : surpluses ≡ sum (surplus s) s.count
  pub share : (i : ℕ) → i < s.count → row shares i ≡ share s i
  pub budget : (i : ℕ) → i < s.count → row budgets i ≡ (s.task i).budget
  pub offset : (i : ℕ) → i < s.count → row offsets i ≡ (s.task i).offset

pub record Needs (s : TaskSet) (x : ℕ → ℕ) (names : List ℕ) (d : ℕ) : Type 0 where
  pub needs : d ≡ need (amount s x) (hyperperiod s)
  pub limit : d ≤ 12000000
  pub counts : take (s.cores - 1) names ≡ counted s x

pub record Had (s : TaskSet) (x : ℕ → ℕ) (slack names : List ℕ) : Type 0 where
  pub places : slack ≡ tab x 16
  pub counts : core_for_each s.cores s.count ≡ false → take (s.cores - 1) names ≡ counted s x
