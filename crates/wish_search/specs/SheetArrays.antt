-- A wish sheet as the code works on it, from arrays.
--     SheetOf       the arrays and numbers are those of the sheet s
--     SheetWith     the same, with each budget divided by the number of cores
--     Onward        a number by which the slack x can be raised: it covers A, and every solution's slack covers what it needs
--     Ended         where the search ends: at the wished slack, or where it shows that there is no solution
use Rattle.std.specs.Prelude.{ℕ, ◌*◌, ◌≤◌, ◌<◌, ◌/◌, ◌%◌, ◌≡◌, true, false, List}
use Rattle.laws.specs.Tab.{tab, cut}
use Rattle.tasks.specs.TaskSet.{TaskSet, hyperperiod, share, amount, needed, row}
use Rattle.wishes.specs.Wish.{room, at_slack, wished, passes, no_solution}
use Rattle.wishes.specs.WishTheorems.{Sheet}
use Rattle.wishes.specs.RaisingLaws.{Solving, Below}

pub record SheetOf (s : TaskSet) (shares separations budgets rooms : List ℕ) (h m n : ℕ) : Type 0 where
  pub sheet : Sheet s
  pub cores : m ≡ s.cores
  pub tasks : n ≡ s.count
  pub multiple : h ≡ hyperperiod s
  pub share : (i : ℕ) → i < s.count → row shares i ≡ share s i
  pub separation : (i : ℕ) → i < s.count → row separations i ≡ (s.task i).separation
  pub budget : (i : ℕ) → i < s.count → row budgets i ≡ (s.task i).budget
  pub room : (i : ℕ) → i < s.count → row rooms i ≡ room (s.task i)

pub record SheetWith (s : TaskSet) (shares separations budgets rooms quotient rest : List ℕ) (h m n : ℕ) : Type 0 where
  pub of : SheetOf s shares separations budgets rooms h m n
  pub quotients : quotient ≡ tab (cut n (λ i. row budgets i / m) 0) 16
  pub remainders : rest ≡ tab (cut n (λ i. row budgets i % m) 0) 16

pub record Onward (s : TaskSet) (x : ℕ → ℕ) (d : ℕ) : Type 0 where
  pub high : amount (at_slack s x) x ≤ hyperperiod s * d
  pub under : Below s x → (v : ℕ → ℕ) → Solving s v → (k : ℕ) → k < s.count → needed s (hyperperiod s * d) k ≤ v k

pub record Ended (s : TaskSet) (slack : List ℕ) : Type 0 where
  pub past : (k : ℕ) → k < s.count → passes s (row slack) k ≡ true → no_solution s ≡ true
  pub solved : ((k : ℕ) → k < s.count → passes s (row slack) k ≡ false) → (no_solution s ≡ false) × (slack ≡ tab (row (wished s)) 16)
