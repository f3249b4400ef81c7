-- The terms in which the laws of proofs/ speak of a task set, a content and a plan.
--     Timed           what 6 and 7 leave: separations and budgets at least 1, no budget above its separation
--     Raised          what a turn of the search makes of a slack
--     Rising          what holds of every slack on the way: the next turn takes nothing off it, and no compliant slack is below it
--     with_slack      a plan with this slack in place of its own
--     Fits            the content's counts are within a plan's arrays, its rows are zero past the counts, and so are deadlines that its edition doesn't have
--     limit_tests     3 to 10, and 28; slack_tests: 11 to 13
--     Labelled        the labels are below 64 and rise
--     Passed          what holds where none of 3 to 13 and 28 is met, part by part
--     Common          a number that is at least 1 and that every separation divides
--     Candidates      m − 1 loops of the table
--     ByWeight        m − 1 loops by the size of their weights: none left out comes before one of them
--     Least           compliant slack that is no larger at any loop than any other
use Rattle.std.specs.Prelude.{ℕ, suc, ◌-◌, ◌%◌, ◌≤◌, ◌<◌, ◌≡◌, ◌⊎◌, true, false, List, [], ◌∷◌, length}
use Rattle.laws.specs.Member.{member, Distinct}
use Rattle.tasks.specs.declared.Plan.{Plan}
use Rattle.tasks.specs.Answer.{Answer}
use Rattle.tasks.specs.TaskSet.{TaskSet, weight, amount, needed, Compliant, core_for_each, found, row}
use Rattle.tasks.specs.Content.{has_deadlines, in_edition, Content, no_task}
use Rattle.tasks.specs.Limits.{Limits, Enough, Bounded}
use Rattle.tasks.specs.Tests.{first_met, test3, test4, test5, test6, test7, test8, test28, test9, test10, test11, test12, test13}

pub record Timed (s : TaskSet) : Type 0 where
  pub separation-low : (i : ℕ) → i < s.count → 1 ≤ (s.task i).separation
  pub budget-low : (i : ℕ) → i < s.count → 1 ≤ (s.task i).budget
  pub budget-high : (i : ℕ) → i < s.count → (s.task i).budget ≤ (s.task i).separation

-- y is x raised once
unfoldable pub Raised : TaskSet → (ℕ → ℕ) → (ℕ → ℕ) → Type 0
Raised s x y = (k : ℕ) → k < s.count → y k ≡ needed s (amount s x) k

pub record Rising (s : TaskSet) (x : ℕ → ℕ) : Type 0 where
  pub rises : (k : ℕ) → k < s.count → x k ≤ needed s (amount s x) k
  pub least : (y : ℕ → ℕ) → Compliant s y → (k : ℕ) → k < s.count → x k ≤ y k

unfoldable pub with_slack : Plan → List ℕ → Plan
with_slack p x =
    record {
      edition = p.edition;
      offered = p.offered;
      cores = p.cores;
      tasks = p.tasks;
      labels = p.labels;
      task = p.task;
      slack = x;
    }

pub record Fits (c : Content) : Type 0 where
  pub cores-high : c.tasks.cores ≤ 8
  pub tasks-high : c.tasks.count ≤ 16
  pub label-past : (i : ℕ) → c.tasks.cores ≤ i → c.label i ≡ 0
  pub task-past : (i : ℕ) → c.tasks.count ≤ i → c.tasks.task i ≡ no_task
  pub slack-past : (i : ℕ) → c.tasks.count ≤ i → c.slack i ≡ 0
  pub deadlines : (i : ℕ) → in_edition c.edition (c.tasks.task i) ≡ c.tasks.task i
  pub offers : (c.offers ≡ 0) ⊎ (c.offers ≡ c.tasks.count)

unfoldable pub limit_tests : Content → Answer
limit_tests c =
    first_met (test3 c ∷ test4 c ∷ test5 c ∷ test6 c ∷ test7 c ∷ test8 c ∷ test28 c ∷ test9 c ∷ test10 c ∷ [])

unfoldable pub slack_tests : Content → Answer
slack_tests c = first_met (test11 c ∷ test12 c ∷ test13 c ∷ [])

-- "a hardware label 0 to 63, strictly rising"
pub record Labelled (c : Content) : Type 0 where
  pub label-high : (i : ℕ) → i < c.tasks.cores → c.label i ≤ 63
  pub label-rises : (i : ℕ) → suc i < c.tasks.cores → c.label i < c.label (suc i)

-- what holds where none of 3 to 13 and 28 is met
pub record Passed (c : Content) : Type 0 where
  pub limits : Limits c.tasks
  pub labelled : Labelled c
  pub deadline-high : has_deadlines c.edition ≡ true → (i : ℕ) → i < c.tasks.count → (c.tasks.task i).deadline ≤ 1600000
  pub offers : (c.offers ≡ 0) ⊎ (c.offers ≡ c.tasks.count)
  -- where loops are no more than cores no slack is offered
  pub unoffered : core_for_each c.tasks.cores c.tasks.count ≡ true → c.offers ≡ 0
  -- "A plan marked as found" has the found slack
  pub as_found : c.offers ≡ 0 → (k : ℕ) → k < c.tasks.count → c.slack k ≡ row (found c.tasks) k
  pub compliant : Enough c.tasks c.slack
  pub bounded : Bounded c.tasks c.slack

pub record Common (s : TaskSet) (h : ℕ) : Type 0 where
  pub positive : 1 ≤ h
  pub divided : (i : ℕ) → i < s.count → h % (s.task i).separation ≡ 0

pub record Candidates (s : TaskSet) (l : List ℕ) : Type 0 where
  pub loops : (i : ℕ) → member i l ≡ true → i < s.count
  pub distinct : Distinct l
  pub many : length l ≡ s.cores - 1

-- "names its loops, largest first, equal weights by lower loop"
pub record ByWeight (s : TaskSet) (x : ℕ → ℕ) (l : List ℕ) : Type 0 where
  pub loops : Candidates s l
  pub largest : (i j : ℕ) → member i l ≡ true → j < s.count → member j l ≡ false → weight s x j ≤ weight s x i
  pub lower : (i j : ℕ) → member i l ≡ true → j < s.count → member j l ≡ false → weight s x j ≡ weight s x i → i < j
  pub falling : (a b : ℕ) → a < b → b < length l → weight s x (row l b) ≤ weight s x (row l a)
  pub rising : (a b : ℕ) → a < b → b < length l → weight s x (row l b) ≡ weight s x (row l a) → row l a < row l b

pub record Least (s : TaskSet) (x : ℕ → ℕ) : Type 0 where
  pub compliant : Compliant s x
  pub least : (y : ℕ → ℕ) → Compliant s y → (k : ℕ) → k < s.count → x k ≤ y k
