-- What the theorems on a wish sheet's offsets and slack speak of (document 02, §3).
--     sheet_limits        3 to 7, 26, 28, 9 and 10
--     Sheet              what they leave
--     Best               a solution whose slack is the least and whose offsets are the largest of all
use Rattle.std.specs.Prelude.{ℕ, ◌*◌, ◌≤◌, ◌<◌, ◌≡◌, false}
use mathlib.Core.List.{[], ◌∷◌}
use Rattle.tasks.specs.Answer.{Answer}
use Rattle.tasks.specs.TaskSet.{TaskSet, core_for_each}
use Rattle.tasks.specs.Content.{Content}
use Rattle.tasks.specs.Tests.{first_met, test3, test4, test6, test7, test28, test9, test10}
use Rattle.wishes.specs.Wish.{Solution, at_slack, sheet5, test26}
use Rattle.wishes.specs.WishLaws.{Within}

unfoldable pub sheet_limits : Content → Answer
sheet_limits c =
    first_met (test3 c ∷ test4 c ∷ sheet5 c ∷ test6 c ∷ test7 c ∷ test26 c ∷ test28 c ∷ test9 c ∷ test10 c ∷ [])

-- the sheet's content with slack x and the largest offsets that it leaves
unfoldable pub content_at : Content → (ℕ → ℕ) → Content
content_at c x = record { edition = c.edition; tasks = at_slack c.tasks x; label = c.label; offers = 0; slack = x }

pub record Sheet (s : TaskSet) : Type 0 where
  pub limits : Within s
  pub more-tasks : core_for_each s.cores s.count ≡ false
  pub wish_low : (i : ℕ) → i < s.count → (s.task i).budget ≤ (s.task i).offset
  pub wish_high : (i : ℕ) → i < s.count → (s.task i).offset ≤ 16 * (s.task i).separation

-- "The slack is the least and each offset the largest of all solutions."
pub record Best (s : TaskSet) (y x : ℕ → ℕ) : Type 0 where
  pub solution : Solution s y x
  pub least : (z v : ℕ → ℕ) → Solution s z v → (i : ℕ) → i < s.count → x i ≤ v i
  pub largest : (z v : ℕ → ℕ) → Solution s z v → (i : ℕ) → i < s.count → z i ≤ y i
