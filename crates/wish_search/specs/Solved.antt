-- What the tests of a wish sheet answer, stage by stage, and what is found.
--     WishRanges     what 6, 7 and 26 leave
--     last_tests      11 and 27
--     FoundIn        the offsets and the slack that are found, in arrays
--     RatesSolved    the answer by 9, 10, 11 and 27, and where it is no refusal what is found
--     TasksSolved    the same with 6, 7, 26 and 28 before them; PlanSolved: with 3 to 5 before these
use Rattle.std.specs.Prelude.{IfOk, Result, ℕ, ◌*◌, ◌≤◌, ◌<◌, ◌≡◌, not, [], ◌∷◌, eqb}
use Rattle.laws.specs.Tab.{tab, cut}
use Rattle.tasks.specs.declared.Plan.{Plan}
use Rattle.tasks.specs.declared.refusal.Refusal.{Refusal}
use Rattle.tasks.specs.Answer.{Answer, answer_of}
use Rattle.tasks.specs.TaskSet.{TaskSet, row}
use Rattle.tasks.specs.Content.{Content}
use Rattle.tasks.specs.Terms.{Timed}
use Rattle.tasks.specs.Tests.{refuse, first_met, or_next, test6, test7, test28, test9, test10}
use Rattle.slack.specs.Rates.{rates_test}
use Rattle.analysis.specs.SlackTest.{offering}
use Rattle.wishes.specs.Wish.{largest_offset, wished, no_solution, test26, sheet11, test27, wish_tests}
use Rattle.wish_search.specs.declared.solve.Solved.{Solved}

pub record WishRanges (s : TaskSet) : Type 0 where
  pub timed : Timed s
  pub separation : (i : ℕ) → i < s.count → (s.task i).separation ≤ 100000
  pub low : (i : ℕ) → i < s.count → (s.task i).budget ≤ (s.task i).offset
  pub high : (i : ℕ) → i < s.count → (s.task i).offset ≤ 16 * (s.task i).separation

unfoldable pub last_tests : TaskSet → ℕ → Answer
last_tests s k = first_met (refuse 11 (not (eqb k 0)) ∷ refuse 27 (no_solution s) ∷ [])

pub record FoundIn (s : TaskSet) (r : Solved) : Type 0 where
  pub offsets : r.offset ≡ tab (cut s.count (λ i. largest_offset (s.task i) (row (wished s) i)) 0) 16
  pub slack : r.slack ≡ tab (row (wished s)) 16

pub record RatesSolved (s : TaskSet) (k : ℕ) (r : Result Solved Refusal) : Type 0 where
  pub answer : answer_of r ≡ or_next (rates_test s) (last_tests s k)
  pub found : IfOk r (FoundIn s)

-- 6, 7, 26, 28, 9, 10, 11 and 27, in three stages
unfoldable pub wish_task_tests : Content → Answer
wish_task_tests c =
    or_next (first_met (test6 c ∷ test7 c ∷ test26 c ∷ test28 c ∷ []))
    (or_next (first_met (test9 c ∷ test10 c ∷ [])) (first_met (sheet11 c ∷ test27 c ∷ [])))

pub record TasksSolved (p : Plan) (k : ℕ) (r : Result Solved Refusal) : Type 0 where
  pub answer : answer_of r ≡ wish_task_tests (offering p k)
  pub found : IfOk r (FoundIn (offering p k).tasks)

pub record PlanSolved (p : Plan) (k : ℕ) (r : Result Solved Refusal) : Type 0 where
  pub answer : answer_of r ≡ wish_tests (offering p k)
  pub found : IfOk r (FoundIn (offering p k).tasks)
