-- What a plan's slack is tested to, before its bounds are tested.
--     offering       what a plan says, with a slack count of its own: a table's may be any, a plan's is 0 or n
--     offered_test    12 of offered slack
--     task_tests      6 to 12, and 28
--     had_slack       the slack: offered, or found
--     Offered        12 of offered slack, and that slack with zeros in unused places, with the tasks counted at it
--     Unoffered      slack that is not offered, with the tasks counted at it
--     RatesTested    the answer by 9 to 12, and the slack with the tasks counted at it
--     TasksTested    the answer by 6 to 12, and the same
--     PlanTested     the answer by 3 to 12, and the same where none is met
use Rattle.std.specs.Prelude.{IfOk, Result, ℕ, ◌≡◌, cond, List, [], ◌∷◌, eqb}
use Rattle.laws.specs.Tab.{cut}
use Rattle.tasks.specs.declared.Plan.{Plan}
use Rattle.tasks.specs.declared.refusal.Refusal.{Refusal}
use Rattle.tasks.specs.Answer.{Answer, Accepted, answer_of}
use Rattle.tasks.specs.TaskSet.{TaskSet, found, row}
use Rattle.tasks.specs.Content.{Content, content_of}
use Rattle.tasks.specs.Tests.{refuse, first_met, or_next, bad_offers, compliant_test, test6, test7, test8, test28, test9, test10, test11}
use Rattle.tasks.specs.Terms.{limit_tests}
use Rattle.slack.specs.Rates.{rates_test}
use Rattle.slack.specs.Arrays.{Had}
use Rattle.analysis.specs.declared.slack_test.Tested.{Tested}

unfoldable pub offering : Plan → ℕ → Content
offering p k =
    record {
      edition = (content_of p).edition;
      tasks = (content_of p).tasks;
      label = (content_of p).label;
      offers = k;
      slack = (content_of p).slack;
    }

unfoldable pub offered_test : Content → Answer
offered_test c =
    cond (eqb c.offers 0) Accepted (compliant_test c.tasks c.slack)

-- 6 to 12, and 28, in three stages
unfoldable pub task_tests : Content → Answer
task_tests c =
    or_next (first_met (test6 c ∷ test7 c ∷ test8 c ∷ test28 c ∷ []))
    (or_next (first_met (test9 c ∷ test10 c ∷ [])) (first_met (test11 c ∷ offered_test c ∷ [])))

unfoldable pub had_slack : Content → ℕ → ℕ
had_slack c = cond (eqb c.offers 0) (row (found c.tasks)) c.slack

-- 12 of offered slack, from an array that may hold more than the used places
pub record Offered (s : TaskSet) (slack : List ℕ) (r : Result Tested Refusal) : Type 0 where
  pub answer : answer_of r ≡ compliant_test s (cut s.count (row slack) 0)
  pub had : IfOk r (λ t. Had s (cut s.count (row slack) 0) t.slack t.names)

pub record Unoffered (s : TaskSet) (r : Tested) : Type 0 where
  pub had : Had s (row (found s)) r.slack r.names

-- 11, and 12 of offered slack
unfoldable pub slack_test : TaskSet → List ℕ → ℕ → Answer
slack_test s slack k =
    first_met
    (refuse 11 (bad_offers s k) ∷ cond (eqb k 0) Accepted (compliant_test s (cut s.count (row slack) 0)) ∷ [])

-- 9 to 12
pub record RatesTested (s : TaskSet) (slack : List ℕ) (k : ℕ) (r : Result Tested Refusal) : Type 0 where
  pub answer : answer_of r ≡ or_next (rates_test s) (slack_test s slack k)
  pub had : IfOk r (λ t. Had s (cond (eqb k 0) (row (found s)) (cut s.count (row slack) 0)) t.slack t.names)

-- 6 to 12
pub record TasksTested (p : Plan) (k : ℕ) (r : Result Tested Refusal) : Type 0 where
  pub answer : answer_of r ≡ task_tests (offering p k)
  pub had : IfOk r (λ t. Had (offering p k).tasks (had_slack (offering p k)) t.slack t.names)

pub record PlanTested (p : Plan) (k : ℕ) (r : Result Tested Refusal) : Type 0 where
  pub answer :
      answer_of r ≡ or_next (limit_tests (offering p k)) (first_met (test11 (offering p k) ∷ offered_test (offering p k) ∷ []))
  pub had : IfOk r (λ t. Had (offering p k).tasks (had_slack (offering p k)) t.slack t.names)
