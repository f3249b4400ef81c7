-- What the second stage answers, over a task set that meets none of 3 and 5 to 8.
--     Ranges       what that leaves of the counts and the tasks' fields
--     rates_test    9 and 10
--     Rated        the answer, and where it is no refusal H, the surpluses' sum and the shares
use Rattle.std.specs.Prelude.{IfOk, Result, ℕ, ◌≤◌, ◌<◌, ◌≡◌, [], ◌∷◌}
use Rattle.laws.specs.Sum.{sum}
use Rattle.laws.specs.Tab.{tab, cut}
use Rattle.tasks.specs.declared.refusal.Refusal.{Refusal}
use Rattle.tasks.specs.Answer.{Answer, answer_of}
use Rattle.tasks.specs.TaskSet.{TaskSet, hyperperiod, share, surplus}
use Rattle.tasks.specs.Tests.{refuse, first_met, bad_multiple, bad_shares}
use Rattle.tasks.specs.Terms.{Timed}
use Rattle.slack.specs.declared.rates.Rates.{Rates}

pub record Ranges (s : TaskSet) : Type 0 where
  pub cores : s.cores ≤ 8
  pub tasks : s.count ≤ 16
  pub timed : Timed s
  pub separation : (i : ℕ) → i < s.count → (s.task i).separation ≤ 100000
  pub offset : (i : ℕ) → i < s.count → (s.task i).offset ≤ (s.task i).separation

unfoldable pub rates_test : TaskSet → Answer
rates_test s =
    first_met (refuse 9 (bad_multiple s) ∷ refuse 10 (bad_shares s) ∷ [])

pub record Figures (s : TaskSet) (r : Rates) : Type 0 where
  pub multiple : r.multiple ≡ hyperperiod s
  pub surplus : r.surplus ≡ sum (surplus s) s.count
  pub share : r.share ≡ tab (cut s.count (share s) 0) 16

pub record Rated (s : TaskSet) (r : Result Rates Refusal) : Type 0 where
  pub answer : answer_of r ≡ rates_test s
  pub figures : IfOk r (Figures s)
