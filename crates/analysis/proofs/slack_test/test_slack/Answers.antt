use mathlib.Core.Path.{◌≡◌, sym, ◌∙◌, ap}
use mathlib.Core.Bool.{false}
use mathlib.Core.List.{[], ◌∷◌}
use Prim.Native.Nat.{ℕ}
use Rattle.tasks.specs.declared.Plan.{Plan}
use Rattle.std.specs.Prelude.{Result, Err}
use Rattle.tasks.specs.declared.refusal.Refusal.{Refusal}
use Rattle.tasks.specs.Answer.{Answer, Accepted}
use Rattle.tasks.specs.TaskSet.{row}
use Rattle.tasks.specs.Content.{content_of}
use Rattle.tasks.specs.Tests.{first_met, or_next, test3, test4, test5, test6, test7, test8, test28, test9, test10, test11}
use Rattle.tasks.specs.AnswerLaws.{or_next_assoc}
use Rattle.tasks.specs.Terms.{limit_tests}
use Rattle.analysis.specs.declared.slack_test.Tested.{Tested}
use Rattle.fields.specs.Stages.{frame_test}
use Rattle.slack.specs.StageLaws.{frame-passed}
use Rattle.analysis.specs.SlackTest.{offering, offered_test, task_tests, TasksTested, PlanTested}
use Rattle.analysis.specs.SlackTestLaws.{frame-tests, limits_split, stopped, passed_on}
use Prim.Native.Nat.{ℕ}
use mathlib.Core.Path.{◌≡◌, ap, sym, ◌∙◌}
use borrow.Author.Rules.{rules}
use Rattle.analysis.proofs.slack_test.test_slack.Goals as goal

regroup : (a b c d : Answer) → or_next (or_next a (or_next b c)) d ≡ or_next a (or_next b (or_next c d))
regroup a b c d = or_next_assoc a (or_next b c) d ∙ ap (or_next a) (or_next_assoc b c d)

module _ (p : Plan) (k : ℕ) (a : Answer) (ea : a ≡ frame_test false p.cores (row p.labels) p.tasks) where
  framed : a ≡ first_met (test3 (offering p k) ∷ test4 (offering p k) ∷ test5 (offering p k) ∷ [])
  unfolding test5 offering content_of
  framed = ea ∙ frame-tests p k false

  -- 3 to 12 are 3 to 5, and then 6 to 12
  joined :
      or_next (limit_tests (offering p k)) (first_met (test11 (offering p k) ∷ offered_test (offering p k) ∷ []))
      ≡ or_next (first_met (test3 (offering p k) ∷ test4 (offering p k) ∷ test5 (offering p k) ∷ [])) (task_tests (offering p k))
  unfolding task_tests
  joined =
      ap (λ (b : Answer). or_next b (first_met (test11 (offering p k) ∷ offered_test (offering p k) ∷ []))) (limits_split (offering p k))
      ∙ regroup
      (first_met (test3 (offering p k) ∷ test4 (offering p k) ∷ test5 (offering p k) ∷ []))
      (first_met (test6 (offering p k) ∷ test7 (offering p k) ∷ test8 (offering p k) ∷ test28 (offering p k) ∷ []))
      (first_met (test9 (offering p k) ∷ test10 (offering p k) ∷ []))
      (first_met (test11 (offering p k) ∷ offered_test (offering p k) ∷ []))

  refused : (t : Result Tested Refusal) (r : Refusal) → a ≡ Err r → t ≡ Err r → PlanTested p k t
  refused t r e u =
      record {
        answer = rw u (sym e ∙ framed ∙ sym (stopped _ _ r.number r.index (sym framed ∙ e)) ∙ sym joined);
        had = rw u tt;
      }

  tested : (t : Result Tested Refusal) → a ≡ Accepted → TasksTested p k t → PlanTested p k t
  tested t e g = record { answer = g.answer ∙ sym (passed_on _ _ (sym framed ∙ e)) ∙ sym joined; had = g.had }

pub returns-in_err-frame : goal.returns-in_err-frame
returns-in_err-frame c =
    let s = c in
    refused s.args.plan s.args.offers _ c.frame.ensures c.from_residual.result _ c.in_err-frame.was (search rules)

pub test_tasks-requires : goal.test_tasks-requires
test_tasks-requires c = frame-passed false _ _ _ (sym c.frame.ensures ∙ c.in_ok-frame.was)

pub returns : goal.returns
returns c =
    let s = c in
    tested s.args.plan s.args.offers _ c.frame.ensures _ c.in_ok-frame.was c.test_tasks.ensures
