-- From the tests' stages to the tests of a sheet's content.
--     tests_staged      3 to 5, and then the others
--     tasks-refused, tasks-solved    the answer past 3 to 5
--     plan-refused, plan-solved      the whole answer
use Rattle.tasks.specs.declared.refusal.Refusal.{Refusal}
use Rattle.std.specs.Prelude.{ℕ, ◌+◌, ◌≡◌, [], ◌∷◌, Ok, Err, IfOk, Result}
use Rattle.std.proofs.Math.Bool.{true}
use Rattle.std.proofs.Math.Path.{refl, sym, subst, ap, ap₂}
use Rattle.std.proofs.Common.{◌∙◌}
use Rattle.tasks.specs.declared.Plan.{Plan}
use Rattle.tasks.specs.Answer.{Answer, Accepted}
use Rattle.tasks.specs.TaskSet.{TaskSet, plain, row}
use Rattle.tasks.specs.Content.{Content, task_of, content_of}
use Rattle.tasks.specs.Tests.{first_met, or_next, test3, test4, test6, test7, test28, test9, test10}
use Rattle.tasks.specs.AnswerLaws.{first_met-append}
use Rattle.fields.specs.declared.columns.Columns.{Columns}
use Rattle.fields.specs.Columns.{columns_of, set_from}
use Rattle.fields.specs.Stages.{frame_test, wishes_test}
use Rattle.fields.specs.StageLaws.{wishes_scan}
use Rattle.slack.specs.StageLaws.{Framed}
use Rattle.analysis.specs.SlackTest.{offering}
use Rattle.analysis.specs.SlackTestLaws.{columns-set, frame-tests, rates_tests, stopped, passed_on}
use Rattle.wishes.specs.Wish.{largest_offset, sheet5, test26, sheet11, test27, wish_tests}
use Rattle.wishes.specs.PlainWishLaws.{plain-wished, plain-none}
use Rattle.wish_search.specs.declared.solve.Solved.{Solved}
use Rattle.wish_search.specs.Solved.{WishRanges, last_tests, FoundIn, RatesSolved, wish_task_tests, TasksSolved, PlanSolved}
use Rattle.wish_search.specs.SolvedLaws.{wishes_passed}

tests_staged : (c : Content) → wish_tests c ≡ or_next (first_met (test3 c ∷ test4 c ∷ sheet5 c ∷ [])) (wish_task_tests c)
unfolding wish_tests wish_task_tests
tests_staged c =
    first_met-append (test3 c ∷ test4 c ∷ sheet5 c ∷ []) (test6 c ∷ test7 c ∷ test26 c ∷ test28 c ∷ test9 c ∷ test10 c ∷ sheet11 c ∷ test27 c ∷ [])
    ∙ ap (or_next (first_met (test3 c ∷ test4 c ∷ sheet5 c ∷ [])))
    (first_met-append (test6 c ∷ test7 c ∷ test26 c ∷ test28 c ∷ []) (test9 c ∷ test10 c ∷ sheet11 c ∷ test27 c ∷ [])
    ∙ ap (or_next (first_met (test6 c ∷ test7 c ∷ test26 c ∷ test28 c ∷ []))) (first_met-append (test9 c ∷ test10 c ∷ []) (sheet11 c ∷ test27 c ∷ [])))

-- the plain tasks of a sheet
module _ (s : TaskSet) where
  plain-last : (k : ℕ) → last_tests (plain s) k ≡ last_tests s k
  unfolding last_tests
  plain-last k = rw (plain-none s)

  plain-found : (r : Solved) → FoundIn (plain s) r → FoundIn s r
  unfolding plain largest_offset
  plain-found r f = record { offsets = f.offsets ∙ rw (plain-wished s); slack = f.slack ∙ rw (plain-wished s) }

  plain_wishes : WishRanges s → WishRanges (plain s)
  unfolding plain
  plain_wishes g =
      record {
        timed =
            record {
              separation-low = g.timed.separation-low;
              budget-low = g.timed.budget-low;
              budget-high = g.timed.budget-high;
            };
        separation = g.separation;
        low = g.low;
        high = g.high;
      }

module _ (p : Plan) (k : ℕ) where
  last_is : last_tests (content_of p).tasks k ≡ first_met (sheet11 (offering p k) ∷ test27 (offering p k) ∷ [])
  unfolding last_tests sheet11 test27 offering
  last_is = refl

  module _ (f : Framed (p.cores + 1) p.cores p.tasks) (a : Answer) (ea : a ≡ wishes_test p.edition (task_of p.task) p.tasks) where
    fielded : a ≡ first_met (test6 (offering p k) ∷ test7 (offering p k) ∷ test26 (offering p k) ∷ test28 (offering p k) ∷ [])
    unfolding test6 test7 test26 test28 offering content_of wishes_test
    fielded = ea ∙ wishes_scan p

    pub tasks-refused : (t : Result Solved Refusal) (r : Refusal) → a ≡ Err r → t ≡ Err r → TasksSolved p k t
    unfolding wish_task_tests
    tasks-refused t r e u =
        record {
          answer = rw u (sym e ∙ fielded ∙ sym (stopped _ _ r.number r.index (sym fielded ∙ e)));
          found = rw u tt;
        }

    module _ (l : Columns) (el : l ≡ columns_of p.tasks p.task) (e : a ≡ Accepted) where
      stands : set_from p.cores p.tasks l.separation l.budget l.offset ≡ plain (content_of p).tasks
      stands = rw el (columns-set p f.tasks-high)

      pub wish_ranges : WishRanges (set_from p.cores p.tasks l.separation l.budget l.offset)
      unfolding content_of
      wish_ranges = subst WishRanges (sym stands) (plain_wishes _ (wishes_passed p.edition (content_of p).tasks (sym (wishes_scan p) ∙ sym ea ∙ e)))

      pub tasks-solved :
          (t : Result Solved Refusal) → RatesSolved (set_from p.cores p.tasks l.separation l.budget l.offset) k t → TasksSolved p k t
      unfolding wish_task_tests offering
      tasks-solved t g =
          record {
            answer = g.answer ∙ ap₂ or_next (rates_tests (offering p k) _ stands) last ∙ sym (passed_on _ _ (sym fielded ∙ e));
            found = kept t g.found;
          }
        where
          kept :
              (t : Result Solved Refusal) → IfOk t (FoundIn (set_from p.cores p.tasks l.separation l.budget l.offset))
              → IfOk t (FoundIn (content_of p).tasks)
          kept (Ok v) h = plain-found (content_of p).tasks v (subst (λ (s : TaskSet). FoundIn s v) stands h)
          kept (Err r) h = tt

          last :
              last_tests (set_from p.cores p.tasks l.separation l.budget l.offset) k
              ≡ first_met (sheet11 (offering p k) ∷ test27 (offering p k) ∷ [])
          last = ap (λ (s : TaskSet). last_tests s k) stands ∙ plain-last (content_of p).tasks k ∙ last_is

  module _ (a : Answer) (ea : a ≡ frame_test true p.cores (row p.labels) p.tasks) where
    framed : a ≡ first_met (test3 (offering p k) ∷ test4 (offering p k) ∷ sheet5 (offering p k) ∷ [])
    unfolding sheet5 offering content_of
    framed = ea ∙ frame-tests p k true

    pub plan-refused : (t : Result Solved Refusal) (r : Refusal) → a ≡ Err r → t ≡ Err r → PlanSolved p k t
    plan-refused t r e u =
        record {
          answer = rw u (sym e ∙ framed ∙ sym (stopped _ _ r.number r.index (sym framed ∙ e)) ∙ sym (tests_staged (offering p k)));
          found = rw u tt;
        }

    pub plan-solved : (t : Result Solved Refusal) → a ≡ Accepted → TasksSolved p k t → PlanSolved p k t
    plan-solved t e g =
        record { answer = g.answer ∙ sym (passed_on _ _ (sym framed ∙ e)) ∙ sym (tests_staged (offering p k)); found = g.found }
