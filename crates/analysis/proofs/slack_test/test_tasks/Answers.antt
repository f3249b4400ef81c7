use mathlib.Core.List.{[], ◌∷◌}
use Rattle.tasks.specs.declared.Plan.{Plan}
use Rattle.std.specs.Prelude.{Result, Ok, Err, IfOk, cond, eqb}
use Rattle.laws.specs.Tab.{cut}
use Rattle.tasks.specs.declared.refusal.Refusal.{Refusal}
use Rattle.tasks.specs.Answer.{Answer, Accepted}
use Rattle.tasks.specs.TaskSet.{plain, row, found}
use Rattle.tasks.specs.Content.{task_of, content_of}
use Rattle.tasks.specs.Tests.{first_met, or_next, test6, test7, test8, test28}
use Rattle.fields.specs.declared.columns.Columns.{Columns}
use Rattle.analysis.specs.declared.slack_test.Tested.{Tested}
use Rattle.fields.specs.Columns.{columns_of, set_from}
use Rattle.fields.specs.Stages.{fields_test}
use Rattle.fields.specs.StageLaws.{fields_scan}
use Rattle.slack.specs.Rates.{Ranges}
use Rattle.slack.specs.StageLaws.{Framed, ranges_passed}
use Rattle.analysis.specs.SlackTest.{offering, task_tests, had_slack, RatesTested, TasksTested}
use Rattle.analysis.specs.SlackTestLaws.{columns-set, plain_ranges, fields_tests, rates_tests, stopped, passed_on, slack-tests, had-plan}
use Rattle.slack.specs.Arrays.{Had}
use Prim.Native.Nat.{ℕ}
use mathlib.Core.Path.{◌≡◌, ap₂, sym, subst, ◌∙◌}
use borrow.Author.Rules.{rules}
use Rattle.analysis.proofs.slack_test.test_tasks.Goals as goal

module _ (p : Plan) (k : ℕ) (f : Framed 1 p.cores p.tasks) (a : Answer) (ea : a ≡ fields_test p.edition (task_of p.task) p.tasks) where
  fielded : a ≡ first_met (test6 (offering p k) ∷ test7 (offering p k) ∷ test8 (offering p k) ∷ test28 (offering p k) ∷ [])
  fielded = ea ∙ fields_tests p k

  refused : (t : Result Tested Refusal) (r : Refusal) → a ≡ Err r → t ≡ Err r → TasksTested p k t
  unfolding task_tests
  refused t r e u =
      record {
        answer = rw u (sym e ∙ fielded ∙ sym (stopped _ _ r.number r.index (sym fielded ∙ e)));
        had = rw u tt;
      }

  module _ (l : Columns) (el : l ≡ columns_of p.tasks p.task) (e : a ≡ Accepted) where
    stands : set_from p.cores p.tasks l.separation l.budget l.offset ≡ plain (content_of p).tasks
    stands = rw el (columns-set p f.tasks-high)

    ranges : Ranges (set_from p.cores p.tasks l.separation l.budget l.offset)
    unfolding content_of
    ranges = subst Ranges (sym stands) (plain_ranges _ (ranges_passed p.edition (content_of p).tasks f (sym (fields_scan p) ∙ sym ea ∙ e)))

    kept :
        (t : Result Tested Refusal) → IfOk t (λ t. Had (set_from p.cores p.tasks l.separation l.budget l.offset) (cond (eqb k 0) (row (found (set_from p.cores p.tasks l.separation l.budget l.offset))) (cut p.tasks (row p.slack) 0)) t.slack t.names)
        → IfOk t (λ t. Had (offering p k).tasks (had_slack (offering p k)) t.slack t.names)
    unfolding set_from
    kept (Ok t) h = had-plan p k _ stands t.slack t.names h
    kept (Err r) h = tt

    tested : (t : Result Tested Refusal) → RatesTested (set_from p.cores p.tasks l.separation l.budget l.offset) p.slack k t → TasksTested p k t
    unfolding task_tests offering set_from
    tested t g =
        record {
          answer =
              g.answer
              ∙ ap₂ or_next (rates_tests (offering p k) _ stands) (slack-tests p k _ stands)
              ∙ sym (passed_on _ _ (sym fielded ∙ e));
          had = kept t g.had;
        }

pub returns-in_err-task_ranges : goal.returns-in_err-task_ranges
returns-in_err-task_ranges c =
    let s = c in
    refused s.args.plan s.args.offers s.requires _ c.task_ranges.ensures c.from_residual.result _ c.in_err-task_ranges.was (search rules)

pub test_rated-requires : goal.test_rated-requires
test_rated-requires c =
    let s = c in
    (s.requires, ranges s.args.plan s.args.offers s.requires _ c.task_ranges.ensures _ c.split-columns.ensures c.in_ok-task_ranges.was)

pub returns : goal.returns
returns c =
    let s = c in
    tested s.args.plan s.args.offers s.requires _ c.task_ranges.ensures _ c.split-columns.ensures c.in_ok-task_ranges.was _ c.test_rated.ensures
