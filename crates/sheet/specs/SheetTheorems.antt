-- What document 02, §3, says of the plan that `wish` finds, of bytes.
--     wish_accepted    what is found meets none of 3 to 13 and 28
--     wish_says        the plan says the offsets and the slack found
--     wish_best        they are a solution, the slack the least and each offset the largest of all solutions
--     wish_passes      nor does the plan
--     wish_judged      its table, with its slack left out, is accepted by `judge` as that plan
--     wish_written     so are the bytes that `write` leaves
--     wish_unsolved    27 is met exactly if no solution exists
use Rattle.std.specs.Prelude.{ℕ, ◌≤◌, ◌≡◌, refl, false, ◌↔◌, length}
use Rattle.std.proofs.Math.Path.{sym, ap}
use Rattle.std.proofs.Common.{◌∙◌, eq-eqb}
use mathlib.Core.List.{List, []}
use Rattle.std.proofs.Math.Logic.{inl}
use Rattle.laws.specs.TabLaws.{cut-above}
use Rattle.tasks.specs.declared.Task.{Task}
use Rattle.tasks.specs.declared.Plan.{Plan}
use Rattle.tasks.specs.TaskSet.{row}
use Rattle.tasks.specs.Answer.{Accepted, Refused}
use Rattle.tasks.specs.Content.{Content, no_task, counted_of, content_of, plan_of, tidy}
use Rattle.tasks.specs.Terms.{Fits}
use Rattle.tasks.proofs.ContentLaws.{fits-back}
use Rattle.tasks.specs.Tests.{bad_edition, tests, test_plan}
use Rattle.tasks.proofs.TestsLaws.{tests-limits, plan-accepted}
use Rattle.tasks.specs.AnswerLaws.{refuse-passed, first_met-passed, first_met_pass, or_next-passed, first_met_alone}
use Rattle.codec.specs.Table.{edition_in, slack_count, task_set_in, content_in, bytes_of, test1, test2}
use Rattle.codec.specs.TaskLaws.{edition_in_lem}
use Rattle.table.specs.Judged.{judged_as, judged}
use Rattle.writer.specs.Written.{write_test}
use Rattle.roundtrip.proofs.RoundTrip.{judged-back, write_accepts, left_by, plan-again}
use Rattle.wishes.specs.Wish.{Solution, with_offset, with_offsets, largest_offset, at_slack, wished, sheet11, test27, wish_tests, solved}
use Rattle.wishes.proofs.WishLaws.{wished-past}
use Rattle.wishes.specs.WishTheorems.{sheet_limits, Best}
use Rattle.wishes.proofs.WishTheorems.{wish_split, sheet-passed, solved_best, unsolved_exactly, solved-accepted}
use Rattle.sheet.specs.Wished.{wish_verdict, wish_of}
use Rattle.sheet.specs.WishedLaws.{unused}

module _ (t : List ℕ) (a : wish_verdict t ≡ Accepted) where
  passed : wish_tests (content_in t) ≡ Accepted
  unfolding wish_verdict
  passed = (first_met-passed (wish_tests (content_in t)) [] (first_met-passed (test2 t) _ (first_met-passed (test1 t) _ a).1).1).0

  pub wish_accepted : tests (solved (content_in t)) ≡ Accepted
  wish_accepted = solved-accepted (content_in t) passed

  fits : Fits (solved (content_in t))
  unfolding solved at_slack with_offsets content_in task_set_in
  fits =
      let L = tests-limits (solved (content_in t)) wish_accepted in
      record {
        cores-high = L.cores-high;
        tasks-high = L.tasks-high;
        label-past = cut-above _ _ 0;
        task-past = λ i h. unused ((content_in t).tasks.task i) _ (cut-above _ _ no_task i h);
        slack-past =
            wished-past (content_in t).tasks (sheet-passed (content_in t) (or_next-passed _ _ (sym (wish_split (content_in t)) ∙ passed)).0).limits;
        deadlines = λ i. ap (λ (k : Task). with_offset k (largest_offset ((content_in t).tasks.task i) (row (wished (content_in t).tasks) i))) (edition_in_lem t i);
        offers = inl refl;
      }

  plan_is : (wish_of t).plan ≡ plan_of (solved (content_in t))
  unfolding wish_of
  plan_is = rw a

  pub wish_says : content_of (wish_of t).plan ≡ solved (content_in t)
  wish_says = ap content_of plan_is ∙ fits-back (solved (content_in t)) fits

  pub wish_best :
      Best (content_in t).tasks (λ i. ((content_of (wish_of t).plan).tasks.task i).offset) (content_of (wish_of t).plan).slack
  wish_best = rw wish_says (solved_best (content_in t) passed)

  known : bad_edition (edition_in t) ≡ false
  unfolding wish_verdict test1
  known = refuse-passed 1 _ (first_met-passed (test1 t) _ a).0

  pub wish_passes : test_plan (wish_of t).plan ≡ Accepted
  unfolding content_of solved content_in
  wish_passes =
      plan-accepted (wish_of t).plan
      (ap (λ (c : Content). bad_edition c.edition) wish_says ∙ known)
      (ap tests wish_says ∙ wish_accepted)

  -- "The plan found, with its slack left out, is accepted by the judge with the same slack."
  tidy_is : tidy (wish_of t).plan ≡ (wish_of t).plan
  unfolding tidy
  tidy_is = ap plan_of wish_says ∙ sym plan_is

  pub wish_judged :
      judged (bytes_of (content_of (wish_of t).plan)) ≡ judged_as Accepted (wish_of t).plan (counted_of (content_of (wish_of t).plan))
  wish_judged =
      judged-back (wish_of t).plan wish_passes ∙ ap (λ (p : Plan). judged_as Accepted p (counted_of (content_of (wish_of t).plan))) tidy_is

  -- to any buffer that is long enough
  pub wish_written :
      (out : List ℕ) → length (bytes_of (content_of (wish_of t).plan)) ≤ length out
      → (write_test (wish_of t).plan (length out) ≡ Accepted)
      × (judged (left_by (wish_of t).plan out) ≡ judged_as Accepted (wish_of t).plan (counted_of (content_of (wish_of t).plan)))
  wish_written out h =
      let w = (write_accepts (wish_of t).plan (length out) h).1 wish_passes in
      (w, (plan-again (wish_of t).plan out w).0 ∙ ap (λ (p : Plan). judged_as Accepted p (counted_of (content_of (wish_of t).plan))) tidy_is)

-- a sheet that meets none of the numbers before 27
module _ (t : List ℕ) (e : test1 t ≡ Accepted) (l : test2 t ≡ Accepted) (limits : sheet_limits (content_in t) ≡ Accepted) (z : slack_count t ≡ 0) where
  none : sheet11 (content_in t) ≡ Accepted
  unfolding sheet11 content_in
  none = rw (eq-eqb (slack_count t) 0 z)

  last : wish_verdict t ≡ test27 (content_in t)
  unfolding wish_verdict
  last =
      first_met_pass (test1 t) _ e
      ∙ first_met_pass (test2 t) _ l
      ∙ first_met_alone (wish_tests (content_in t))
      ∙ wish_split (content_in t)
      ∙ rw limits (first_met_pass (sheet11 (content_in t)) _ none ∙ first_met_alone (test27 (content_in t)))

  pub wish_unsolved : (wish_verdict t ≡ Refused 27 0) ↔ ((y x : ℕ → ℕ) → Solution (content_in t).tasks y x → ⊥)
  wish_unsolved =
      let u = unsolved_exactly (content_in t) limits in
      (λ q. u.0 (sym last ∙ q), λ n. last ∙ u.1 n)
