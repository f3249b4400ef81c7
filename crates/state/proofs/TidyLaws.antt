-- Plans with zeros in their unused places.
--     tidy-from         a plan that the test of unused places passes is its tidied plan; tidy_to: and back
--     tidied-shaped     such a plan has its arrays' lengths
--     tidy-accepted     a tidied plan passes what the plan passes
use Rattle.std.specs.Prelude.{ℕ, ◌≤◌, ◌<◌, Bool, true, false, cond, ◌&&◌, ◌||◌, ◌≡◌, refl, List, get_or, ltb, eqb}
use Rattle.std.proofs.Math.Path.{sym, ap}
use Rattle.std.proofs.Common.{◌∙◌}
use Rattle.std.proofs.Math.ListN.{length}
use borrow.Author.Tests.{ltb-true, ltb-false, le-ltb, eqb-true, eq-eqb}
use Rattle.laws.specs.Tab.{tab, cut}
use Rattle.laws.specs.TabLaws.{length-tab, get_or-tab, ext_tab, tab_ext, cut_below, cut-above}
use Rattle.tasks.specs.declared.Task.{Task}
use Rattle.tasks.specs.declared.Plan.{Plan}
use Rattle.tasks.specs.Answer.{Accepted}
use Rattle.tasks.specs.TaskSet.{row}
use Rattle.tasks.specs.Content.{has_deadlines, in_edition, no_task, zero_task, task_of, content_of, plan_of, tidy}
use Rattle.tasks.proofs.ContentLaws.{cut-edition, kept_in, in_kept, mark_back, zero_task_lem, no_task_lem, content-tidy}
use Rattle.tasks.specs.Tests.{bad_edition, tests, test_plan}
use Rattle.tasks.proofs.TestsLaws.{plan-passed, plan-accepted}
use Rattle.state.specs.SoundState.{tidy_label, tidy_task, tidy_test}
use Rattle.laws.specs.EveryLaws.{both, and_both}
use Rattle.state.proofs.AllLaws.{all-at, of-all}
use Rattle.state.proofs.QueueLaws.{either, or_else}
use Rattle.state.specs.Fit.{ShapedPlan}

-- a list whose entries are z from n on is filled in order from its own row, cut off at n
uncut : {A : Type 0} (l : List A) (z : A) (n N : ℕ) → length l ≡ N → ((i : ℕ) → i < N → n ≤ i → get_or l i z ≡ z) → tab (cut n (λ i. get_or l i z) z) N ≡ l
uncut l z n N e past = sym (ext_tab (cut n (λ i. get_or l i z) z) l N z e (λ i h. at i h (ltb i n) refl))
  where
    at : (i : ℕ) → i < N → (b : Bool) → ltb i n ≡ b → get_or l i z ≡ cut n (λ i. get_or l i z) z i
    at i h true q = sym (cut_below n (λ i. get_or l i z) z i (ltb-true i n q))
    at i h false q = past i h (ltb-false i n q) ∙ sym (cut-above n (λ i. get_or l i z) z i (ltb-false i n q))

module _ (p : Plan) where
  pub tidy-from : ShapedPlan p → 1 ≤ p.tasks → tidy_test p ≡ true → tidy p ≡ p
  unfolding tidy plan_of content_of tidy_test tidy_label tidy_task row task_of cut
  tidy-from S n e =
      λ i.
      record {
        edition = p.edition;
        offered = mark_back p.offered p.tasks n i;
        cores = p.cores;
        tasks = p.tasks;
        labels = labels i;
        task = task i;
        slack = slack i;
      }
    where
      parts : (allOf-labels : tidy_test p ≡ true) → (((i : ℕ) → i < 8 → tidy_label p i ≡ true) × ((i : ℕ) → i < 16 → tidy_task p i ≡ true))
      parts h = let a = both _ _ h in (λ i l. all-at (tidy_label p) 8 i a.0 l, λ i l. all-at (tidy_task p) 16 i a.1 l)

      task-parts :
          (i : ℕ) → i < 16
          → (ltb i p.tasks || (zero_task (get_or p.task i no_task) && eqb (get_or p.slack i 0) 0) ≡ true)
          × (has_deadlines p.edition || eqb (get_or p.task i no_task).deadline 0 ≡ true)
      task-parts i h = both _ _ ((parts e).1 i h)

      past : (i : ℕ) → i < 16 → p.tasks ≤ i → (zero_task (get_or p.task i no_task) ≡ true) × (eqb (get_or p.slack i 0) 0 ≡ true)
      past i h l = both _ _ (either (ltb i p.tasks) _ (task-parts i h).0 (le-ltb i p.tasks l))

      labels : tab (cut p.cores (λ i. get_or p.labels i 0) 0) 8 ≡ p.labels
      labels =
          uncut p.labels 0 p.cores 8 S.labels
          (λ i h l. eqb-true _ _ (either (ltb i p.cores) _ ((parts e).0 i h) (le-ltb i p.cores l)))

      kept : (i : ℕ) → i < 16 → in_edition p.edition (get_or p.task i no_task) ≡ get_or p.task i no_task
      kept i h = kept_in p.edition (get_or p.task i no_task) (task-parts i h).1

      task : tab (cut p.tasks (λ i. in_edition p.edition (get_or p.task i no_task)) no_task) 16 ≡ p.task
      task =
          tab_ext _ _ 16 (λ i h. ap (λ (k : Task). cond (ltb i p.tasks) k no_task) (kept i h))
          ∙ uncut p.task no_task p.tasks 16 S.task (λ i h l. zero_task_lem (get_or p.task i no_task) (past i h l).0)

      slack : tab (cut p.tasks (λ i. get_or p.slack i 0) 0) 16 ≡ p.slack
      slack = uncut p.slack 0 p.tasks 16 S.slack (λ i h l. eqb-true _ _ (past i h l).1)

  pub tidied-shaped : tidy p ≡ p → ShapedPlan p
  unfolding tidy plan_of
  tidied-shaped e =
      record {
        labels = sym (ap (λ (q : Plan). length q.labels) e) ∙ length-tab _ 8;
        task = sym (ap (λ (q : Plan). length q.task) e) ∙ length-tab _ 16;
        slack = sym (ap (λ (q : Plan). length q.slack) e) ∙ length-tab _ 16;
      }

  -- what stands in an unused place of a tidied plan
  label-past : (i : ℕ) → i < 8 → p.cores ≤ i → row (tidy p).labels i ≡ 0
  unfolding tidy plan_of content_of row
  label-past i h l = get_or-tab _ 8 i 0 h ∙ cut-above p.cores _ 0 i l

  task-past : (i : ℕ) → i < 16 → p.tasks ≤ i → task_of (tidy p).task i ≡ no_task
  unfolding tidy plan_of content_of task_of
  task-past i h l = get_or-tab _ 16 i no_task h ∙ cut-above p.tasks _ no_task i l

  slack-past : (i : ℕ) → i < 16 → p.tasks ≤ i → row (tidy p).slack i ≡ 0
  unfolding tidy plan_of content_of row
  slack-past i h l = get_or-tab _ 16 i 0 h ∙ cut-above p.tasks _ 0 i l

  -- a tidied plan's tasks are as its edition has them
  task-edition : (i : ℕ) → i < 16 → in_edition p.edition (task_of (tidy p).task i) ≡ task_of (tidy p).task i
  unfolding tidy plan_of content_of task_of
  task-edition i h = rw (get_or-tab (cut p.tasks (λ j. in_edition p.edition (get_or p.task j no_task)) no_task) 16 i no_task h) (cut-edition p.edition p.tasks _ i)

  pub tidy_to : tidy p ≡ p → tidy_test p ≡ true
  unfolding tidy_test tidy_label tidy_task
  tidy_to e =
      and_both _ _
      (of-all _ 8 (λ i h. or_else (ltb i p.cores) _ (λ f. eq-eqb _ _ (ap (λ (q : Plan). row q.labels i) (sym e) ∙ label-past i h (ltb-false _ _ f)))))
      (of-all _ 16
      (λ i h.
      and_both _ _
      (or_else (ltb i p.tasks) _
      (λ f.
      and_both _ _
      (no_task_lem (task_of p.task i) (ap (λ (q : Plan). task_of q.task i) (sym e) ∙ task-past i h (ltb-false _ _ f)))
      (eq-eqb _ _ (ap (λ (q : Plan). row q.slack i) (sym e) ∙ slack-past i h (ltb-false _ _ f)))))
      (in_kept p.edition (task_of p.task i)
      (ap (λ (q : Plan). in_edition p.edition (task_of q.task i)) (sym e)
      ∙ task-edition i h
      ∙ ap (λ (q : Plan). task_of q.task i) e))))

tidy-edition : (p : Plan) → (tidy p).edition ≡ p.edition
unfolding tidy plan_of content_of
tidy-edition p = refl

pub tidy-accepted : (p : Plan) → p.cores ≤ 8 → p.tasks ≤ 16 → test_plan p ≡ Accepted → test_plan (tidy p) ≡ Accepted
tidy-accepted p m n a =
    plan-accepted (tidy p)
    (ap bad_edition (tidy-edition p) ∙ (plan-passed p a).0)
    (ap tests (content-tidy p m n) ∙ (plan-passed p a).1)
