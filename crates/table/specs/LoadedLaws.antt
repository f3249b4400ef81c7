-- The plan that the loaded sections of a table fill says what the table says, as far as a plan's arrays go.
--     loaded            that plan: the table's own, with the slack that its slack section has
--     loaded-from       it is what the loading fills
--     edition-same, tasks_in, labels_in, slack_in_lem    its edition, tasks and labels are the table's, and so is its slack where it is offered
--     limits-all        it meets 3 to 10 and 28 as the table does, also one with more cores or tasks than a plan's arrays hold
use Rattle.std.specs.Prelude.{ℕ, ◌+◌, ◌*◌, ◌≤◌, ◌<◌, ◌≡◌, Bool, true, false, not, ◌||◌, List, ltb, eqb}
use Rattle.std.proofs.Math.Path.{refl}
use Rattle.std.proofs.Common.{◌∙◌, arith, ltb-true, ltb-false, lt-ltb, ne_eqb}
use Rattle.laws.specs.Tab.{tab, cut}
use Rattle.laws.specs.TabLaws.{cut-above}
use Rattle.tasks.specs.declared.Plan.{Plan}
use Rattle.tasks.specs.Content.{Content, no_task, content_of, plan_of}
use Rattle.tasks.specs.Tests.{outside, first_met, test3, test4, test5, test6, test7, test8, test28, test9, test10}
use Rattle.tasks.specs.Terms.{limit_tests}
use Rattle.numbers.specs.Bytes.{byte, number}
use Rattle.codec.specs.Table.{task_size, tasks_from, slack_from, core_count, task_count, tasks_at, slack_count, slack_at, task_in, task_set_in, content_in}
use Rattle.tasks.proofs.ContentLaws.{plan_ext, tasks-back, labels-back, slack-back}
use Rattle.tasks.specs.Terms.{with_slack}
use Rattle.codec.specs.TaskLaws.{edition_in_lem}
use Rattle.reader.specs.CountedLaws.{CountsIn}

unfoldable pub loaded : List ℕ → Plan
loaded t = with_slack (plan_of (content_in t)) (tab (cut (slack_count t) (λ i. number 4 t (slack_at t + 4 * i)) 0) 16)

module _ (t : List ℕ) (e m n k : ℕ) (g : CountsIn t e m n k) where
  tasks-place : tasks_from m + 1 ≡ tasks_at t
  unfolding tasks_at
  tasks-place = omega (arith, g.cores)

  slack-place : slack_from e m n + 1 ≡ slack_at t
  unfolding slack_at
  slack-place = rw (g.edition, g.cores, g.tasks)

  pub loaded-from :
      (p : Plan) → p.edition ≡ e → p.offered ≡ not (eqb k 0) → p.cores ≡ m → p.tasks ≡ n
      → p.labels ≡ tab (cut m (λ i. byte t (2 + i)) 0) 8
      → p.task ≡ tab (cut n (λ i. task_in e t (tasks_from m + 1 + task_size e * i)) no_task) 16
      → p.slack ≡ tab (cut k (λ i. number 4 t (slack_from e m n + 1 + 4 * i)) 0) 16
      → p ≡ loaded t
  unfolding loaded with_slack plan_of content_in task_set_in
  loaded-from p ee o em en el et ex =
      plan_ext p (loaded t)
      (ee ∙ g.edition)
      (o ∙ rw g.offers)
      (em ∙ g.cores)
      (en ∙ g.tasks)
      (el ∙ rw g.cores)
      (et ∙ rw (tasks-place, g.edition, g.tasks))
      (ex ∙ rw (slack-place, g.offers))

module _ (t : List ℕ) where
  pub tasks_in : task_count t ≤ 16 → (content_of (loaded t)).tasks ≡ (content_in t).tasks
  unfolding loaded content_in task_set_in
  tasks_in h = tasks-back (content_in t) _ h (cut-above (task_count t) _ no_task) (edition_in_lem t)

  pub edition-same : (content_of (loaded t)).edition ≡ (content_in t).edition
  unfolding content_of loaded with_slack plan_of content_in
  edition-same = refl

  pub labels_in : core_count t ≤ 8 → (content_of (loaded t)).label ≡ (content_in t).label
  unfolding loaded content_in task_set_in
  labels_in h = labels-back (content_in t) _ h (cut-above (core_count t) (λ i. byte t (2 + i)) 0)

  pub slack_in_lem : task_count t ≤ 16 → slack_count t ≡ task_count t → (slack_count t ≡ 0 → ⊥) → (content_of (loaded t)).slack ≡ (content_in t).slack
  unfolding loaded with_slack plan_of content_of content_in task_set_in
  slack_in_lem h e z =
      rw (ne_eqb (slack_count t) 0 z, e)
      (slack-back (cut (task_count t) (λ i. number 4 t (slack_at t + 4 * i)) 0) (task_count t) h
      (cut-above (task_count t) (λ i. number 4 t (slack_at t + 4 * i)) 0))

-- 3 to 10 and 28 look at the edition, the tasks and the labels only
limits-same : (c d : Content) → c.edition ≡ d.edition → c.tasks ≡ d.tasks → c.label ≡ d.label → limit_tests c ≡ limit_tests d
unfolding limit_tests test3 test4 test5 test6 test7 test8 test28 test9 test10
limits-same c d v e q = λ i. limit_tests (record { edition = v i; tasks = e i; label = q i; offers = c.offers; slack = c.slack })

pub outside-past : (low high x : ℕ) → high < x → outside low high x ≡ true
unfolding outside
outside-past low high x h = rw (lt-ltb high x h) (either (ltb x low))
  where
    either : (b : Bool) → b || true ≡ true
    either true = refl
    either false = refl

module _ (t : List ℕ) where
  cores-over : 8 < core_count t → limit_tests (content_of (loaded t)) ≡ limit_tests (content_in t)
  unfolding limit_tests test3 first_met content_of loaded with_slack plan_of content_in task_set_in
  cores-over h = rw (outside-past 2 8 (core_count t) h)

  tasks-over : core_count t ≤ 8 → 16 < task_count t → limit_tests (content_of (loaded t)) ≡ limit_tests (content_in t)
  unfolding limit_tests test3 test4 test5 first_met content_of loaded with_slack plan_of content_in task_set_in
  tasks-over m h = rw (outside-past 1 16 (task_count t) h, labels_in t m)

  pub limits-all : limit_tests (content_of (loaded t)) ≡ limit_tests (content_in t)
  limits-all = go (ltb 8 (core_count t)) refl (ltb 16 (task_count t)) refl
    where
      go : (a : Bool) → ltb 8 (core_count t) ≡ a → (b : Bool) → ltb 16 (task_count t) ≡ b → limit_tests (content_of (loaded t)) ≡ limit_tests (content_in t)
      go true e b f = cores-over (ltb-true _ _ e)
      go false e true f = tasks-over (ltb-false _ _ e) (ltb-true _ _ f)
      go false e false f =
          limits-same (content_of (loaded t)) (content_in t) (edition-same t) (tasks_in t (ltb-false _ _ f)) (labels_in t (ltb-false _ _ e))
