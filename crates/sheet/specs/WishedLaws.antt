-- From the tests of the plan that a sheet's sections fill to what `wish` answers.
--     Wishes         what the tests of such a plan, with a slack count, answer
--     plan-refused, plan-found    they do, from what the code has seen; few: at most sixteen tasks
--     unused         an unused place stays one
--     verdict-past   past 1 and 2 the verdict is that of the tests
--     sheet-refused  a sheet that meets 1 or 2
--     sheet-from     one that meets neither
use Rattle.tasks.specs.declared.refusal.Refusal.{Refusal}
use Rattle.std.specs.Prelude.{Ok, Err, ℕ, ◌+◌, ◌-◌, ◌≤◌, ◌<◌, min, ◌≡◌, false, List, [], ◌∷◌, Result}
use Rattle.std.proofs.Math.Path.{refl, sym}
use Rattle.std.proofs.Common.{ap, ap₂, ◌∙◌, ⊎_elim, arith}
use Rattle.laws.specs.EveryLaws.{below_or_not}
use Rattle.laws.specs.Tab.{tab, cut}
use Rattle.laws.specs.TabLaws.{tab_ext, get_or-tab, cut_below, cut-above}
use Rattle.tasks.specs.declared.Task.{Task}
use Rattle.tasks.specs.declared.Plan.{Plan}
use Rattle.tasks.specs.Answer.{Answer, Accepted, Refused}
use Rattle.tasks.specs.TaskSet.{TaskSet, row}
use Rattle.tasks.specs.Content.{in_edition, Content, no_task, task_of, content_of, plan_of, zero_plan}
use Rattle.tasks.proofs.ContentLaws.{used-task, plan_ext}
use Rattle.tasks.specs.Terms.{with_slack}
use Rattle.tasks.specs.Tests.{first_met, unless_refused, test3, test4, test6, test7, test28, test9, test10}
use Rattle.tasks.specs.AnswerLaws.{refuse-passed, first_met-append, first_met-passed, outside-passed, first_met_alone}
use Rattle.codec.specs.Table.{core_count, task_count, slack_count, task_set_in, content_in, test1, test2}
use Rattle.reader.specs.Counted.{counts_test}
use Rattle.analysis.specs.SlackTest.{offering}
use Rattle.table.specs.LoadedLaws.{loaded, outside-past, edition-same, tasks_in, labels_in}
use Rattle.wishes.specs.Wish.{with_offset, with_offsets, largest_offset, at_slack, wished, sheet5, test26, sheet11, test27, wish_tests, solved}
use Rattle.wish_search.specs.declared.solve.Solved.{Solved}
use Rattle.wish_search.specs.Solved.{FoundIn, PlanSolved}
use Rattle.sheet.specs.declared.Wished.{Wished}
use Rattle.sheet.specs.Wished.{wish_verdict, wish_of, handed}

-- a plan with the offsets and the slack found, its labels as they are
unfoldable pub plan_with : Plan → ℕ → Plan
plan_with p k =
    record {
      edition = p.edition;
      offered = false;
      cores = p.cores;
      tasks = p.tasks;
      labels = p.labels;
      task = tab (solved (offering p k)).tasks.task 16;
      slack = tab (solved (offering p k)).slack 16;
    }

pub record Wishes (p : Plan) (k : ℕ) (r : Wished) : Type 0 where
  pub answer : r.answer ≡ wish_tests (offering p k)
  pub plan : r.plan ≡ unless_refused r.answer (plan_with p k) zero_plan

few-tasks : (c : Content) → wish_tests c ≡ Accepted → c.tasks.count ≤ 16
unfolding wish_tests sheet5
few-tasks c a =
    let r3 = first_met-passed _ _ a in
    let r4 = first_met-passed _ _ r3.1 in
    (outside-passed _ 16 _ (refuse-passed 5 _ (first_met-passed _ _ r4.1).0)).1

-- an unused place stays one
pub unused : (t : Task) (x : ℕ) → t ≡ no_task → with_offset t (largest_offset t x) ≡ no_task
unfolding no_task largest_offset
unused t x e =
    let z : min 0 (0 - 0 - x) ≡ 0 = omega arith in
    rw (e, z)

module _ (p : Plan) (k : ℕ) where
  wisher : ℕ → Task
  wisher = (offering p k).tasks.task

  wisher-below : (i : ℕ) → i < p.tasks → wisher i ≡ in_edition p.edition (task_of p.task i)
  unfolding wisher offering
  wisher-below i h = used-task p i h

  wisher-above : (i : ℕ) → p.tasks ≤ i → wisher i ≡ no_task
  unfolding wisher offering content_of
  wisher-above i h = cut-above p.tasks _ no_task i h

  -- the offset found for a task
  solved-at : (i : ℕ) → (solved (offering p k)).tasks.task i ≡ with_offset (wisher i) (largest_offset (wisher i) ((solved (offering p k)).slack i))
  unfolding wisher solved at_slack with_offsets
  solved-at i = refl

  module _ (r : Solved) (few : p.tasks ≤ 16) (f : FoundIn (offering p k).tasks r) where
    offset_at : (i : ℕ) → i < p.tasks → row r.offset i ≡ largest_offset (wisher i) ((solved (offering p k)).slack i)
    unfolding row wisher solved offering content_of
    offset_at i h =
        rw f.offsets
        (get_or-tab _ 16 i 0 (omega arith) ∙ cut_below p.tasks _ 0 i h)

    tasks-found :
        tab (cut p.tasks (λ i. with_offset (in_edition p.edition (task_of p.task i)) (row r.offset i)) no_task) 16 ≡ tab (solved (offering p k)).tasks.task 16
    tasks-found = tab_ext _ _ 16 (λ i h. each i)
      where
        each : (i : ℕ) → cut p.tasks (λ i. with_offset (in_edition p.edition (task_of p.task i)) (row r.offset i)) no_task i ≡ (solved (offering p k)).tasks.task i
        each i =
            ⊎_elim
            (λ (h : i < p.tasks).
            cut_below p.tasks _ no_task i h ∙ ap₂ with_offset (sym (wisher-below i h)) (offset_at i h) ∙ sym (solved-at i))
            (λ (h : p.tasks ≤ i).
            cut-above p.tasks _ no_task i h ∙ sym (solved-at i ∙ unused (wisher i) _ (wisher-above i h)))
            (below_or_not i p.tasks)

  pub plan-refused : (r : Refusal) → PlanSolved p k (Err r) → (o : Result Plan Refusal) → o ≡ Err r → Wishes p k (handed o)
  plan-refused r g o q = rw q (record { answer = g.answer; plan = refl })

  module _ (r : Solved) (g : PlanSolved p k (Ok r)) where
    pub few : p.tasks ≤ 16
    unfolding offering content_of
    few = few-tasks (offering p k) (sym g.answer)

    pub plan-found :
        (task : List Task) → task ≡ tab (cut p.tasks (λ i. with_offset (in_edition p.edition (task_of p.task i)) (row r.offset i)) no_task) 16
        → Wishes p k
        (record {
          answer = Accepted;
          plan = record { edition = p.edition; offered = false; cores = p.cores; tasks = p.tasks; labels = p.labels; task = task; slack = r.slack };
        })
    unfolding plan_with solved
    plan-found task et =
        record {
          answer = g.answer;
          plan = plan_ext _ (plan_with p k) refl refl refl refl refl (et ∙ tasks-found r few g.found) g.found.slack;
        }

-- the tests of a sheet look at its edition, its tasks, its labels and its slack count
tests_same : (c d : Content) → c.edition ≡ d.edition → c.tasks ≡ d.tasks → c.label ≡ d.label → c.offers ≡ d.offers → wish_tests c ≡ wish_tests d
unfolding wish_tests test3 test4 sheet5 test6 test7 test26 test28 test9 test10 sheet11 test27
tests_same c d v e q o = λ i. wish_tests (record { edition = v i; tasks = e i; label = q i; offers = o i; slack = c.slack })

verdict_stops : (t : List ℕ) (k i : ℕ) → counts_test t ≡ Refused k i → wish_verdict t ≡ Refused k i
unfolding wish_verdict counts_test
verdict_stops t k i c = first_met-append (test1 t ∷ test2 t ∷ []) (wish_tests (content_in t) ∷ []) ∙ rw c

module _ (t : List ℕ) where
  -- what the plan that the sheet's sections fill says
  said : Content
  said = offering (loaded t) (slack_count t)

  cores-over : 8 < core_count t → wish_tests said ≡ wish_tests (content_in t)
  unfolding said wish_tests test3 first_met offering content_of loaded with_slack plan_of content_in task_set_in
  cores-over h = rw (outside-past 2 8 (core_count t) h)

  tasks-over : core_count t ≤ 8 → 16 < task_count t → wish_tests said ≡ wish_tests (content_in t)
  unfolding said wish_tests test3 test4 sheet5 first_met offering content_of loaded with_slack plan_of content_in task_set_in
  tasks-over m h = rw (outside-past (core_count t + 1) 16 (task_count t) h, labels_in t m)

  in_range : core_count t ≤ 8 → task_count t ≤ 16 → wish_tests said ≡ wish_tests (content_in t)
  unfolding said offering content_in
  in_range m n = tests_same said (content_in t) (edition-same t) (tasks_in t n) (labels_in t m) refl

  tests_in : wish_tests said ≡ wish_tests (content_in t)
  tests_in =
      ⊎_elim (λ (h : 8 < core_count t). cores-over h)
      (λ (m : core_count t ≤ 8). ⊎_elim (λ (h : 16 < task_count t). tasks-over m h) (λ (n : task_count t ≤ 16). in_range m n) (below_or_not 16 (task_count t)))
      (below_or_not 8 (core_count t))

  with_in : task_count t ≤ 16 → plan_with (loaded t) (slack_count t) ≡ plan_of (solved (content_in t))
  unfolding plan_with plan_of loaded with_slack solved offering content_in task_set_in at_slack with_offsets
  with_in n =
      plan_ext (plan_with (loaded t) (slack_count t)) (plan_of (solved (content_in t))) refl refl refl refl refl
      (ap (λ (s : TaskSet). tab (at_slack s (row (wished s))).task 16) (tasks_in t n))
      (ap (λ (s : TaskSet). tab (row (wished s)) 16) (tasks_in t n))

  few_in : wish_tests (content_in t) ≡ Accepted → task_count t ≤ 16
  unfolding content_in task_set_in
  few_in a = few-tasks (content_in t) a

  -- past 1 and 2 the verdict is that of the tests
  pub verdict-past : counts_test t ≡ Accepted → wish_verdict t ≡ wish_tests (content_in t)
  unfolding wish_verdict counts_test
  verdict-past c = first_met-append (test1 t ∷ test2 t ∷ []) (wish_tests (content_in t) ∷ []) ∙ rw c (first_met_alone (wish_tests (content_in t)))

  pub sheet-refused : (r : Wished) (k i : ℕ) → counts_test t ≡ Refused k i → r.answer ≡ Refused k i → r.plan ≡ zero_plan → r ≡ wish_of t
  unfolding wish_of
  sheet-refused r k i c a p =
      let v = verdict_stops t k i c in
      λ j. record { answer = (a ∙ sym v) j; plan = (p ∙ plan-refused v) j }
    where
      plan-refused : wish_verdict t ≡ Refused k i → zero_plan ≡ unless_refused (wish_verdict t) (plan_of (solved (content_in t))) zero_plan
      plan-refused v = rw v

  pub sheet-from : (r : Wished) → counts_test t ≡ Accepted → Wishes (loaded t) (slack_count t) r → r ≡ wish_of t
  unfolding wish_of said
  sheet-from r c w = λ j. record { answer = same j; plan = (w.plan ∙ plan-same r.answer refl) j }
    where
      same : r.answer ≡ wish_verdict t
      same = w.answer ∙ tests_in ∙ sym (verdict-past c)

      plan-same :
          (a : Answer) → r.answer ≡ a
          → unless_refused r.answer (plan_with (loaded t) (slack_count t)) zero_plan
          ≡ unless_refused (wish_verdict t) (plan_of (solved (content_in t))) zero_plan
      plan-same (Ok tt) e =
          let v : wish_verdict t ≡ Accepted = sym same ∙ e in
          rw (e, v) (with_in (few_in (sym (verdict-past c) ∙ v)))
      plan-same (Err r) e = let v : wish_verdict t ≡ Err r = sym same ∙ e in rw (e, v)
