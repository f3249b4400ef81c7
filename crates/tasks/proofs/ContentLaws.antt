-- A plan cut at its used places, and the contents that fit a plan: the plan of such a content says that content again.
--     plan_ext        plans with equal fields are the same
--     content_ext     contents with the same edition, tasks, labels, slack count and slack are the same
--     by_edition      what holds with deadlines and without them holds in every edition
--     edition_zero    a task of zeros is one in every edition; edition-again: what an edition leaves of a task, it leaves whole
--     kept_in         a task whose deadline the edition has, or is 0, is as the edition has it; in_kept: and back
--     cut-edition     a row of tasks as an edition has them, cut off, is one
--     late-edition    late looks at a deadline that the edition has; late-high: it is at most the bound
--     used-task       a task of a plan that is in use, as its edition has it
--     row_back        a row that is zero past n, put in a list and read below n; cut-again: a row cut off at n
--     tasks-back, labels-back, slack-back    the plan of a content whose rows are zero past the counts, with whatever slack, says its tasks and labels
--     fits-back       the plan of such a content says it; plan-fits: what a plan says fits
--     content-tidy    so a plan with zeros in its unused places says what the plan says; tidy-tidy: and has no more to lose
--     mark_back       the mark of a plan with tasks comes back from its slack count
--     same_exactly    plans are the same exactly if they say the same and have the same mark
--     tidied_code     the tidied plan, array by array
--     zero_task_lem       a task that the test of zeros passes is the task of zeros; no_task_lem: and back
use Rattle.std.specs.Prelude.{ℕ, ◌-◌, ◌≤◌, ◌<◌, ◌≡◌, Bool, not, ◌||◌, List, ◌↔◌, ◌⊎◌, get_or, ltb, eqb}
use Rattle.std.proofs.Math.Path.{refl, ap, fun_ext}
use Rattle.std.proofs.Common.{sym, ◌∙◌, ⊎_elim, arith, ltb-true, ltb-false, eqb-true, eq-eqb, ne_eqb}
use Rattle.std.proofs.Math.Bool.{true, false, cond}
use Rattle.std.proofs.Math.Logic.{inl, inr}
use Rattle.std.proofs.lemmas.Bool.{eqb-false}
use Rattle.laws.specs.Tab.{tab, cut}
use Rattle.laws.specs.TabLaws.{get_or-tab, cut_below, cut-above, cut_ext, cut_apart, cut-map}
use Rattle.laws.specs.EveryLaws.{both}
use Rattle.tasks.specs.declared.Task.{Task}
use Rattle.tasks.specs.declared.Plan.{Plan}
use Rattle.tasks.specs.TaskSet.{TaskSet, row}
use Rattle.tasks.specs.Content.{has_deadlines, in_edition, Content, late_of, no_task, zero_task, task_of, content_of, plan_of, tidy, Same}
use Rattle.tasks.specs.Terms.{with_slack, Fits}

pub plan_ext :
    (p q : Plan) → p.edition ≡ q.edition → p.offered ≡ q.offered → p.cores ≡ q.cores → p.tasks ≡ q.tasks
    → p.labels ≡ q.labels → p.task ≡ q.task → p.slack ≡ q.slack → p ≡ q
plan_ext p q e o m n l t x =
    λ i. record { edition = e i; offered = o i; cores = m i; tasks = n i; labels = l i; task = t i; slack = x i }

set_ext : (s u : TaskSet) → s.cores ≡ u.cores → s.count ≡ u.count → ((i : ℕ) → s.task i ≡ u.task i) → s ≡ u
set_ext s u m n t = λ i. record { cores = m i; count = n i; task = λ k. t k i }

pub content_ext :
    (c d : Content) → c.edition ≡ d.edition → c.tasks ≡ d.tasks → c.label ≡ d.label → c.offers ≡ d.offers → c.slack ≡ d.slack → c ≡ d
content_ext c d e t l o s = λ i. record { edition = e i; tasks = t i; label = l i; offers = o i; slack = s i }

pub by_edition : (P : Bool → Type 0) (e : ℕ) → P true → P false → P (has_deadlines e)
by_edition P e with-deadlines without = go (has_deadlines e)
  where
    go : (b : Bool) → P b
    go true = with-deadlines
    go false = without

-- a task with another deadline
abbrev task_by : Task → ℕ → Task
task_by t d = record { separation = t.separation; budget = t.budget; offset = t.offset; deadline = d }

pub edition_zero : (e : ℕ) → in_edition e no_task ≡ no_task
unfolding no_task
edition_zero e = by_edition (λ b. task_by no_task (cond b 0 0) ≡ no_task) e refl refl

pub edition-again : (e : ℕ) (t : Task) → in_edition e (in_edition e t) ≡ in_edition e t
edition-again e t = by_edition (λ b. task_by t (cond b (cond b t.deadline 0) 0) ≡ task_by t (cond b t.deadline 0)) e refl refl

pub kept_in : (e : ℕ) (t : Task) → has_deadlines e || eqb t.deadline 0 ≡ true → in_edition e t ≡ t
kept_in e t h = go (has_deadlines e) refl h
  where
    same : (d : ℕ) → d ≡ t.deadline → task_by t d ≡ t
    same d q = λ i. task_by t (q i)

    go : (b : Bool) → has_deadlines e ≡ b → b || eqb t.deadline 0 ≡ true → in_edition e t ≡ t
    go true q h = same _ (rw q)
    go false q h = same _ (rw q (sym (eqb-true t.deadline 0 h)))

pub in_kept : (e : ℕ) (t : Task) → in_edition e t ≡ t → has_deadlines e || eqb t.deadline 0 ≡ true
in_kept e t h = go (has_deadlines e) refl
  where
    go : (b : Bool) → has_deadlines e ≡ b → b || eqb t.deadline 0 ≡ true
    go true q = refl
    go false q = eq-eqb t.deadline 0 (sym (ap (λ (k : Task). k.deadline) h) ∙ rw q)

pub cut-edition :
    (e n : ℕ) (f : ℕ → Task) (i : ℕ) → in_edition e (cut n (λ j. in_edition e (f j)) no_task i) ≡ cut n (λ j. in_edition e (f j)) no_task i
cut-edition e n f i =
    sym (cut-map (in_edition e) n (λ j. in_edition e (f j)) no_task no_task (edition_zero e) i)
    ∙ ap (λ (g : ℕ → Task). cut n g no_task i) (fun_ext (λ j. edition-again e (f j)))

pub late-edition : (e : ℕ) (t : Task) (bound : ℕ) → late_of e (in_edition e t) bound ≡ late_of e t bound
unfolding late_of
late-edition e t bound =
    by_edition (λ b. bound - cond b (cond b t.deadline 0) t.offset ≡ bound - cond b t.deadline t.offset) e refl refl

pub late-high : (e : ℕ) (t : Task) (bound : ℕ) → late_of e t bound ≤ bound
unfolding late_of
late-high e t bound = omega arith

pub used-task : (p : Plan) (i : ℕ) → i < p.tasks → (content_of p).tasks.task i ≡ in_edition p.edition (task_of p.task i)
unfolding content_of
used-task p i h = cut_below p.tasks _ no_task i h

-- a row that is z from n on, put in a list of N, and read below n again
pub row_back : {A : Type 0} (f : ℕ → A) (z : A) (n N : ℕ) → n ≤ N → ((i : ℕ) → n ≤ i → f i ≡ z) → (i : ℕ) → cut n (λ j. get_or (tab f N) j z) z i ≡ f i
row_back f z n N h past i = go (ltb i n) refl
  where
    go : (b : Bool) → ltb i n ≡ b → cut n (λ j. get_or (tab f N) j z) z i ≡ f i
    go true e =
        let l = ltb-true i n e in
        cut_below n (λ j. get_or (tab f N) j z) z i l ∙ get_or-tab f N i z (omega arith)
    go false e =
        let l = ltb-false i n e in
        cut-above n (λ j. get_or (tab f N) j z) z i l ∙ sym (past i l)

-- the mark keeps a count that is 0 or n
offers-back : (x n : ℕ) → (x ≡ 0) ⊎ (x ≡ n) → cond (not (eqb x 0)) n 0 ≡ x
offers-back x n h = go (eqb x 0) refl h
  where
    go : (b : Bool) → eqb x 0 ≡ b → (x ≡ 0) ⊎ (x ≡ n) → cond (not (eqb x 0)) n 0 ≡ x
    go true e q = rw e (sym (eqb-true x 0 e))
    go false e q = rw e (⊎_elim (λ (z : x ≡ 0). absurd (eqb-false x 0 e z)) (λ (w : x ≡ n). sym w) q)

pub slack-back : (x : ℕ → ℕ) (n : ℕ) → n ≤ 16 → ((i : ℕ) → n ≤ i → x i ≡ 0) → cut n (row (tab x 16)) 0 ≡ x
unfolding row
slack-back x n h past = fun_ext (row_back x 0 n 16 h past)

module _ (c : Content) (x : List ℕ) where
  pub tasks-back :
      c.tasks.count ≤ 16 → ((i : ℕ) → c.tasks.count ≤ i → c.tasks.task i ≡ no_task)
      → ((i : ℕ) → in_edition c.edition (c.tasks.task i) ≡ c.tasks.task i)
      → (content_of (with_slack (plan_of c) x)).tasks ≡ c.tasks
  unfolding content_of with_slack plan_of task_of
  tasks-back h past dates =
      set_ext (content_of (with_slack (plan_of c) x)).tasks c.tasks refl refl
      (λ i.
      cut-map (in_edition c.edition) c.tasks.count (task_of (tab c.tasks.task 16)) no_task no_task (edition_zero c.edition) i
      ∙ ap (in_edition c.edition) (row_back c.tasks.task no_task c.tasks.count 16 h past i)
      ∙ dates i)

  pub labels-back :
      c.tasks.cores ≤ 8 → ((i : ℕ) → c.tasks.cores ≤ i → c.label i ≡ 0) → (content_of (with_slack (plan_of c) x)).label ≡ c.label
  unfolding content_of with_slack plan_of row
  labels-back h past = fun_ext (row_back c.label 0 c.tasks.cores 8 h past)

pub fits-back : (c : Content) → Fits c → content_of (plan_of c) ≡ c
unfolding content_of plan_of with_slack
fits-back c k =
    content_ext (content_of (plan_of c)) c
    refl
    (tasks-back c (tab c.slack 16) k.tasks-high k.task-past k.deadlines)
    (labels-back c (tab c.slack 16) k.cores-high k.label-past)
    (offers-back c.offers c.tasks.count k.offers)
    (slack-back c.slack c.tasks.count k.tasks-high k.slack-past)

module _ (p : Plan) (m : p.cores ≤ 8) (n : p.tasks ≤ 16) where
  pub plan-fits : Fits (content_of p)
  unfolding content_of
  plan-fits =
      record {
        cores-high = m;
        tasks-high = n;
        label-past = cut-above p.cores (row p.labels) 0;
        task-past = cut-above p.tasks (λ i. in_edition p.edition (task_of p.task i)) no_task;
        slack-past = cut-above p.tasks (row p.slack) 0;
        deadlines = cut-edition p.edition p.tasks (task_of p.task);
        offers = mark p.offered;
      }
    where
      mark : (b : Bool) → (cond b p.tasks 0 ≡ 0) ⊎ (cond b p.tasks 0 ≡ p.tasks)
      mark true = inr refl
      mark false = inl refl

  pub content-tidy : content_of (tidy p) ≡ content_of p
  unfolding tidy
  content-tidy = fits-back (content_of p) plan-fits

  pub tidy-tidy : tidy (tidy p) ≡ tidy p
  unfolding tidy
  tidy-tidy = ap plan_of content-tidy

pub mark_back : (b : Bool) (n : ℕ) → 1 ≤ n → not (eqb (cond b n 0) 0) ≡ b
mark_back true n h = rw (ne_eqb n 0 (λ z. omega arith))
mark_back false n h = refl

module _ (p q : Plan) where
  same-content : Same p q → content_of p ≡ content_of q
  unfolding content_of
  same-content S =
      content_ext (content_of p) (content_of q) S.editions
      (set_ext _ _ S.cores S.loops (cut_ext p.tasks q.tasks _ _ no_task S.loops S.entries))
      (fun_ext (cut_ext p.cores q.cores _ _ 0 S.cores S.labels))
      (λ i. cond (S.marks i) (S.loops i) 0)
      (fun_ext (cut_ext p.tasks q.tasks _ _ 0 S.loops S.slack))

  content-same : content_of p ≡ content_of q → p.offered ≡ q.offered → Same p q
  unfolding content_of
  content-same e o =
      let m : p.cores ≡ q.cores = ap (λ (c : Content). c.tasks.cores) e in
      let n : p.tasks ≡ q.tasks = ap (λ (c : Content). c.tasks.count) e in
      record {
        editions = ap (λ (c : Content). c.edition) e;
        marks = o;
        cores = m;
        loops = n;
        labels = cut_apart p.cores q.cores _ _ 0 m (ap (λ (c : Content). c.label) e);
        entries = cut_apart p.tasks q.tasks _ _ no_task n (ap (λ (c : Content). c.tasks.task) e);
        slack = cut_apart p.tasks q.tasks _ _ 0 n (ap (λ (c : Content). c.slack) e);
      }

  pub same_exactly : Same p q ↔ ((content_of p ≡ content_of q) × (p.offered ≡ q.offered))
  same_exactly = (λ S. (same-content S, S.marks), λ s. content-same s.0 s.1)

pub tidied_code :
    (p : Plan) (labels slack : List ℕ) (task : List Task) → 1 ≤ p.tasks
    → labels ≡ tab (cut p.cores (row p.labels) 0) 8
    → task ≡ tab (cut p.tasks (λ i. in_edition p.edition (task_of p.task i)) no_task) 16
    → slack ≡ tab (cut p.tasks (row p.slack) 0) 16
    → ◌≡◌ {A = Plan} (record { edition = p.edition; offered = p.offered; cores = p.cores; tasks = p.tasks; labels = labels; task = task; slack = slack }) (tidy p)
unfolding tidy plan_of content_of
tidied_code p labels slack task n e f g = plan_ext _ (tidy p) refl (sym (mark_back p.offered p.tasks n)) refl refl e f g

-- ---- a task of zeros

pub zero_task_lem : (t : Task) → zero_task t ≡ true → t ≡ no_task
unfolding zero_task no_task
zero_task_lem t e =
    let a = both _ _ e in
    let b = both _ _ a.1 in
    let s = eqb-true t.separation 0 a.0 in
    let c = eqb-true t.budget 0 b.0 in
    let d = both _ _ b.1 in
    let o = eqb-true t.offset 0 d.0 in
    let l = eqb-true t.deadline 0 d.1 in
    λ i. record { separation = s i; budget = c i; offset = o i; deadline = l i }

pub no_task_lem : (t : Task) → t ≡ no_task → zero_task t ≡ true
unfolding zero_task no_task
no_task_lem t e = rw e
