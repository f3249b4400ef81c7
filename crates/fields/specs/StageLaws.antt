-- How a stage's answer follows from what its code has seen.
--     outside_low, outside_high    a number below or above its range
--     scan-found, scan-none        a scan that ended at f, below n or not
--     not_both                     an answer is no refusal and a refusal: absurd
--     column-more                  an array filled in order has one entry more
--     fields_scan, wishes_scan, bounds-scan     6 to 8, or 26, 28, and 13, of a plan's content look at the tasks that the plan's array has in use
use Rattle.std.specs.Prelude.{ℕ, ◌+◌, ◌<◌, ◌≤◌, ◌≡◌, refl, Bool, true, cond, ◌&&◌, List, set}
use Rattle.std.proofs.Common.{sym, ◌∙◌, lt-ltb, le-ltb, arith}
use Rattle.std.proofs.Math.Path.{ap}
use Rattle.laws.specs.First.{first}
use Rattle.laws.specs.FirstLaws.{first_le}
use Rattle.laws.specs.Tab.{tab, cut}
use Rattle.laws.specs.TabLaws.{filled_next}
use Rattle.tasks.specs.declared.Task.{Task}
use Rattle.tasks.specs.declared.Plan.{Plan}
use Rattle.tasks.specs.Answer.{Answer, Accepted, Refused}
use Rattle.tasks.specs.TaskSet.{core_for_each, bound_by, bound}
use Rattle.tasks.specs.Numbers.{deadline_high}
use Rattle.tasks.specs.Content.{in_edition, task_of, content_of}
use Rattle.tasks.proofs.ContentLaws.{by_edition, used-task}
use Rattle.tasks.specs.Tests.{lowest, outside, bad_separation, bad_budget, bad_offset, bad_wish, bad_deadline, over_bound, bounds_test}
use Rattle.tasks.specs.AnswerLaws.{lowest-found, lowest-none, lowest_ext}
use Rattle.fields.specs.Stages.{fields_test, wishes_test}

pub outside_low : (low high x : ℕ) → x < low → outside low high x ≡ true
unfolding outside
outside_low low high x h = rw (lt-ltb x low h)

pub outside_high : (low high x : ℕ) → low ≤ x → high < x → outside low high x ≡ true
unfolding outside
outside_high low high x l h = rw (le-ltb x low l, lt-ltb high x h)

pub scan-found : (k : ℕ) (p : ℕ → Bool) (n f : ℕ) → f ≡ first p n → f < n → lowest k p n ≡ Refused k f
scan-found k p n f e h = lowest-found k p n f (sym e) h

pub scan-none : (k : ℕ) (p : ℕ → Bool) (n f : ℕ) → f ≡ first p n → n ≤ f → lowest k p n ≡ Accepted
scan-none k p n f e h = lowest-none k p n (omega (arith, first_le p n))

pub not_both : (a : Answer) (k i : ℕ) → a ≡ Refused k i → a ≡ Accepted → ⊥
not_both a k i e f = let z : ◌≡◌ {A = ℕ} 0 1 = cc in omega arith

pub column-more :
    (column : List ℕ) (f : ℕ → ℕ) (i : ℕ) → i < 16 → column ≡ tab (cut i f 0) 16 → set column i (f i) ≡ tab (cut (i + 1) f 0) 16
column-more column f i h e = ap (λ (l : List ℕ). set l i (f i)) e ∙ filled_next f 0 i 16 h

module _ (p : Plan) where
  -- 28 looks at a deadline that the edition has
  deadline-same : (t : Task) → bad_deadline p.edition t ≡ bad_deadline p.edition (in_edition p.edition t)
  deadline-same t =
      by_edition (λ b. b && outside 1 deadline_high t.deadline ≡ b && outside 1 deadline_high (cond b t.deadline 0)) p.edition refl refl

  deadline-scan :
      lowest 28 (λ i. bad_deadline p.edition (task_of p.task i)) p.tasks
      ≡ lowest 28 (λ i. bad_deadline p.edition ((content_of p).tasks.task i)) p.tasks
  deadline-scan =
      lowest_ext 28 _ _ p.tasks
      (λ i h. deadline-same (task_of p.task i) ∙ ap (bad_deadline p.edition) (sym (used-task p i h)))

  pub fields_scan : fields_test p.edition (task_of p.task) p.tasks ≡ fields_test p.edition (content_of p).tasks.task p.tasks
  unfolding fields_test
  fields_scan =
      rw (
        lowest_ext 6 (λ i. bad_separation (task_of p.task i)) (λ i. bad_separation ((content_of p).tasks.task i)) p.tasks (λ i h. ap bad_separation (sym (used-task p i h))),
        lowest_ext 7 (λ i. bad_budget (task_of p.task i)) (λ i. bad_budget ((content_of p).tasks.task i)) p.tasks (λ i h. ap bad_budget (sym (used-task p i h))),
        lowest_ext 8 (λ i. bad_offset (task_of p.task i)) (λ i. bad_offset ((content_of p).tasks.task i)) p.tasks (λ i h. ap bad_offset (sym (used-task p i h))),
        deadline-scan,
      )

  pub wishes_scan : wishes_test p.edition (task_of p.task) p.tasks ≡ wishes_test p.edition (content_of p).tasks.task p.tasks
  unfolding wishes_test
  wishes_scan =
      rw (
        lowest_ext 6 (λ i. bad_separation (task_of p.task i)) (λ i. bad_separation ((content_of p).tasks.task i)) p.tasks (λ i h. ap bad_separation (sym (used-task p i h))),
        lowest_ext 7 (λ i. bad_budget (task_of p.task i)) (λ i. bad_budget ((content_of p).tasks.task i)) p.tasks (λ i h. ap bad_budget (sym (used-task p i h))),
        lowest_ext 26 (λ i. bad_wish (task_of p.task i)) (λ i. bad_wish ((content_of p).tasks.task i)) p.tasks (λ i h. ap bad_wish (sym (used-task p i h))),
        deadline-scan,
      )

  pub bounds-scan :
      (x : ℕ → ℕ)
      → lowest 13 (λ i. over_bound (task_of p.task i) (bound_by (core_for_each p.cores p.tasks) (task_of p.task i) (x i))) p.tasks
      ≡ bounds_test (content_of p).tasks x
  unfolding content_of bound
  bounds-scan x = lowest_ext 13 _ _ p.tasks (λ i h. ap (λ (t : Task). over_bound t (bound_by (core_for_each p.cores p.tasks) t (x i))) (sym (used-task p i h)))
