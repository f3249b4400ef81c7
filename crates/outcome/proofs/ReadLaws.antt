-- What stands at the places that the statement names: the numbers of the plan, of the log and of the reports.
--     same-loops, same-cores, separation-at, budget-at, offset_at       what a table's bytes say of its loops and cores
--     finish_kind, finish-number                            the eight bytes that a log run leaves of an entry that is reported as finished
--     refusal_kind, refusal-number                          and of one that is reported as refused
--     within-high                                           a loop of an accepted table has at most 1,600,000 ticks
--     slack-at, bound_at                                    the eight bytes that the C judgement leaves of loop i
use Rattle.std.specs.Prelude.{ℕ, ◌+◌, ◌*◌, ◌≤◌, ◌<◌, ◌≡◌, List, [], ◌++◌, length, drop}
use Rattle.std.proofs.Math.Path.{refl, ap}
use Rattle.std.proofs.Common.{◌∙◌, append-nil, add-zero, length-append}
use native.Mathlib.Omega.{arith}
use Rattle.laws.specs.TabLaws.{cut_below}
use Rattle.tasks.specs.declared.Task.{Task}
use Rattle.tasks.specs.Answer.{Accepted}
use Rattle.tasks.specs.TaskSet.{bound}
use Rattle.tasks.specs.Limits.{Bounded}
use Rattle.tasks.specs.Content.{no_task}
use Rattle.tasks.specs.Tests.{tests}
use Rattle.tasks.proofs.TestsLaws.{tests-passed, tests-limits, tests-bounded, slack-high}
use Rattle.numbers.specs.Bytes.{number, digits, entries}
use Rattle.numbers.specs.ByteLaws.{length_digits, number-digits-at, number-entries}
use Rattle.codec.specs.Table.{task_size, edition_in, core_count, task_count, tasks_at, task_in, task_set_in, content_in, verdict}
use Rattle.roundtrip.specs.SectionLaws.{verdict-parts}
use Rattle.history.specs.Report.{Report, finished, refusal}
use Rattle.logs.specs.LogBytes.{report_bytes, reports_to}
use Rattle.logs.specs.ReportLaws.{length-report}
use Rattle.dahomike.specs.Answers as answers
use Rattle.outcome.specs.Outcome.{cores_of, loops_of, size_of, separation_of, budget_of, offset_of, kind_of, value_of, slack_left, bound_left, within_of}

-- ---- the table

module _ (t : List ℕ) where
  pub same-loops : (content_in t).tasks.count ≡ loops_of t
  unfolding content_in task_set_in task_count core_count
  same-loops = refl

  pub same-cores : (content_in t).tasks.cores ≡ cores_of t
  unfolding content_in task_set_in core_count
  same-cores = refl

  module _ (i : ℕ) (h : i < loops_of t) where
    task-at : (content_in t).tasks.task i ≡ task_in (edition_in t) t (3 + cores_of t + size_of t * i)
    unfolding content_in task_set_in task_count tasks_at task_size core_count
    task-at =
        let place : 2 + cores_of t + 1 + size_of t * i ≡ 3 + cores_of t + size_of t * i = omega arith in
        cut_below (loops_of t) (λ k. task_in (edition_in t) t (2 + cores_of t + 1 + size_of t * k)) no_task i h ∙ ap (task_in (edition_in t) t) place

    pub separation-at : ((content_in t).tasks.task i).separation ≡ separation_of t i
    unfolding task_in
    separation-at = ap (λ (k : Task). k.separation) task-at

    pub budget-at : ((content_in t).tasks.task i).budget ≡ budget_of t i
    unfolding task_in
    budget-at = ap (λ (k : Task). k.budget) task-at

    pub offset_at : ((content_in t).tasks.task i).offset ≡ offset_of t i
    unfolding task_in
    offset_at = ap (λ (k : Task). k.offset) task-at

-- ---- two numbers of four bytes each

module _ (u v : ℕ) where
  pair-long : length (digits 4 u ++ digits 4 v) ≡ 8
  pair-long = length-append (digits 4 u) (digits 4 v) ∙ rw (length_digits 4 u, length_digits 4 v)

  pair-first : u < 4294967296 → number 4 (digits 4 u ++ digits 4 v) 0 ≡ u
  pair-first h = number-digits-at 4 u [] (digits 4 v) 0 refl h

  pair_second : v < 4294967296 → number 4 (digits 4 u ++ digits 4 v) 4 ≡ v
  pair_second h = rw append-nil at (number-digits-at 4 v (digits 4 u) [] 4 (length_digits 4 u) h)

-- the i-th of such pairs, with bytes behind them
module _ (f : ℕ → List ℕ) (size : (i : ℕ) → length (f i) ≡ 8) (n i : ℕ) (rest : List ℕ) (h : i < n) where
  first_in : number 4 (entries f n ++ rest) (8 * i) ≡ number 4 (f i) 0
  first_in = rw add-zero at (number-entries 8 f size 4 n i 0 rest h (omega arith))

  second_in : number 4 (entries f n ++ rest) (8 * i + 4) ≡ number 4 (f i) 4
  second_in = number-entries 8 f size 4 n i 4 rest h (omega arith)

-- ---- what a log run leaves

kind_in : Report → ℕ
kind_in (finished f) = 1
kind_in (refusal k) = 2

number_in : Report → ℕ
number_in (finished f) = f
number_in (refusal k) = k

kind_read : (r : Report) → number 4 (report_bytes r) 0 ≡ kind_in r
unfolding report_bytes kind_in
kind_read (finished f) = pair-first 1 f (omega arith)
kind_read (refusal k) = pair-first 2 k (omega arith)

number_read : (r : Report) → number_in r < 4294967296 → number 4 (report_bytes r) 4 ≡ number_in r
unfolding report_bytes number_in
number_read (finished f) h = pair_second 1 f h
number_read (refusal k) h = pair_second 2 k h

module _ (R : ℕ → Report) (n : ℕ) (out : List ℕ) (e : ℕ) (h : e < n) where
  kind_left : kind_of (reports_to R n out) e ≡ kind_in (R e)
  unfolding reports_to
  kind_left = first_in (λ k. report_bytes (R k)) (λ k. length-report (R k)) n e (drop (8 * n) out) h ∙ kind_read (R e)

  number-left : number_in (R e) < 4294967296 → value_of (reports_to R n out) e ≡ number_in (R e)
  unfolding reports_to
  number-left small =
      second_in (λ k. report_bytes (R k)) (λ k. length-report (R k)) n e (drop (8 * n) out) h ∙ number_read (R e) small

  pub finish_kind : (f : ℕ) → R e ≡ finished f → kind_of (reports_to R n out) e ≡ 1
  unfolding kind_in
  finish_kind f q = kind_left ∙ ap kind_in q

  pub refusal_kind : (k : ℕ) → R e ≡ refusal k → kind_of (reports_to R n out) e ≡ 2
  unfolding kind_in
  refusal_kind k q = kind_left ∙ ap kind_in q

  pub finish-number : (f : ℕ) → R e ≡ finished f → f < 4294967296 → value_of (reports_to R n out) e ≡ f
  unfolding number_in
  finish-number f q small = number-left (rw q small) ∙ ap number_in q

  pub refusal-number : (k : ℕ) → R e ≡ refusal k → k < 4294967296 → value_of (reports_to R n out) e ≡ k
  unfolding number_in
  refusal-number k q small = number-left (rw q small) ∙ ap number_in q

-- ---- what the C judgement leaves

module _ (t : List ℕ) (a : verdict t ≡ Accepted) (i : ℕ) (h : i < loops_of t) where
  passed : tests (content_in t) ≡ Accepted
  passed = (verdict-parts t a).content

  inside : i < (content_in t).tasks.count
  inside = rw (same-loops t) h

  bound-within : bound (content_in t).tasks (content_in t).slack i ≡ within_of t (content_in t).slack i
  unfolding bound
  bound-within = rw (same-loops t, same-cores t, offset_at t i h, budget-at t i h)

  bound-high : bound (content_in t).tasks (content_in t).slack i ≤ 1600000
  unfolding Bounded
  bound-high = omega (arith, tests-bounded (content_in t) passed i inside, (tests-limits (content_in t) passed).separation-high i inside)

  pub within-high : within_of t (content_in t).slack i ≤ 1600000
  within-high = rw bound-within at bound-high

  module _ (rest : List ℕ) where
    pair : ℕ → List ℕ
    pair k = digits 4 ((content_in t).slack k) ++ digits 4 (bound (content_in t).tasks (content_in t).slack k)

    pub slack-at : slack_left (answers.report_bytes (content_in t) ++ rest) i ≡ (content_in t).slack i
    unfolding answers.report_bytes pair
    slack-at =
        first_in pair (λ k. pair-long _ _) (content_in t).tasks.count i rest inside
        ∙ pair-first ((content_in t).slack i) _ (omega (arith, slack-high (content_in t) (tests-passed (content_in t) passed) i inside))

    pub bound_at : bound_left (answers.report_bytes (content_in t) ++ rest) i ≡ within_of t (content_in t).slack i
    unfolding answers.report_bytes pair
    bound_at =
        second_in pair (λ k. pair-long _ _) (content_in t).tasks.count i rest inside
        ∙ pair_second _ (bound (content_in t).tasks (content_in t).slack i) (omega (arith, bound-high))
        ∙ bound-within
