-- What is written of a plan, from its own arrays: the bytes of the content that it keeps.
--     Reported         a plan that keeps a content which meets none of 3 to 13
--     tasks_are        it has the content's tasks, tasks-few: at most sixteen
--     entry-long       how long an entry is
--     reportable       its slack and bounds fit 4 bytes each
--     report-leaves    what is left of a buffer that has room for all entries
--     answer-refused, answer-short, answer_done    what a plan is answered with, by what the code has seen
--     answered_is      that is the answer of the content that the plan keeps
use Rattle.std.specs.Prelude.{Ok, Err, ℕ, ◌*◌, ◌≤◌, ◌<◌, ◌≡◌, Bool, List, ◌++◌, length}
use Rattle.std.proofs.Math.Path.{refl, ap}
use Rattle.std.proofs.Common.{◌∙◌, arith, length-append}
use Rattle.std.proofs.Math.Bool.{true, false}
use Rattle.std.proofs.Math.ListN.{drop}
use Rattle.std.proofs.lemmas.List.Edits.{sets}
use Rattle.std.proofs.Math.Dec.{ltb}
use borrow.Author.Tests.{lt-ltb, le-ltb, ltb-false}
use Rattle.laws.specs.SetsLaws.{sets-whole}
use Rattle.laws.specs.TabLaws.{get_or-tab}
use Rattle.tasks.specs.declared.Plan.{Plan}
use Rattle.tasks.specs.Answer.{Answer, Accepted, Refused}
use Rattle.tasks.specs.TaskSet.{bound, row}
use Rattle.tasks.specs.Limits.{Bounded}
use Rattle.tasks.specs.Content.{Content, plan_of, task_of}
use Rattle.tasks.specs.Tests.{first_met, unless_refused}
use Rattle.tasks.proofs.TestsLaws.{tests-limits, tests-bounded}
use Rattle.numbers.specs.Bytes.{digits, entries}
use Rattle.numbers.specs.ByteLaws.{length_digits, length-entries, entries-same}
use Rattle.dahomike_answer.specs.Number.{answer_number}
use Rattle.dahomike.specs.Answers.{room_test, report_bytes, found_bytes, bound_in, entry_size, entry_bytes, entry_of, Reportable}
use Rattle.dahomike.specs.ReportLaws.{Reported, bytes_of}

pair-long : (x y : ℕ) → length (digits 4 x ++ digits 4 y) ≡ 8
pair-long x y = length-append (digits 4 x) (digits 4 y) ∙ rw (length_digits 4 x, length_digits 4 y)

pub entry-long : (b : Bool) (y x z : ℕ) → length (entry_bytes b y x z) ≡ entry_size b
entry-long true y x z = length-append (digits 4 y) (digits 4 x ++ digits 4 z) ∙ rw (length_digits 4 y, pair-long x z)
entry-long false y x z = pair-long x z

module _ (b : Bool) {c : Content} {p : Plan} (g : Reported c p) where
  pub tasks_are : p.tasks ≡ c.tasks.count
  unfolding plan_of
  tasks_are = rw g.plan_is

  few : c.tasks.count ≤ 16
  few = (tests-limits c g.passed).tasks-high

  pub tasks-few : p.tasks ≤ 16
  tasks-few = omega (arith, tasks_are, few)

  task-at : (i : ℕ) → i < c.tasks.count → task_of p.task i ≡ c.tasks.task i
  unfolding task_of plan_of
  task-at i h = rw g.plan_is (get_or-tab c.tasks.task 16 i _ (omega (arith, few)))

  slack-at : (i : ℕ) → i < c.tasks.count → row p.slack i ≡ c.slack i
  unfolding row plan_of
  slack-at i h = rw g.plan_is (get_or-tab c.slack 16 i 0 (omega (arith, few)))

  cores_are : p.cores ≡ c.tasks.cores
  unfolding plan_of
  cores_are = rw g.plan_is

  bound_at : (i : ℕ) → i < c.tasks.count → bound_in p i ≡ bound c.tasks c.slack i
  unfolding bound_in bound
  bound_at i h = rw (cores_are, tasks_are, task-at i h, slack-at i h)

  pub reportable : (room : ℕ) → entry_size b * p.tasks ≤ room → Reportable b p room
  unfolding Bounded
  reportable room h = record { few = tasks-few; fits = h; small = λ i l. small i (omega (arith, tasks_are)) }
    where
      small : (i : ℕ) → i < c.tasks.count → bound_in p i < 4294967296
      small i l = rw (bound_at i l) (omega (arith, tests-bounded c g.passed i l, (tests-limits c g.passed).separation-high i l))

  report_is : entries (entry_of b p) p.tasks ≡ bytes_of b c
  unfolding report_bytes found_bytes entry_of
  report_is = ap (entries (entry_of b p)) tasks_are ∙ same b
    where
      same : (d : Bool) → entries (entry_of d p) c.tasks.count ≡ bytes_of d c
      same true = entries-same _ _ c.tasks.count (λ i h. rw (task-at i h, slack-at i h, bound_at i h))
      same false = entries-same _ _ c.tasks.count (λ i h. rw (slack-at i h, bound_at i h))

  report-long : length (entries (entry_of b p) p.tasks) ≡ entry_size b * p.tasks
  unfolding entry_of
  report-long = length-entries (entry_size b) _ (λ i. entry-long b _ _ _) p.tasks

  pub report-leaves :
      (out : List ℕ) → entry_size b * p.tasks ≤ length out
      → sets out 0 (entries (entry_of b p) p.tasks) ≡ bytes_of b c ++ drop (entry_size b * p.tasks) out
  report-leaves out h =
      sets-whole out (entries (entry_of b p) p.tasks) (omega (arith, report-long)) ∙ rw (report-long, report_is)

module _ (b : Bool) (a : Answer) (p : Plan) (out : List ℕ) where
  pub answer-refused : (k i : ℕ) → a ≡ Refused k i
      → (answer_number a 0 ≡ answer_number (room_test b a p.tasks (length out)) p.tasks)
      × (out ≡ unless_refused (room_test b a p.tasks (length out)) (sets out 0 (entries (entry_of b p) p.tasks)) out)
  unfolding room_test first_met answer_number
  answer-refused k i e = (rw e, rw e)

  module _ (e : a ≡ Accepted) where
    pub answer-short : length out < entry_size b * p.tasks
        → (answer_number (Refused 24 0) 0 ≡ answer_number (room_test b a p.tasks (length out)) p.tasks)
        × (out ≡ unless_refused (room_test b a p.tasks (length out)) (sets out 0 (entries (entry_of b p) p.tasks)) out)
    unfolding room_test first_met answer_number
    answer-short h = let l = lt-ltb (length out) (entry_size b * p.tasks) h in (rw (e, l), rw (e, l))

    pub answer_done : entry_size b * p.tasks ≤ length out
        → (p.tasks ≡ answer_number (room_test b a p.tasks (length out)) p.tasks)
        × (sets out 0 (entries (entry_of b p) p.tasks)
        ≡ unless_refused (room_test b a p.tasks (length out)) (sets out 0 (entries (entry_of b p) p.tasks)) out)
    unfolding room_test first_met answer_number
    answer_done h = let l = le-ltb (length out) (entry_size b * p.tasks) h in (rw (e, l), rw (e, l))

module _ (b : Bool) (a : Answer) {c : Content} {p : Plan} (g : a ≡ Accepted → Reported c p) (out : List ℕ) where
  number_same : answer_number (room_test b a p.tasks (length out)) p.tasks ≡ answer_number (room_test b a c.tasks.count (length out)) c.tasks.count
  unfolding room_test first_met answer_number
  number_same = go a refl
    where
      go : (d : Answer) → a ≡ d → answer_number (room_test b a p.tasks (length out)) p.tasks ≡ answer_number (room_test b a c.tasks.count (length out)) c.tasks.count
      go (Err r) e = rw e
      go (Ok tt) e = ap (λ (n : ℕ). answer_number (room_test b a n (length out)) n) (tasks_are b (g e))

  leaves-same :
      unless_refused (room_test b a p.tasks (length out)) (sets out 0 (entries (entry_of b p) p.tasks)) out
      ≡ unless_refused (room_test b a c.tasks.count (length out)) (bytes_of b c ++ drop (entry_size b * c.tasks.count) out) out
  unfolding room_test first_met
  leaves-same = go a refl
    where
      go : (d : Answer) → a ≡ d
          → unless_refused (room_test b a p.tasks (length out)) (sets out 0 (entries (entry_of b p) p.tasks)) out
          ≡ unless_refused (room_test b a c.tasks.count (length out)) (bytes_of b c ++ drop (entry_size b * c.tasks.count) out) out
      go (Err r) e = rw e
      go (Ok tt) e =
          written (ltb (length out) (entry_size b * p.tasks)) refl
          ∙ ap (λ (n : ℕ). unless_refused (room_test b a n (length out)) (bytes_of b c ++ drop (entry_size b * n) out) out) (tasks_are b (g e))
        where
          written : (t : Bool) → ltb (length out) (entry_size b * p.tasks) ≡ t
              → unless_refused (room_test b a p.tasks (length out)) (sets out 0 (entries (entry_of b p) p.tasks)) out
              ≡ unless_refused (room_test b a p.tasks (length out)) (bytes_of b c ++ drop (entry_size b * p.tasks) out) out
          written true l = rw (e, l)
          written false l = rw (e, l) (report-leaves b (g e) out (ltb-false (length out) (entry_size b * p.tasks) l))

  pub answered_is : (r : ℕ) (left : List ℕ)
      → (r ≡ answer_number (room_test b a p.tasks (length out)) p.tasks)
      × (left ≡ unless_refused (room_test b a p.tasks (length out)) (sets out 0 (entries (entry_of b p) p.tasks)) out)
      → (r ≡ answer_number (room_test b a c.tasks.count (length out)) c.tasks.count)
      × (left ≡ unless_refused (room_test b a c.tasks.count (length out)) (bytes_of b c ++ drop (entry_size b * c.tasks.count) out) out)
  answered_is r left h = (h.0 ∙ number_same, h.1 ∙ leaves-same)
