-- Document 02, §5: "A log gives the same entries and counts under accepted tables of either edition where cores, T, C, Y and slack agree."
-- Here of bytes, as in Outcome.antt; that slack agrees is not needed, since no run looks at it.
--     Alike         two tables have as many cores and loops, and every loop's T, C and Y agree
--     same-run      a log run answers the same under two accepted tables that are alike
--     same_left     and leaves the same in a lent answer
--     same_number   and so does its C function
--     same-found    slack that is not offered is the same for both
--     run-number    what the C function of a run answers is counted on the table's machine
--     same-judged   where slack agrees, the C judgement answers and leaves the same
--     convert_alike what a conversion leaves is alike to its table
--     convert_runs  so a log run and its C function answer and leave the same under both; convert_judged: and so does the C judgement
use Prim.Native.Nat.{ℕ, ◌+◌, ◌*◌, ◌≤◌, ◌<◌}
use Rattle.std.proofs.Math.Path.{◌≡◌, refl, sym, ap, ap₂}
use Rattle.std.proofs.Common.{◌∙◌, ⊎_elim, arith}
use Rattle.std.specs.Prelude.{Ok, Err, List, ◌++◌, length}
use borrow.Author.Tests.{eq-eqb}
use Rattle.laws.specs.EveryLaws.{below_or_not}
use Rattle.laws.specs.TabLaws.{cut-above}
use Rattle.tasks.specs.declared.Task.{Task}
use Rattle.tasks.specs.Answer.{Answer, Accepted}
use Rattle.tasks.specs.TaskSet.{TaskSet, plain_task, plain, found, bound, row}
use Rattle.tasks.specs.PlainLaws.{plain-found}
use Rattle.tasks.specs.Content.{Content, no_task}
use Rattle.tasks.specs.Tests.{unless_refused}
use Rattle.tasks.specs.AnswerLaws.{first_met-passed}
use Rattle.numbers.specs.Bytes.{digits, entries}
use Rattle.codec.specs.Table.{core_count, task_count, slack_count, task_set_in, content_in, verdict}
use Rattle.table.specs.Judged.{judged}
use Rattle.roundtrip.proofs.RoundTrip.{judged-fits}
use Rattle.logs.specs.LogBytes.{entry_count, entries_in, log_test, reports_to}
use Rattle.history.specs.Engine.{Engine}
use Rattle.history.specs.Log.{Entry}
use Rattle.history.specs.Report.{Report, report, taken_count, refused_count}
use Rattle.history.specs.OnMachine.{machine_engine}
use Rattle.history.proofs.PlainEngine.{plain_engine}
use Rattle.delivered.proofs.PlanLaws.{plan-counts}
use Rattle.delivered.specs.Demand3.{run_on}
use Rattle.delivered.proofs.Demand3.{plan-passes, log-early, demand_machine}
use Rattle.replay.specs.declared.run.Ran.{Ran}
use Rattle.replay.specs.Ran.{run_test, ran_of, run_leaves}
use Rattle.conversion.specs.Converted.{convert_test}
use Rattle.conversion.proofs.ConvertTheorems.{left_by, Twins, table-passed, convert_twins}
use Rattle.dahomike_answer.specs.Number.{answer_number}
use Rattle.dahomike.specs.Answers.{judge_test, judge_number, report_bytes, judge_leaves, run_number}
use Rattle.outcome.specs.Outcome.{loops_of}
use Rattle.outcome.proofs.ReadLaws.{same-loops, same-cores, separation-at, budget-at, offset_at}
use Rattle.outcome.specs.Editions.{Alike}

-- past a table's loops there is no task
past : (t : List ℕ) (i : ℕ) → loops_of t ≤ i → (content_in t).tasks.task i ≡ no_task
unfolding content_in task_set_in task_count core_count
past t i h = cut-above (loops_of t) _ no_task i h

module _ (t u : List ℕ) (A : Alike t u) where
  -- a field that agrees at every loop agrees everywhere
  everywhere :
      (field : Task → ℕ)
      → ((i : ℕ) → i < loops_of t → field ((content_in t).tasks.task i) ≡ field ((content_in u).tasks.task i))
      → (i : ℕ) → field ((content_in t).tasks.task i) ≡ field ((content_in u).tasks.task i)
  everywhere field agree i =
      ⊎_elim (λ (h : i < loops_of t). agree i h)
      (λ (h : loops_of t ≤ i). ap field (past t i h ∙ sym (past u i (omega (arith, A.loops)))))
      (below_or_not i (loops_of t))

  same-tasks : plain (content_in t).tasks ≡ plain (content_in u).tasks
  unfolding plain content_in task_set_in core_count task_count
  same-tasks =
      let T =
      everywhere (λ k. k.separation)
      (λ i h. separation-at t i h ∙ A.separations i h ∙ sym (separation-at u i (omega (arith, A.loops)))) in
      let C = everywhere (λ k. k.budget) (λ i h. budget-at t i h ∙ A.budgets i h ∙ sym (budget-at u i (omega (arith, A.loops)))) in
      let Y = everywhere (λ k. k.offset) (λ i h. offset_at t i h ∙ A.offsets i h ∙ sym (offset_at u i (omega (arith, A.loops)))) in
      λ j. record { cores = A.cores j; count = A.loops j; task = λ i. plain_task (T i j) (C i j) (Y i j) }

  same_engine : machine_engine (content_in t).tasks ≡ machine_engine (content_in u).tasks
  same_engine = sym (plain_engine (content_in t).tasks) ∙ ap machine_engine same-tasks ∙ plain_engine (content_in u).tasks

  pub same-found : slack_count t ≡ 0 → slack_count u ≡ 0 → (content_in t).slack ≡ (content_in u).slack
  unfolding content_in
  same-found z w =
      rw (eq-eqb (slack_count t) 0 z, eq-eqb (slack_count u) 0 w)
      (ap row (sym (plain-found (task_set_in t)) ∙ ap found same-tasks ∙ plain-found (task_set_in u)))

  same_count : task_count t ≡ task_count u
  unfolding task_count core_count
  same_count = A.loops

  same_entries : (content_in t).slack ≡ (content_in u).slack → report_bytes (content_in t) ≡ report_bytes (content_in u)
  unfolding report_bytes bound plain
  same_entries x =
      ap₂ (λ (s : TaskSet) (x : ℕ → ℕ). entries (λ i. digits 4 (x i) ++ digits 4 (bound s x i)) s.count) same-tasks x

  pub same-judged :
      verdict t ≡ Accepted → verdict u ≡ Accepted → (content_in t).slack ≡ (content_in u).slack → (out : List ℕ)
      → (judge_number t (length out) ≡ judge_number u (length out)) × (judge_leaves t out ≡ judge_leaves u out)
  unfolding judge_number judge_leaves judge_test
  same-judged a d x out = (rw (a, d, same_count), rw (a, d, same_count, same_entries x))

-- what a run under an accepted table counts and writes is what its machine's does
module _ (t : List ℕ) (a : verdict t ≡ Accepted) (l : List ℕ) (b : log_test l ≡ Accepted) where
  counted-taken : taken_count (run_on t) (entries_in l) ≡ taken_count (machine_engine (content_in t).tasks) (entries_in l)
  counted-taken =
      (plan-counts (judged t).plan (plan-passes t a) (entries_in l) (log-early l b)).0
      ∙ ap (λ (c : Content). taken_count (machine_engine c.tasks) (entries_in l)) (judged-fits t a)

  counted-refused : refused_count (run_on t) (entries_in l) ≡ refused_count (machine_engine (content_in t).tasks) (entries_in l)
  counted-refused =
      (plan-counts (judged t).plan (plan-passes t a) (entries_in l) (log-early l b)).1
      ∙ ap (λ (c : Content). refused_count (machine_engine c.tasks) (entries_in l)) (judged-fits t a)

  pub run-number :
      (room : ℕ) → run_test t l room ≡ Accepted
      → run_number t l room
      ≡ taken_count (machine_engine (content_in t).tasks) (entries_in l) + 65536 * refused_count (machine_engine (content_in t).tasks) (entries_in l)
  unfolding run_number answer_number ran_of
  run-number room e = rw (e, counted-taken, counted-refused)

module _ (t u : List ℕ) (a : verdict t ≡ Accepted) (d : verdict u ≡ Accepted) (A : Alike t u) (l : List ℕ) where
  same_test : (room : ℕ) → run_test t l room ≡ run_test u l room
  unfolding run_test
  same_test room = rw (a, d)

  -- a run that is not refused has a log past 14 and 15
  passed : (room : ℕ) → run_test u l room ≡ Accepted → log_test l ≡ Accepted
  unfolding run_test
  passed room e = (first_met-passed _ _ (first_met-passed _ _ e).1).0

  module _ (b : log_test l ≡ Accepted) where
    abbrev L : List Entry
    L = entries_in l

    same_taken : taken_count (run_on t) L ≡ taken_count (run_on u) L
    same_taken = counted-taken t a l b ∙ ap (λ (E : Engine). taken_count E L) (same_engine t u A) ∙ sym (counted-taken u d l b)

    same-refused : refused_count (run_on t) L ≡ refused_count (run_on u) L
    same-refused = counted-refused t a l b ∙ ap (λ (E : Engine). refused_count E L) (same_engine t u A) ∙ sym (counted-refused u d l b)

    same-reports : report (run_on t) L ≡ report (run_on u) L
    same-reports = demand_machine t a l b ∙ ap (λ (E : Engine). report E L) (same_engine t u A) ∙ sym (demand_machine u d l b)

  pub same-run : (room : ℕ) → ran_of t l room ≡ ran_of u l room
  unfolding ran_of
  same-run room = rw (same_test room) (go (run_test u l room) refl)
    where
      go :
          (r : Answer) → run_test u l room ≡ r
          → ◌≡◌ {A = Ran}
          (record {
            answer = r;
            taken = unless_refused r (taken_count (run_on t) (entries_in l)) 0;
            refused = unless_refused r (refused_count (run_on t) (entries_in l)) 0;
          })
          (record {
            answer = r;
            taken = unless_refused r (taken_count (run_on u) (entries_in l)) 0;
            refused = unless_refused r (refused_count (run_on u) (entries_in l)) 0;
          })
      go (Err r) e = refl
      go (Ok tt) e = λ j. record { answer = Accepted; taken = same_taken (passed room e) j; refused = same-refused (passed room e) j }

  pub same_left : (out : List ℕ) → run_leaves t l out ≡ run_leaves u l out
  unfolding run_leaves
  same_left out = rw (same_test (length out)) (go (run_test u l (length out)) refl)
    where
      go :
          (r : Answer) → run_test u l (length out) ≡ r
          → unless_refused r (reports_to (report (run_on t) (entries_in l)) (entry_count l) out) out
          ≡ unless_refused r (reports_to (report (run_on u) (entries_in l)) (entry_count l) out) out
      go (Err r) e = refl
      go (Ok tt) e = ap (λ (R : ℕ → Report). reports_to R (entry_count l) out) (same-reports (passed (length out) e))

  pub same_number : (room : ℕ) → run_number t l room ≡ run_number u l room
  unfolding run_number
  same_number room = rw (same_test room, same-run room)

-- Document 02, §6: "Both sides have the same slack, bounds and late". A table and what a conversion leaves of it differ in deadlines alone.
module _ (t u : List ℕ) (W : Twins t u) where
  twin_loops : loops_of t ≡ loops_of u
  twin_loops = sym (same-loops t) ∙ sym W.loops ∙ same-loops u

  twins_alike : Alike t u
  twins_alike =
      record {
        cores = sym (same-cores t) ∙ sym W.cores ∙ same-cores u;
        loops = twin_loops;
        separations = λ i h. sym (separation-at t i h) ∙ sym (W.separations i) ∙ separation-at u i (omega (arith, twin_loops));
        budgets = λ i h. sym (budget-at t i h) ∙ sym (W.budgets i) ∙ budget-at u i (omega (arith, twin_loops));
        offsets = λ i h. sym (offset_at t i h) ∙ sym (W.offsets i) ∙ offset_at u i (omega (arith, twin_loops));
      }

module _ (e : ℕ) (t out : List ℕ) (a : convert_test e t (length out) ≡ Accepted) where
  pub convert_alike : Alike t (left_by e t out)
  convert_alike = twins_alike t (left_by e t out) (convert_twins e t out a)

  -- under the table and under what its conversion leaves, in any lent answer or buffer
  pub convert_runs :
      (l lent : List ℕ)
      → (ran_of t l (length lent) ≡ ran_of (left_by e t out) l (length lent))
      × (run_leaves t l lent ≡ run_leaves (left_by e t out) l lent)
      × (run_number t l (length lent) ≡ run_number (left_by e t out) l (length lent))
  convert_runs l lent =
      let v = table-passed e t out a in
      let u = (convert_twins e t out a).accepted in (
        same-run t (left_by e t out) v u convert_alike l (length lent),
        same_left t (left_by e t out) v u convert_alike l lent,
        same_number t (left_by e t out) v u convert_alike l (length lent),
      )

  pub convert_judged :
      (lent : List ℕ)
      → (judge_number t (length lent) ≡ judge_number (left_by e t out) (length lent)) × (judge_leaves t lent ≡ judge_leaves (left_by e t out) lent)
  convert_judged lent =
      let W = convert_twins e t out a in
      same-judged t (left_by e t out) convert_alike (table-passed e t out a) W.accepted (sym W.slack) lent
