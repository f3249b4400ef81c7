-- An entry's release handed over at its tick, by the arrays.
--     answer_20              a loop that isn't in the table
--     answer-rest            one that is: the first of 21, 22 and 23, by the arrays
--     hand_refused, hand_behind, hand_first      the ends of the code: it is refused; its job stands behind others, or is its loop's head
use Rattle.std.specs.Prelude.{ℕ, ◌+◌, ◌*◌, ◌≤◌, ◌<◌, Bool, true, false, ◌≡◌, refl, ◌≢◌, List, length, get_or, set}
use Rattle.std.proofs.Math.Path.{sym}
use Rattle.std.proofs.Common.{ap, subst, ◌∙◌, add-one, arith}
use Rattle.std.proofs.Math.Option.{Option, none, some}
use Rattle.std.proofs.lemmas.List.Edits.{sets}
use borrow.Author.Tests.{le-leb, lt-leb}
use Rattle.tasks.specs.declared.Task.{Task}
use Rattle.tasks.specs.declared.Plan.{Plan}
use Rattle.tasks.specs.Answer.{Answer}
use Rattle.tasks.specs.TaskSet.{TaskSet, row}
use Rattle.tasks.specs.Content.{content_of}
use Rattle.machine.specs.Machine.{Machine}
use Rattle.machine.specs.Admission.{admit_tests}
use Rattle.state.specs.State.{flag_of, tick_of, last_of}
use Rattle.state.proofs.ViewLaws.{flag_in, row_last}
use Rattle.state.proofs.FitLaws.{in_task, in_count, plan-limits}
use Rattle.state.specs.CallLaws.{admission}
use Rattle.history.specs.Engine.{taken, refused, outcome_of}
use Rattle.history.specs.Log.{Entry, tick_at, loop_at, demand_at}
use Rattle.history.proofs.LogLaws.{clock-entry}
use Rattle.history.specs.Report.{refusal}
use Rattle.history.specs.OnMachine.{answer_of, machine_engine}
use Rattle.history.proofs.Balance.{machine_clock}
use Rattle.history.proofs.Owners.{owned-length}
use Rattle.choice.specs.Key.{head_key}
use Rattle.heads.specs.Order.{Inserted}
use Rattle.logs.specs.LogBytes.{report_bytes}
use Rattle.running.specs.Running.{Arrays, arrays}
use Rattle.running.specs.OwnerLaws.{count_at}
use Rattle.running.specs.Entered.{Entered, up_to, machine_at, outcome_is, refused-entered, taken-behind, taken-place, taken-rises, taken-first}
use Rattle.running.specs.HandLaws.{Handing, takes}

last-back : (o : Option ℕ) → last_of (flag_of o) (tick_of o) ≡ o
last-back none = refl
last-back (some t) = refl

module _ {p : Plan} {l : List Entry} {out₀ : List ℕ} {e tick task demand tasks : ℕ} {separations budgets offsets : List ℕ} {W : Arrays}
    {released : List Bool} {last : List ℕ} (H : Handing p l out₀ e tick task demand tasks separations budgets offsets W released last) where
  abbrev s : TaskSet
  s = (content_of p).tasks

  abbrev M : Machine
  M = machine_at H.at H.less

  pub hand_room : 8 * e + 8 ≤ length W.out
  hand_room = omega (arith, H.less, H.at.fitting.room, H.at.running.book.long)

  pub hand_small : e < 65536
  hand_small = omega (arith, H.less, H.at.fitting.few)

  pub answer_20 : tasks ≤ task → answer_of s M (loop_at l e) (demand_at l e) ≡ refused 20
  unfolding answer_of admit_tests
  answer_20 h =
      rw (le-leb s.count (loop_at l e) (omega (arith, H.columns.tasks_are, in_count p, H.task_is)))

  module _ (h : task < tasks) where
    pub hand_low : task < 16
    hand_low = omega (arith, H.columns.tasks_are, in_count p, (plan-limits p H.at.fitting.accepted).tasks-high)

    now : tick ≡ M.clock
    now = H.tick_is ∙ sym (machine_clock s (up_to l e) ∙ clock-entry l e H.at.onward)

    -- as many jobs as owners
    count-here : row W.jobs task ≡ length (M.lane task).queue
    count-here =
        rw H.at.running.counts_are
        (count_at H.at.owned_by task hand_low
        ∙ owned-length (machine_engine s) l task _ (H.at.owned_by task) _
        (H.at.running.book.owned task (omega (arith, H.columns.tasks_are, in_count p))))

    pub answer-rest :
        outcome_of (admission (row separations task) (row budgets task) tick demand (row W.jobs task) (get_or released task false) (row last task))
        ≡ answer_of s M (loop_at l e) (demand_at l e)
    unfolding admission answer_of admit_tests
    answer-rest =
        rw (
          lt-leb s.count (loop_at l e) (omega (arith, H.columns.tasks_are, in_count p, H.task_is)),
          H.at.recent.released_are,
          H.at.recent.last_are,
          count-here,
          flag_in M task hand_low,
          row_last M task hand_low,
          last-back (M.lane task).last,
          H.columns.separations_are task h,
          H.columns.budgets_are task h,
          now,
          sym H.task_is,
          sym H.demand_is,
          in_task p task (omega (arith, H.columns.tasks_are)),
        )

    pub hand_answer :
        {a : Answer}
        → a ≡ admission (row separations task) (row budgets task) tick demand (row W.jobs task) (get_or released task false) (row last task)
        → outcome_of a ≡ answer_of s M (loop_at l e) (demand_at l e)
    hand_answer q = ap outcome_of q ∙ answer-rest

  pub hand_refused :
      {m : ℕ} {out' : List ℕ} → answer_of s M (loop_at l e) (demand_at l e) ≡ refused m → out' ≡ sets W.out (8 * e) (report_bytes (refusal m))
      → Entered p l out₀ (e + 1) tick (arrays W.jobs W.owners W.key W.left W.heads out') released last × (0 ≡ takes p l e)
  hand_refused met q = (
    rw (add-one e, q, H.tick_is) (refused-entered H.at H.less met),
    rw (outcome_is H.at H.less, met),
  )

  -- the arrays with the job added, and these heads
  abbrev withJob : List ℕ → List ℕ → ℕ → Arrays
  withJob key' left' n' =
      arrays (set W.jobs task (row W.jobs task + 1)) (set W.owners (16 * task + row W.jobs task) e) key' left' n' W.out

  module _ (free : answer_of s M (loop_at l e) (demand_at l e) ≡ taken) where
    took : 1 ≡ takes p l e
    took = rw (outcome_is H.at H.less, free)

    -- the job stands behind others of its loop
    pub hand_behind :
        row W.jobs task ≢ 0
        → Entered p l out₀ (e + 1) tick (withJob W.key W.left W.heads) (set released task true) (set last task tick) × (1 ≡ takes p l e)
    hand_behind ne = (
      rw (add-one e, H.tick_is, H.task_is) (taken-behind H.at H.less free (λ z. ne (ap (row W.jobs) H.task_is ∙ z))),
      took,
    )

    module _ (empty : row W.jobs task ≡ 0) where
      empty-here : row W.jobs (loop_at l e) ≡ 0
      empty-here = ap (row W.jobs) (sym H.task_is) ∙ empty

      pub hand_place : W.heads < 16
      hand_place = taken-place H.at H.less free empty-here

      pub hand_rises : (a b : ℕ) → a < b → b < W.heads → row W.key a < row W.key b
      hand_rises = taken-rises H.at H.less free empty-here

      -- it is its loop's head
      pub hand_first :
          {key' left' : List ℕ} → task < tasks → Inserted W.key W.left W.heads (head_key tick (row offsets task) task) demand key' left'
          → Entered p l out₀ (e + 1) tick (withJob key' left' (W.heads + 1)) (set released task true) (set last task tick) × (1 ≡ takes p l e)
      hand_first {key'} {left'} h I = (
        rw (add-one e, H.tick_is, H.task_is) (taken-first H.at H.less free empty-here I'),
        took,
      )
        where
          offset : row offsets task ≡ (s.task (loop_at l e)).offset
          offset =
              let k : task < p.tasks = omega (arith, H.columns.tasks_are) in
              H.columns.offsets_are task h ∙ sym (ap (λ (t : Task). t.offset) (in_task p task k)) ∙ ap (λ (i : ℕ). (s.task i).offset) H.task_is

          same : head_key tick (row offsets task) task ≡ head_key (tick_at l e) (s.task (loop_at l e)).offset (loop_at l e)
          same = rw (offset, H.tick_is, H.task_is)

          I' : Inserted W.key W.left W.heads (head_key (tick_at l e) (s.task (loop_at l e)).offset (loop_at l e)) (demand_at l e) key' left'
          I' =
              subst (λ v. Inserted W.key W.left W.heads v (demand_at l e) key' left') same
              (subst (λ w. Inserted W.key W.left W.heads (head_key tick (row offsets task) task) w key' left') H.demand_is I)
