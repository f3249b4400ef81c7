-- An entry entered, by its code.
--     Entering p out₀ log e …      the first e entries of a log's bytes are entered, and there is another; with the plan's columns
--     Enters                       what the code gives
--     enter_long, enter_room       its bytes are in the log, and the answer has room for its report
--     enter_tick                   its tick, as the reader has it
--     enter_ready                  the leaps up to its tick may be made
--     enter_back                   an entry that goes back
--     enter_handing                after the leaps its release may be handed over
use Rattle.std.specs.Prelude.{ℕ, ◌+◌, ◌-◌, ◌*◌, ◌≤◌, ◌<◌, Bool, ◌≡◌, refl, List, length, ltb}
use Rattle.std.proofs.Math.Bool.{true}
use Rattle.std.proofs.Common.{sym, ap, subst, ◌∙◌, add-one, arith}
use Rattle.std.proofs.lemmas.List.Edits.{sets}
use borrow.Author.Tests.{lt-ltb, le-ltb}
use Rattle.tasks.specs.declared.Plan.{Plan}
use Rattle.history.specs.Log.{Entry, tick_at, loop_at, demand_at, back, outcome}
use Rattle.history.specs.Report.{refusal}
use Rattle.logs.specs.declared.read.Release.{Release}
use Rattle.logs.specs.LogBytes.{entry_count, entries_in, report_bytes}
use Rattle.logs.specs.LogStages.{Releases}
use Rattle.logs.specs.LogLaws.{entries-length, entry_at}
use Rattle.running.specs.Running.{Arrays, arrays}
use Rattle.running.specs.Leap.{Standing, Ready, Reaches, Advanced}
use Rattle.running.specs.Entered.{Entered, standing, entered-ready, entered-back, back-entered, at_tick}
use Rattle.running.specs.HandLaws.{Columns, Handing, takes}

pub record Entering (p : Plan) (out₀ log : List ℕ) (e clock cores tasks : ℕ) (separations budgets offsets : List ℕ)
    (W : Arrays) (released : List Bool) (last : List ℕ) : Type 0 where
  pub entered : Entered p (entries_in log) out₀ e clock W released last
  pub less : e < length (entries_in log)
  pub long : length log ≡ 2 + 9 * length (entries_in log)
  pub cores_are : cores ≡ p.cores
  pub columns : Columns p tasks separations budgets offsets

abbrev pub Enters :
    List ℕ → ℕ → ℕ → ℕ → ℕ → List ℕ → List ℕ → List ℕ → Arrays → List Bool → List ℕ → ℕ → ℕ → Arrays → List Bool → List ℕ → Type 0
Enters log e clock cores tasks separations budgets offsets W released last now took W' released' last' =
    (p : Plan) (out₀ : List ℕ)
    → Entering p out₀ log e clock cores tasks separations budgets offsets W released last
    → Entered p (entries_in log) out₀ (e + 1) now W' released' last' × (took ≡ takes p (entries_in log) e)

module _ {p : Plan} {out₀ log : List ℕ} {e clock cores tasks : ℕ} {separations budgets offsets : List ℕ} {W : Arrays} {released : List Bool}
    {last : List ℕ} (X : Entering p out₀ log e clock cores tasks separations budgets offsets W released last) where
  abbrev l : List Entry
  l = entries_in log

  pub enter_long : 2 + 9 * e + 9 ≤ length log
  enter_long = omega (arith, X.less, X.long)

  pub enter_room : 8 * e + 8 ≤ length W.out
  enter_room = omega (arith, X.less, X.entered.fitting.room, X.entered.running.book.long)

  module _ {r : Release} (R : Releases log e r) where
    counted : e < entry_count log
    counted = subst (λ n. e < n) (entries-length log) X.less

    pub enter_tick : r.tick ≡ tick_at l e
    enter_tick = R.tick ∙ sym (ap (λ (x : Entry). x.tick) (entry_at log e counted))

    enter-task : r.task ≡ loop_at l e
    enter-task = R.task ∙ sym (ap (λ (x : Entry). x.loop) (entry_at log e counted))

    enter-demand : r.demand ≡ demand_at l e
    enter-demand = R.demand ∙ sym (ap (λ (x : Entry). x.demand) (entry_at log e counted))

    back-now : back l e ≡ ltb r.tick clock
    back-now =
        entered-back X.entered
        ∙ ap (λ (t : ℕ). ltb t clock) (sym enter_tick)

    pub enter_back :
        {out' : List ℕ} → r.tick < clock → out' ≡ sets W.out (8 * e) (report_bytes (refusal 17))
        → Entered p l out₀ (e + 1) clock (arrays W.jobs W.owners W.key W.left W.heads out') released last × (0 ≡ takes p l e)
    unfolding outcome
    enter_back h q =
        let b : back l e ≡ true = back-now ∙ lt-ltb _ _ h in
        (rw (add-one e, q) (back-entered X.entered X.less b), rw b)

    pub enter_ready : (x : Standing) × Ready x log cores offsets clock r.tick W
    enter_ready = (
      standing X.entered,
      rw X.cores_are
          (entered-ready X.entered refl X.long
          (λ i h. X.columns.offsets_are i (omega (arith, X.columns.tasks_are)))
          (omega (arith, X.less)) (omega (arith, enter_tick, X.entered.fitting.ticks e X.less))),
    )

    pub enter_handing :
        {W' : Arrays} → clock ≤ r.tick → Advanced log cores offsets clock r.tick W r.tick W'
        → Handing p l out₀ e r.tick r.task r.demand tasks separations budgets offsets W' released last
    unfolding enter_ready
    enter_handing {W'} h A =
        record {
          at =
              at_tick X.entered (back-now ∙ le-ltb _ _ h)
              (subst (λ t. Reaches (standing X.entered) (t - clock) W') enter_tick (A enter_ready.0 enter_ready.1));
          less = X.less;
          columns = X.columns;
          tick_is = enter_tick;
          task_is = enter-task;
          demand_is = enter-demand;
        }
