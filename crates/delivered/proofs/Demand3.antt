-- Demand 3, whole: of every accepted table's bytes and every log's bytes past 14 and 15. What a reader must believe is in Delivered.antt, in the files
-- Engine, Log and Report of history/specs, in logs/specs/LogBytes.antt, and in the definitions that the contracts of `open`, `release` and `step` equal.
--     plan-passes       an accepted table's plan meets none of 1, 3 to 13 and 28; log-early: no tick of a log past 15 is too late
--     demand_3          the theorem: the three claims of every entry, one record over the whole log
--     demand-ends       the run ends below the clock's end
--     demand-quiet      after it nothing is pending; demand-steps: no step of it is refused
--     demand-reports    what is written of each entry
--     demand_machine    it is what the abstract machine's run says
--     demand_numbers    a refused entry's number is the first of 17, 20, 21 and 22 that it meets; never_23: it is never 23
--     demand_histories  the claim of every history of calls, whoever makes them, below the clock's end
use Rattle.std.specs.Prelude.{ℕ, ◌≤◌, ◌<◌, true, ◌≡◌, List, ◌∷◌, ◌++◌, length}
use Rattle.std.proofs.Common.{sym, ap, subst, ◌∙◌, arith}
use Rattle.tasks.specs.Answer.{Accepted}
use Rattle.tasks.specs.Content.{Content}
use Rattle.tasks.specs.Tests.{test_plan}
use Rattle.codec.specs.Table.{content_in, verdict}
use Rattle.table.specs.Judged.{judged}
use Rattle.roundtrip.proofs.RoundTrip.{judged-fits, judged-passes}
use Rattle.logs.specs.LogBytes.{entry_count, entries_in, log_test}
use Rattle.logs.specs.LogLaws.{entries-length, entry_at, log-ticks}
use Rattle.state.specs.Calls.{step_of}
use Rattle.history.specs.Engine.{refused, Call, step, clock, state, HistoryClaim}
use Rattle.history.proofs.EngineLaws.{clock-later}
use Rattle.history.specs.Log.{Entry, tick_at, outcome, whole, Claim}
use Rattle.history.specs.Report.{met, report}
use Rattle.history.proofs.Report.{report-finished, finished-report, report-refused, refused-report}
use Rattle.history.specs.OnMachine.{machine_engine}
use Rattle.history.proofs.Refusals.{met_not_23}
use Rattle.delivered.specs.Delivered.{nothing_pending}
use Rattle.delivered.proofs.PlanLaws.{plan-steps, plan_history, plan-demand, plan_numbers, plan-ends, plan-quiet, plan-reports}
use Rattle.delivered.specs.Demand3.{run_on, Reports}

pub log-early : (l : List ℕ) → log_test l ≡ Accepted → (e : ℕ) → e < length (entries_in l) → tick_at (entries_in l) e ≤ 1000000000
log-early l b e h =
    let less : e < entry_count l = subst (λ n. e < n) (entries-length l) h in
    subst (λ (x : Entry). x.tick ≤ 1000000000) (sym (entry_at l e less)) (log-ticks l b e less)

module _ (t : List ℕ) (a : verdict t ≡ Accepted) where
  pub plan-passes : test_plan (judged t).plan ≡ Accepted
  plan-passes = judged-passes t a

  pub demand_histories : HistoryClaim (run_on t) (content_in t).tasks (content_in t).slack 4000000000
  demand_histories =
      subst (λ (c : Content). HistoryClaim (run_on t) c.tasks c.slack 4000000000) (judged-fits t a)
      (plan_history (judged t).plan plan-passes)

  module _ (l : List ℕ) (b : log_test l ≡ Accepted) where
    pub demand_3 : Claim (run_on t) (content_in t).tasks (content_in t).slack (entries_in l)
    demand_3 =
        subst (λ (c : Content). Claim (run_on t) c.tasks c.slack (entries_in l)) (judged-fits t a)
        (plan-demand (judged t).plan plan-passes (entries_in l) (log-early l b))

    pub demand-ends : clock (whole (run_on t) (entries_in l)) < 4000000000
    demand-ends = plan-ends (judged t).plan plan-passes (entries_in l) (log-early l b)

    -- "After the last entry it steps until nothing is pending."
    pub demand-quiet : nothing_pending (state (run_on t) (whole (run_on t) (entries_in l))) ≡ true
    demand-quiet = plan-quiet (judged t).plan plan-passes (entries_in l) (log-early l b)

    -- of a step of the run, with the calls h before it and g after it
    pub demand-steps :
        (g h : List Call) → whole (run_on t) (entries_in l) ≡ g ++ step ∷ h → (step_of (state (run_on t) h)).answer ≡ Accepted
    demand-steps g h e =
        plan-steps (judged t).plan plan-passes h (omega (arith, clock-later g (step ∷ h), ap clock e, demand-ends))

    -- what is written of the entries is what a run of the abstract machine of that table says
    pub demand_machine : report (run_on t) (entries_in l) ≡ report (machine_engine (content_in t).tasks) (entries_in l)
    demand_machine =
        subst (λ (c : Content). report (run_on t) (entries_in l) ≡ report (machine_engine c.tasks) (entries_in l)) (judged-fits t a)
        (plan-reports (judged t).plan plan-passes (entries_in l) (log-early l b))

    pub demand_numbers : (e : ℕ) → outcome (run_on t) (entries_in l) e ≡ met (run_on t) (content_in t).tasks (entries_in l) e
    demand_numbers e =
        subst (λ (c : Content). outcome (run_on t) (entries_in l) e ≡ met (run_on t) c.tasks (entries_in l) e) (judged-fits t a)
        (plan_numbers (judged t).plan plan-passes (entries_in l) (log-early l b) e)

    pub never_23 : (e : ℕ) → outcome (run_on t) (entries_in l) e ≡ refused 23 → ⊥
    never_23 e m = met_not_23 (run_on t) (content_in t).tasks (entries_in l) e (sym (demand_numbers e) ∙ m)

    pub demand-reports : Reports (run_on t) (entries_in l)
    demand-reports =
        record {
          kind_1 = λ e f h. (
            finished-report (run_on t) (entries_in l) (content_in t).tasks (content_in t).slack demand_3 e f h,
            report-finished (run_on t) (entries_in l) e f,
          );
          kind_2 = λ e k h. (refused-report (run_on t) (entries_in l) e k, report-refused (run_on t) (entries_in l) e k);
        }
