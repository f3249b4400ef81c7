-- What is claimed of the machine, of the delivered engine, which mirrors it as long as the clock is below 4,000,000,000.
--     plan-steps           no step below that clock is refused
--     plan_history         the claim of all histories, of the delivered engine
--     plan-demand          demand 3 of a log, of the delivered engine
--     plan_numbers         the numbers of the entries that it refuses
--     plan-ends            a log's run ends below that clock; plan-quiet: and then nothing is pending
--     plan-reports, plan-counts      what is written of the entries, and the two counts, are those of the machine
use Prim.Native.Nat.{ℕ, ◌≤◌, ◌<◌}
use Rattle.std.specs.Prelude.{◌≡◌}
use Rattle.std.proofs.Math.Bool.{true}
use Rattle.std.proofs.Common.{◌∙◌, arith}
use Rattle.std.proofs.Math.Path.{fun_ext}
use mathlib.Core.List.{List}
use Rattle.std.proofs.Math.ListN.{length}
use Rattle.tasks.specs.declared.Plan.{Plan}
use Rattle.tasks.specs.Answer.{Accepted}
use Rattle.tasks.specs.TaskSet.{TaskSet}
use Rattle.tasks.specs.Content.{content_of}
use Rattle.tasks.specs.Tests.{test_plan}
use Rattle.state.specs.Calls.{step_of}
use Rattle.state.proofs.FitLaws.{plan-limits, plan-compliant, plan-bounded}
use Rattle.history.specs.Engine.{Call, clock, state, HistoryClaim}
use Rattle.history.specs.Log.{Entry, tick_at, outcome, whole, Claim}
use Rattle.history.specs.Report.{met, report, taken_count, refused_count}
use Rattle.history.specs.OnMachine.{machine_engine}
use Rattle.history.proofs.Life.{machine_history}
use Rattle.history.proofs.Drain.{whole-quiet}
use Rattle.history.proofs.Mirror.{like, same-quiet, mirror_history}
use Rattle.history.proofs.MirrorLog.{same_whole, same-report, same-counts}
use Rattle.history.proofs.LogClock.{whole-clock, mirror_demand, mirror_numbers}
use Rattle.delivered.specs.Delivered.{nothing_pending, engine_of}
use Rattle.delivered.proofs.DeliveredLaws.{step-taken, mirrored}

module _ (p : Plan) (a : test_plan p ≡ Accepted) where
  abbrev s : TaskSet
  s = (content_of p).tasks

  pub plan-steps : (h : List Call) → clock h < 4000000000 → (step_of (state (engine_of p) h)).answer ≡ Accepted
  unfolding mirrored
  plan-steps h low =
      step-taken p a (clock h) (state (engine_of p) h) (state (machine_engine s) h) low (like (engine_of p) (machine_engine s) 4000000000 (mirrored p a) h low)

  pub plan_history : HistoryClaim (engine_of p) s (content_of p).slack 4000000000
  plan_history =
      mirror_history (engine_of p) (machine_engine s) 4000000000 (mirrored p a) s (content_of p).slack
      (machine_history s (content_of p).slack (plan-limits p a) (plan-compliant p a) (plan-bounded p a) 4000000000)

  module _ (l : List Entry) (ticks : (e : ℕ) → e < length l → tick_at l e ≤ 1000000000) where
    pub plan-demand : Claim (engine_of p) s (content_of p).slack l
    plan-demand =
        mirror_demand s (content_of p).slack (plan-limits p a) (plan-compliant p a) (plan-bounded p a) l
        1000000000 ticks (engine_of p) 4000000000 (mirrored p a) (omega arith)

    pub plan_numbers : (e : ℕ) → outcome (engine_of p) l e ≡ met (engine_of p) s l e
    plan_numbers =
        mirror_numbers s (content_of p).slack (plan-limits p a) (plan-compliant p a) (plan-bounded p a) l
        1000000000 ticks (engine_of p) 4000000000 (mirrored p a) (omega arith)

    run_ends : clock (whole (machine_engine s) l) < 4000000000
    run_ends =
        omega (
          arith,
          whole-clock s (content_of p).slack (plan-limits p a) (plan-compliant p a) (plan-bounded p a) l 1000000000 ticks,
        )

    same-calls : whole (engine_of p) l ≡ whole (machine_engine s) l
    same-calls = same_whole (engine_of p) (machine_engine s) 4000000000 (mirrored p a) l run_ends

    pub plan-ends : clock (whole (engine_of p) l) < 4000000000
    plan-ends = rw same-calls run_ends

    pub plan-quiet : nothing_pending (state (engine_of p) (whole (engine_of p) l)) ≡ true
    plan-quiet =
        same-quiet (engine_of p) (machine_engine s) 4000000000 (mirrored p a) (whole (engine_of p) l) plan-ends
        ∙ rw same-calls (whole-quiet s l (omega (arith, (plan-limits p a).cores-low)))

    pub plan-reports : report (engine_of p) l ≡ report (machine_engine s) l
    plan-reports = fun_ext (same-report (engine_of p) (machine_engine s) 4000000000 (mirrored p a) l run_ends)

    pub plan-counts :
        (taken_count (engine_of p) l ≡ taken_count (machine_engine s) l) × (refused_count (engine_of p) l ≡ refused_count (machine_engine s) l)
    plan-counts = same-counts (engine_of p) (machine_engine s) 4000000000 (mirrored p a) l run_ends
