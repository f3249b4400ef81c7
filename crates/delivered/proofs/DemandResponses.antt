-- What a controller sees on an accepted table, in every state that it reaches from an opening by releases and steps.
--     demand-responses    each response that a step answers is at most its loop's bound
--     demand-room         no release is answered 23
use Rattle.std.specs.Prelude.{ℕ, ◌≤◌, ◌≡◌}
use Rattle.std.proofs.Math.Path.{subst}
use mathlib.Core.List.{List}
use Rattle.tasks.specs.Answer.{Accepted, Refused}
use Rattle.tasks.specs.TaskSet.{bound, row}
use Rattle.tasks.specs.Content.{Content}
use Rattle.codec.specs.Table.{content_in, verdict}
use Rattle.table.specs.Judged.{judged}
use Rattle.roundtrip.proofs.RoundTrip.{judged-fits}
use Rattle.state.specs.Calls.{release_of, step_of}
use Rattle.history.specs.Engine.{Call, state}
use Rattle.delivered.specs.Demand3.{run_on}
use Rattle.delivered.proofs.Demand3.{plan-passes}
use Rattle.delivered.proofs.Responses.{plan-responses, plan-room}

module _ (t : List ℕ) (a : verdict t ≡ Accepted) (h : List Call) where
  pub demand-responses : (i : ℕ) → row (step_of (state (run_on t) h)).responses i ≤ bound (content_in t).tasks (content_in t).slack i
  demand-responses i =
      subst (λ (c : Content). row (step_of (state (run_on t) h)).responses i ≤ bound c.tasks c.slack i) (judged-fits t a)
      (plan-responses (judged t).plan (plan-passes t a) h i)

  pub demand-room : (i c j : ℕ) → (release_of (state (run_on t) h) i c).answer ≡ Refused 23 j → ⊥
  demand-room = plan-room (judged t).plan (plan-passes t a) h
