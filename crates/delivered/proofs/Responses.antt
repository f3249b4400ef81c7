-- What a controller sees in every state that it reaches from an opening, by releases and steps in any order and however many, those that are
-- refused at the clock's end among them.
--     plan-responses      each response that a step answers is at most its loop's bound, on the engine opened on a plan
--     plan-room           no release is answered 23
use Rattle.std.specs.Prelude.{ℕ, suc, ◌≤◌, ◌<◌, Bool, ◌≡◌, ◌⊎◌}
use Rattle.std.proofs.Math.Bool.{true, false}
use Rattle.std.proofs.Math.Path.{refl, sym, ap, subst}
use Rattle.std.proofs.Common.{◌∙◌, arith}
use Rattle.std.proofs.Math.Logic.{inl, inr, ⊎_elim}
use mathlib.Core.List.{List, [], ◌∷◌}
use borrow.Author.Tests.{eq-eqb}
use Rattle.laws.specs.EveryLaws.{below_or_not}
use Rattle.laws.specs.TabLaws.{get_or-tab, get_or-tab-out, get_or_alike}
use Rattle.tasks.specs.declared.Plan.{Plan}
use Rattle.tasks.specs.Answer.{Accepted, Refused}
use Rattle.tasks.specs.Numbers.{clock_end}
use Rattle.tasks.specs.TaskSet.{bound, row}
use Rattle.tasks.specs.Content.{content_of}
use Rattle.tasks.specs.Tests.{number_of, first_met, test_plan}
use Rattle.machine.specs.Machine.{Machine, opened, responses, runs, tick, advanced}
use Rattle.machine.specs.Reached.{Reached}
use Rattle.machine.proofs.Choice.{earliest}
use Rattle.machine.proofs.Theorem.{bound_theorem}
use Rattle.state.specs.declared.State.{State}
use Rattle.state.specs.declared.Stepped.{Stepped}
use Rattle.state.specs.State.{state_of}
use Rattle.state.specs.SoundState.{sound_of}
use Rattle.state.specs.Calls.{step_tests, release_tests, release_of, ticked_of, not_stepped, step_of}
use Rattle.state.proofs.FitLaws.{plan-limits, plan-compliant}
use Rattle.history.specs.Engine.{outcome_of, Call, step, ask, clock, state, verdict as asked}
use Rattle.history.specs.OnMachine.{handed_of}
use Rattle.history.proofs.ClaimLaws.{history_room}
use Rattle.delivered.specs.Delivered.{engine_of}
use Rattle.delivered.proofs.DeliveredLaws.{Alike, stepped, steps, asks, opens}
use Rattle.delivered.proofs.PlanLaws.{plan_history}

-- ---- a state at the clock's end meets 18 or 19, and every call hands it back

module _ (u : State) (end : u.clock ≡ 4000000000) where
  ended : (step_tests u ≡ Refused 18 0) ⊎ (step_tests u ≡ Refused 19 0)
  unfolding step_tests first_met
  ended = go (sound_of u) refl
    where
      go : (b : Bool) → sound_of u ≡ b → (step_tests u ≡ Refused 18 0) ⊎ (step_tests u ≡ Refused 19 0)
      go true q = inr (rw (q, eq-eqb u.clock clock_end end))
      go false q = inl (rw q)

  end_steps : step_of u ≡ not_stepped (step_tests u) u
  unfolding step_of
  end_steps = ⊎_elim (λ (q : step_tests u ≡ Refused 18 0). rw q) (λ (q : step_tests u ≡ Refused 19 0). rw q) ended

  end_asks : (i c : ℕ) → ((release_of u i c).state ≡ u) × ((release_of u i c).answer ≡ step_tests u)
  unfolding release_of release_tests first_met
  end_asks i c = ⊎_elim (λ (q : step_tests u ≡ Refused 18 0). (rw q, rw q)) (λ (q : step_tests u ≡ Refused 19 0). (rw q, rw q)) ended

module _ (p : Plan) (a : test_plan p ≡ Accepted) where
  -- the state after calls with n steps among them: that of a machine that is reached, at clock n or at the clock's end
  record Held (n : ℕ) (u : State) : Type 0 where
    machine : Machine
    alike : Alike p a machine.clock u machine
    before : n < 4000000000 → machine.clock ≡ n
    after : 4000000000 ≤ n → machine.clock ≡ 4000000000

  at_end : {n : ℕ} {u : State} → Held n u → 4000000000 ≤ n → u.clock ≡ 4000000000
  unfolding state_of
  at_end H l = ap (λ (v : State). v.clock) H.alike.view ∙ H.after l

  held-step : {n : ℕ} {u : State} → Held n u → Held (suc n) (step_of u).state
  unfolding not_stepped tick advanced
  held-step {n} {u} H =
      ⊎_elim
      (λ (l : n < 4000000000).
      record {
        machine = tick (content_of p).tasks H.machine;
        alike = steps p a H.machine.clock u H.machine (omega (arith, H.before l)) H.alike;
        before = λ k. omega (arith, H.before l);
        after = λ k. omega (arith, H.before l);
      })
      (λ (l : 4000000000 ≤ n).
      subst (Held (suc n)) (sym (ap (λ (r : Stepped). r.state) (end_steps u (at_end H l))))
      (record { machine = H.machine; alike = H.alike; before = λ k. absurd (omega arith); after = λ k. H.after l }))
      (below_or_not n 4000000000)

  held-ask : {n : ℕ} {u : State} (i c : ℕ) → Held n u → Held n (release_of u i c).state
  held-ask {n} {u} i c H =
      ⊎_elim
      (λ (l : n < 4000000000).
      let A = asks p a H.machine.clock u H.machine (omega (arith, H.before l)) H.alike i c in
      record {
        machine = handed_of (content_of p).tasks H.machine i c;
        alike = record { view = A.view; reached = A.reached; clock = refl };
        before = λ k. A.clock ∙ H.before k;
        after = λ k. absurd (omega arith);
      })
      (λ (l : 4000000000 ≤ n). subst (Held n) (sym (end_asks u (at_end H l) i c).0) H)
      (below_or_not n 4000000000)

  held : (h : List Call) → Held (clock h) (state (engine_of p) h)
  unfolding opened
  held [] = record { machine = opened; alike = opens p a; before = λ k. refl; after = λ k. absurd (omega arith) }
  held (step ∷ h) = held-step (held h)
  held (ask i c ∷ h) = held-ask i c (held h)

  -- who runs is in the table, and who doesn't has no response
  ran : {M : Machine} → Reached (content_of p).tasks M → (i : ℕ)
      → responses (runs (content_of p).tasks M) M i ≤ bound (content_of p).tasks (content_of p).slack i
  unfolding responses
  ran {M} r i = go (runs (content_of p).tasks M i) refl
    where
      go : (b : Bool) → runs (content_of p).tasks M i ≡ b
          → responses (runs (content_of p).tasks M) M i ≤ bound (content_of p).tasks (content_of p).slack i
      go true e =
          (bound_theorem (content_of p).tasks (content_of p).slack (plan-limits p a) (plan-compliant p a) M r
          ).finished (runs (content_of p).tasks M) i ((earliest (content_of p).tasks M).heads i e).0
      go false e = rw e (omega arith)

  pub plan-responses : (h : List Call) (i : ℕ) → row (step_of (state (engine_of p) h)).responses i ≤ bound (content_of p).tasks (content_of p).slack i
  unfolding row ticked_of not_stepped
  plan-responses h i =
      ⊎_elim
      (λ (l : clock h < 4000000000).
      let H = held h in
      rw (stepped p a H.machine.clock (state (engine_of p) h) H.machine (omega (arith, H.before l)) H.alike)
      (⊎_elim
      (λ (k : i < 16). rw (get_or-tab (responses (runs (content_of p).tasks H.machine) H.machine) 16 i 0 k) (ran H.alike.reached i))
      (λ (k : 16 ≤ i). rw (get_or-tab-out (responses (runs (content_of p).tasks H.machine) H.machine) 16 i 0 k) (omega arith))
      (below_or_not i 16)))
      (λ (l : 4000000000 ≤ clock h).
      rw (end_steps (state (engine_of p) h) (at_end (held h) l), get_or_alike {A = ℕ} 16 i 0) (omega arith))
      (below_or_not (clock h) 4000000000)

  pub plan-room : (h : List Call) (i c j : ℕ) → (release_of (state (engine_of p) h) i c).answer ≡ Refused 23 j → ⊥
  unfolding asked
  plan-room h i c j e =
      ⊎_elim
      (λ (l : clock h < 4000000000).
      history_room (engine_of p) (content_of p).tasks (content_of p).slack 4000000000 (plan_history p a) h i c 23 l (ap outcome_of e) refl)
      (λ (l : 4000000000 ≤ clock h).
      let same = sym e ∙ (end_asks (state (engine_of p) h) (at_end (held h) l) i c).1 in
      ⊎_elim
      (λ (q : step_tests (state (engine_of p) h) ≡ Refused 18 0). let z : 23 ≡ 18 = ap number_of (same ∙ q) in omega arith)
      (λ (q : step_tests (state (engine_of p) h) ≡ Refused 19 0). let z : 23 ≡ 19 = ap number_of (same ∙ q) in omega arith)
      (ended (state (engine_of p) h) (at_end (held h) l)))
      (below_or_not (clock h) 4000000000)
