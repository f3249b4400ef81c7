-- The delivered engine mirrors the abstract machine as long as the clock is below 4,000,000,000, so what is claimed of the machine holds of it.
--     same_answer          the first of 20 to 23 that a release meets, in both forms
--     Alike                a state is that of a machine that is reached; opens, steps, asks: the calls keep this; stepped: what a step answers
--     mirrored             the delivered engine mirrors the machine
use Prim.Native.Nat.{ℕ, suc, ◌≤◌, ◌<◌}
use Rattle.std.specs.Prelude.{Ok, Err, Bool, ◌&&◌, ◌≡◌, ltb}
use Rattle.std.proofs.Math.Bool.{true, false, not}
use Rattle.std.proofs.Common.{true≢false, ◌∙◌, arith}
use Rattle.std.proofs.Math.Path.{refl, sym, ap}
use mathlib.Core.List.{List, [], ◌∷◌}
use Rattle.std.proofs.Math.ListN.{length}
use Rattle.std.proofs.Math.Dec.{eqb}
use borrow.Author.Tests.{ltb-true, ltb-false, eqb-true, eqb-false, eq-eqb}
use Rattle.laws.specs.Tab.{tab}
use Rattle.laws.specs.Member.{member}
use Rattle.tasks.specs.declared.Plan.{Plan}
use Rattle.tasks.specs.Answer.{Answer, Accepted}
use Rattle.tasks.specs.TaskSet.{TaskSet, row}
use Rattle.tasks.specs.Content.{content_of, tidy}
use Rattle.tasks.proofs.ContentLaws.{content-tidy, tidy-tidy}
use Rattle.tasks.specs.Tests.{test_plan, unless_refused}
use Rattle.machine.specs.Machine.{Job, Lane, Machine, opened, admitted, pending, waiting, idle, on_core, runs, advanced, tick}
use Rattle.machine.specs.Admission.{admit_tests}
use Rattle.machine.specs.Reached.{Reached, opening, release}
use Rattle.machine.proofs.Choice.{earliest}
use Rattle.machine.proofs.ReachedLaws.{reached-tick}
use Rattle.machine.proofs.Sound.{reached-sound}
use Rattle.state.specs.declared.State.{State}
use Rattle.state.specs.State.{jobs_in, state_of}
use Rattle.state.specs.SoundState.{all_of}
use Rattle.state.specs.Calls.{open_of, release_of, ticked_of, step_of}
use Rattle.state.specs.Fit.{Fit}
use Rattle.state.proofs.FitLaws.{plan-limits, in_count}
use Rattle.state.proofs.TidyLaws.{tidy-accepted}
use Rattle.state.proofs.KeptLaws.{step-state, release-state, reached-fit, open_state}
use Rattle.state.proofs.TakenLaws.{named-runs}
use Rattle.state.proofs.AllLaws.{all-at, of-all}
use Rattle.state.proofs.ViewLaws.{row-jobs}
use Rattle.history.specs.Engine.{taken, refused, outcome_of}
use Rattle.history.specs.OnMachine.{answer_of, handed_of, quiet_of, machine_engine}
use Rattle.history.proofs.Balance.{answer_allowed}
use Rattle.history.proofs.Drain.{quiet-idle, idle-quiet}
use Rattle.history.specs.Mirror.{Mirrors}
use Rattle.delivered.specs.Delivered.{names_as_running, nothing_pending, engine_of}

pub same_answer : (s : TaskSet) (M : Machine) (i c : ℕ) → outcome_of (admit_tests s M i c) ≡ answer_of s M i c
unfolding answer_of
same_answer s M i c = refl

module _ (p : Plan) (a : test_plan p ≡ Accepted) where
  abbrev pub s : TaskSet
  s = (content_of p).tasks

  few-cores : p.cores ≤ 8
  unfolding content_of
  few-cores = (plan-limits p a).cores-high

  few-tasks : p.tasks ≤ 16
  unfolding content_of
  few-tasks = (plan-limits p a).tasks-high

  same-tasks : (content_of (tidy p)).tasks ≡ s
  same-tasks = ap (λ c. c.tasks) (content-tidy p few-cores few-tasks)

  -- a state of the engine is that of a machine that is reached, at this clock
  pub record Alike (t : ℕ) (u : State) (M : Machine) : Type 0 where
    pub view : u ≡ state_of (tidy p) M
    pub reached : Reached s M
    pub clock : M.clock ≡ t

  module _ (t : ℕ) (u : State) (M : Machine) (low : t < 4000000000) (A : Alike t u M) where
    fits : Fit (tidy p) M
    fits =
        reached-fit (tidy p) (tidy-accepted p few-cores few-tasks a) (tidy-tidy p few-cores few-tasks) M
        (rw same-tasks A.reached) (omega (arith, A.clock))

    early : M.clock < 4000000000
    early = omega (arith, A.clock)

    pub stepped : step_of u ≡ ticked_of (tidy p) s M
    stepped = rw (A.view, step-state (tidy p) M fits early, same-tasks)

    released :
        (i c : ℕ)
        → release_of u i c
        ≡ record { answer = admit_tests s M i c; state = unless_refused (admit_tests s M i c) (state_of (tidy p) (admitted i c M)) (state_of (tidy p) M) }
    released i c = rw (A.view, release-state (tidy p) M fits i c early, same-tasks)

    pub step-taken : (step_of u).answer ≡ Accepted
    unfolding ticked_of
    step-taken = ap (λ r. r.answer) stepped

    pub steps : Alike (suc t) (step_of u).state (tick s M)
    unfolding ticked_of tick advanced
    steps =
        record {
          view = ap (λ r. r.state) stepped;
          reached = reached-tick s M A.reached;
          clock = ap suc A.clock;
        }

    pub asks : (i c : ℕ) → Alike t (release_of u i c).state (handed_of s M i c)
    unfolding admitted handed_of
    asks i c =
        rw (released i c)
        (go (admit_tests s M i c) refl)
      where
        go : (b : Answer) → admit_tests s M i c ≡ b → Alike t (unless_refused b (state_of (tidy p) (admitted i c M)) (state_of (tidy p) M)) (handed_of s M i c)
        go (Ok tt) q =
            let e : answer_of s M i c ≡ taken = sym (same_answer s M i c) ∙ ap outcome_of q in
            rw e
            (record { view = refl; reached = release i c (answer_allowed s M i c e).0 A.reached; clock = A.clock })
        go (Err r) q =
            let e : answer_of s M i c ≡ refused r.number = sym (same_answer s M i c) ∙ ap outcome_of q in
            rw e (record { view = refl; reached = A.reached; clock = A.clock })

    pub answers : (i c : ℕ) → outcome_of (release_of u i c).answer ≡ answer_of s M i c
    answers i c = rw (released i c) (same_answer s M i c)

    pub names : (i : ℕ) → names_as_running u i ≡ runs s M i
    unfolding names_as_running ticked_of
    names i = rw stepped (go (eqb i idle) refl (runs s M i) refl)
      where
        go : (b : Bool) → eqb i idle ≡ b → (r : Bool) → runs s M i ≡ r → not b && member i (tab (on_core s M) 8) ≡ runs s M i
        go true e true q = absurd (omega (arith, eqb-true i idle e, ((earliest s M).heads i q).0, few-tasks, in_count p))
        go true e false q = sym q
        go false e r q = named-runs s M few i (eqb-false i idle e)
          where
            few : s.cores ≤ 8
            few = (plan-limits p a).cores-high

    pub quiets : nothing_pending u ≡ quiet_of s M
    unfolding nothing_pending state_of waiting opened
    quiets = rw A.view (go (all_of (λ i. eqb (row (jobs_in M) i) 0) 16) refl (quiet_of s M) refl)
      where
        empty : (q : List Job) → length q ≡ 0 → pending q ≡ false
        empty [] e = refl
        empty (j ∷ q) e = absurd (omega arith)

        none : (q : List Job) → pending q ≡ false → length q ≡ 0
        none [] e = refl
        none (j ∷ q) e = absurd (true≢false e)

        idle-all : all_of (λ i. eqb (row (jobs_in M) i) 0) 16 ≡ true → quiet_of s M ≡ true
        idle-all e =
            idle-quiet s M
            (λ i h.
            let l : i < 16 = omega (arith, few-tasks, in_count p) in
            empty (M.lane i).queue (sym (row-jobs M i l) ∙ eqb-true _ 0 (all-at (λ k. eqb (row (jobs_in M) k) 0) 16 i e l)))

        all-idle : quiet_of s M ≡ true → all_of (λ i. eqb (row (jobs_in M) i) 0) 16 ≡ true
        all-idle e = of-all (λ k. eqb (row (jobs_in M) k) 0) 16 (λ i h. eq-eqb _ 0 (row-jobs M i h ∙ at i (ltb i s.count) refl))
          where
            at : (i : ℕ) (b : Bool) → ltb i s.count ≡ b → length (M.lane i).queue ≡ 0
            at i true q = none (M.lane i).queue (quiet-idle s M e i (ltb-true i s.count q))
            at i false q =
                ap (λ (l : Lane). length l.queue) ((reached-sound s A.reached).unused i (ltb-false i s.count q))

        go : (b : Bool) → all_of (λ i. eqb (row (jobs_in M) i) 0) 16 ≡ b → (c : Bool) → quiet_of s M ≡ c → all_of (λ i. eqb (row (jobs_in M) i) 0) 16 ≡ quiet_of s M
        go true e c q = e ∙ sym (idle-all e)
        go false e true q = absurd (true≢false (sym (all-idle q) ∙ e))
        go false e false q = e ∙ sym q

  pub opens : Alike 0 (open_of p).state opened
  unfolding opened
  opens = record { view = ap (λ r. r.state) (open_state p a); reached = opening; clock = refl }

  unfoldable pub mirrored : Mirrors (engine_of p) (machine_engine s) 4000000000
  mirrored =
      record {
        Like = Alike;
        opening = opens;
        steps = steps;
        asks = λ t u M i c low A. asks t u M low A i c;
        runs = λ t u M i low A. names t u M low A i;
        answers = λ t u M i c low A. answers t u M low A i c;
        quiets = quiets;
      }
