-- The C calls' answers and the words that they leave behind, from what their code has seen.
--     open_refused, open_done                           an opening
--     release_misfit, release-refused, release_done     a release
--     step_misfit, step-refused, step-early, step_kept, step_done     a step, with the two other arrays that are lent to it
--     open_cores, open_tasks, open_jobs                 what fits in a word of an opened state
use Rattle.std.specs.Prelude.{ℕ, ◌≤◌, ◌<◌, true, false, ◌≡◌, List, length}
use Rattle.std.proofs.Math.Path.{sym, ap}
use Rattle.std.proofs.Common.{◌∙◌}
use Rattle.std.proofs.Math.Seq.{sets}
use Rattle.tasks.specs.Answer.{Answer, Accepted, Refused}
use Rattle.tasks.specs.TaskSet.{row}
use Rattle.tasks.specs.Content.{tidy, plan_of, content_of}
use Rattle.tasks.specs.Tests.{test_plan}
use Rattle.table.specs.declared.Judgement.{Judgement}
use Rattle.table.specs.Judged.{judged}
use Rattle.roundtrip.proofs.RoundTrip.{judged-passes}
use Rattle.state.specs.declared.State.{State}
use Rattle.state.specs.declared.Opened.{Opened}
use Rattle.state.specs.declared.Released.{Released}
use Rattle.state.specs.declared.Stepped.{Stepped}
use Rattle.state.specs.State.{state_of}
use Rattle.state.specs.Calls.{open_of, release_of, step_tests, step_of}
use Rattle.state.proofs.CallLaws.{open_limits, step-passed}
use Rattle.state.proofs.KeptLaws.{open_state}
use Rattle.state.proofs.SoundKept.{open_sound}
use Rattle.dahomike_answer.specs.Number.{answer_number}
use Rattle.engine_words.specs.Words.{words_of, machine_words, fits, fields_in, said}
use Rattle.engine_words.proofs.WordsLaws.{said-whole}
use Rattle.engine_lent.specs.Lent.{open_number, open_leaves, release_number, release_leaves, step_number, step_leaves, runs_leave, responses_leave}
use Rattle.engine_lent.specs.LentLaws.{misfit_step, misfit_release, fit-said, sound-jobs, step-answer, step-plan, release-plan, step-jobs, release-jobs, over-said}

-- ---- an opening

module _ (t : List ℕ) (j : Judgement) (e : j ≡ judged t) (ws : List ℕ) where
  pub open_refused : (k i r : ℕ) → j.answer ≡ Refused k i → r ≡ answer_number j.answer 0 → (r ≡ open_number t) × (ws ≡ open_leaves t ws)
  unfolding open_number open_leaves
  open_refused k i r a q =
      let b : (judged t).answer ≡ Refused k i = sym (ap (λ (d : Judgement). d.answer) e) ∙ a in
      (q ∙ ap (λ (d : Judgement). answer_number d.answer 0) e, rw b)

  module _ (a : j.answer ≡ Accepted) where
    accepted : (judged t).answer ≡ Accepted
    accepted = sym (ap (λ (d : Judgement). d.answer) e) ∙ a

    passes : test_plan (judged t).plan ≡ Accepted
    unfolding judged
    passes = judged-passes t accepted

    module _ (o : Opened) (q : o ≡ open_of j.plan) where
      same : o.state ≡ (open_of (judged t).plan).state
      same = ap (λ (d : Opened). d.state) q ∙ ap (λ (d : Judgement). (open_of d.plan).state) e

      plan_is : o.state.plan ≡ tidy (judged t).plan
      unfolding state_of
      plan_is = ap (λ (s : State). s.plan) (same ∙ ap (λ (d : Opened). d.state) (open_state (judged t).plan passes))

      pub open_cores : o.state.plan.cores ≤ 8
      unfolding tidy plan_of content_of
      open_cores = rw plan_is (open_limits (judged t).plan passes).0

      pub open_tasks : o.state.plan.tasks ≤ 16
      unfolding tidy plan_of content_of
      open_tasks = rw plan_is (open_limits (judged t).plan passes).2

      pub open_jobs : (i : ℕ) → i < 16 → row o.state.jobs i ≤ 16
      open_jobs = rw same (sound-jobs (open_of (judged t).plan).state (open_sound (judged t).plan passes))

      pub open_done : (new : List ℕ) → new ≡ words_of o.state → (◌≡◌ {A = ℕ} 0 (open_number t)) × (new ≡ open_leaves t ws)
      unfolding open_number open_leaves answer_number
      open_done new w = (rw accepted, rw accepted (w ∙ ap words_of same))

-- ---- a release

module _ (ws : List ℕ) (i c : ℕ) where
  refused-left : (k j r : ℕ) → (release_of (said ws) i c).answer ≡ Refused k j → r ≡ answer_number (Refused k j) 0
      → (r ≡ release_number ws i c) × (ws ≡ release_leaves ws i c)
  unfolding release_number release_leaves
  refused-left k j r a q = (rw a q, rw a)

  pub release_misfit : (r : ℕ) → fits ws ≡ false → r ≡ answer_number (Refused 18 0) 0 → (r ≡ release_number ws i c) × (ws ≡ release_leaves ws i c)
  release_misfit r f q = refused-left 18 0 r (misfit_release ws f i c) q

  module _ (f : fits ws ≡ true) (s : State) (e : s ≡ fields_in ws) (d : Released) (o : d ≡ release_of s i c) where
    said-done : d ≡ release_of (said ws) i c
    said-done = o ∙ ap (λ (u : State). release_of u i c) (e ∙ sym (fit-said ws f))

    pub release-refused : (k j r : ℕ) → d.answer ≡ Refused k j → r ≡ answer_number d.answer 0 → (r ≡ release_number ws i c) × (ws ≡ release_leaves ws i c)
    release-refused k j r a q =
        refused-left k j r (sym (ap (λ (u : Released). u.answer) said-done) ∙ a) (q ∙ ap (λ (b : Answer). answer_number b 0) a)

    module _ (a : d.answer ≡ Accepted) where
      taken : (release_of (said ws) i c).answer ≡ Accepted
      taken = sym (ap (λ (u : Released). u.answer) said-done) ∙ a

      pub release-kept : (k : ℕ) → k < 16 → row d.state.jobs k ≤ 16
      release-kept = rw said-done (release-jobs (said ws) i c (said-whole ws).shaped taken)

      pub release_done :
          length ws ≡ 653 → (new : List ℕ) → new ≡ sets ws 92 (machine_words d.state) → (◌≡◌ {A = ℕ} 0 (release_number ws i c)) × (new ≡ release_leaves ws i c)
      unfolding release_number release_leaves answer_number
      release_done l new w =
          let after = (release_of (said ws) i c).state in
          (rw taken, rw taken (w ∙ ap (λ (u : Released). sets ws 92 (machine_words u.state)) said-done ∙ over-said ws f l after (sym (release-plan (said ws) i c))))

-- ---- a step

module _ (ws runs responses : List ℕ) where
  -- what a step leaves, all together
  abbrev pub StepLeft : ℕ → List ℕ → List ℕ → List ℕ → Type 0
  StepLeft r new ran times =
      (r ≡ step_number ws) × (new ≡ step_leaves ws) × (ran ≡ runs_leave ws runs) × (times ≡ responses_leave ws responses)

  not_stepped_lem : (k j r : ℕ) → (step_of (said ws)).answer ≡ Refused k j → r ≡ answer_number (Refused k j) 0 → StepLeft r ws runs responses
  unfolding step_number step_leaves runs_leave responses_leave
  not_stepped_lem k j r a q = (rw a q, rw a, rw a, rw a)

  pub step_misfit : (r : ℕ) → fits ws ≡ false → r ≡ answer_number (Refused 18 0) 0 → StepLeft r ws runs responses
  step_misfit r f q = not_stepped_lem 18 0 r (misfit_step ws f) q

  module _ (f : fits ws ≡ true) (s : State) (e : s ≡ fields_in ws) (a : Answer) (q : a ≡ step_tests s) where
    said_same : s ≡ said ws
    said_same = e ∙ sym (fit-said ws f)

    answered : (step_of (said ws)).answer ≡ a
    answered = step-answer (said ws) ∙ ap step_tests (sym said_same) ∙ sym q

    pub step-refused : (k j r : ℕ) → a ≡ Refused k j → r ≡ answer_number a 0 → StepLeft r ws runs responses
    step-refused k j r b n = not_stepped_lem k j r (answered ∙ b) (n ∙ ap (λ (x : Answer). answer_number x 0) b)

    module _ (b : a ≡ Accepted) where
      pub step-early : s.clock < 4000000000
      step-early = (step-passed s (sym q ∙ b)).1

      module _ (d : Stepped) (o : d ≡ step_of s) where
        said-stepped : d ≡ step_of (said ws)
        said-stepped = o ∙ ap step_of said_same

        pub step_kept : (k : ℕ) → k < 16 → row d.state.jobs k ≤ 16
        step_kept = rw said-stepped (step-jobs (said ws) (said-whole ws).shaped (answered ∙ b))

        pub step_done :
            length ws ≡ 653 → (new : List ℕ) → new ≡ sets ws 92 (machine_words d.state) → StepLeft 0 new d.runs d.responses
        unfolding step_number step_leaves runs_leave responses_leave answer_number
        step_done l new w =
            let stepped = answered ∙ b in (
              rw stepped,
              rw stepped
                  (w ∙ ap (λ (u : Stepped). sets ws 92 (machine_words u.state)) said-stepped ∙ over-said ws f l (step_of (said ws)).state (sym (step-plan (said ws)))),
              rw stepped (ap (λ (u : Stepped). u.runs) said-stepped),
              rw stepped (ap (λ (u : Stepped). u.responses) said-stepped),
            )
