-- Laws of the C calls on lent words.
--     fit-said                                  words that fit say their fields
--     fields_from                               the fields read from words, as a state
--     misfit_tests, misfit_step, misfit_release     words that do not fit meet 18
--     sound-jobs                                no loop of a sound state holds more than 16 jobs
--     step-answer                               a step's answer is that of its tests
--     step-plan, release-plan                   a step and a release leave the plan as it is
--     step-jobs, release-jobs                   and leave no loop with more than 16 jobs
--     over-said                                 the words behind the plan's, stored over the lent ones
use Rattle.std.specs.Prelude.{Ok, Err, ℕ, ◌+◌, ◌≤◌, ◌<◌, Bool, true, false, ◌&&◌, ◌≡◌, List, length, leb, eqb}
use Rattle.std.proofs.Math.Path.{refl}
use Rattle.std.proofs.Common.{sym, ap, ◌∙◌, leb-true}
use Rattle.std.proofs.lemmas.List.Edits.{sets}
use Rattle.laws.specs.Tab.{tab}
use Rattle.laws.specs.EveryLaws.{both}
use Rattle.tasks.specs.declared.Plan.{Plan}
use Rattle.tasks.specs.Answer.{Answer, Accepted, Refused}
use Rattle.tasks.specs.TaskSet.{row}
use Rattle.tasks.specs.Tests.{first_met, test_plan}
use Rattle.tasks.specs.AnswerLaws.{first_met-passed}
use Rattle.state.specs.declared.State.{State}
use Rattle.state.specs.State.{state_of}
use Rattle.state.specs.Parts.{state_from}
use Rattle.state.specs.SoundState.{all_of, passes, tidy_test, loop_test, loop_sound, place_sound, sound_of}
use Rattle.state.specs.Calls.{release_of, release_tests, step_of, step_tests, ticked_of, not_stepped}
use Rattle.state.proofs.AllLaws.{all-at}
use Rattle.state.proofs.CallLaws.{step-passed}
use Rattle.state.specs.Fit.{Shaped}
use Rattle.state.proofs.SoundKept.{release-sound, step-sound}
use Rattle.engine_words.specs.Words.{words_of, machine_words, part, fits, plan_in, fields_in, said}
use Rattle.engine_words.proofs.WordsLaws.{words-said, misfit_unsound}
use Rattle.engine_words.proofs.StoredLaws.{machine_over}

pub fit-said : (ws : List ℕ) → fits ws ≡ true → said ws ≡ fields_in ws
unfolding said
fit-said ws f = rw f

-- the state of the fields that were read from words
pub fields_from :
    (ws : List ℕ) {p : Plan} {jobs : List ℕ} {released : List Bool} {last remaining release : List ℕ}
    → p ≡ plan_in ws → jobs ≡ part ws 93 16 → released ≡ tab (λ i. eqb (row ws (109 + i)) 1) 16 → last ≡ part ws 125 16
    → remaining ≡ part ws 141 256 → release ≡ part ws 397 256 → state_from p (row ws 92) jobs released last remaining release ≡ fields_in ws
unfolding fields_in
fields_from ws a b c d e f = rw (a, b, c, d, e, f)

module _ (ws : List ℕ) (f : fits ws ≡ false) where
  pub misfit_tests : step_tests (said ws) ≡ Refused 18 0
  unfolding step_tests first_met
  misfit_tests = rw (misfit_unsound ws f)

  pub misfit_step : (step_of (said ws)).answer ≡ Refused 18 0
  unfolding step_of not_stepped
  misfit_step = rw misfit_tests

  pub misfit_release : (i c : ℕ) → (release_of (said ws) i c).answer ≡ Refused 18 0
  unfolding release_of release_tests first_met
  misfit_release i c = rw misfit_tests

-- ---- what a call that isn't refused hands back

pub sound-jobs : (s : State) → sound_of s ≡ true → (i : ℕ) → i < 16 → row s.jobs i ≤ 16
unfolding sound_of loop_sound loop_test
sound-jobs s e i h =
    let loops = all_of (loop_sound s) 16 in
    let rest = leb s.clock 4000000000 && (loops && all_of (place_sound s) 256) in
    let a = both (passes (test_plan s.plan)) (tidy_test s.plan && rest) e in
    let b = both (tidy_test s.plan) rest a.1 in
    let c = both (leb s.clock 4000000000) (loops && all_of (place_sound s) 256) b.1 in
    let d = both loops (all_of (place_sound s) 256) c.1 in
    leb-true (row s.jobs i) 16 (both (leb (row s.jobs i) 16) _ (all-at (loop_sound s) 16 i d.0 h)).0

module _ (s : State) where
  pub step-answer : (step_of s).answer ≡ step_tests s
  unfolding step_of ticked_of not_stepped
  step-answer = go (step_tests s) refl
    where
      go : (a : Answer) → step_tests s ≡ a → (step_of s).answer ≡ step_tests s
      go (Ok tt) q = rw q
      go (Err r) q = rw q

  pub step-plan : (step_of s).state.plan ≡ s.plan
  unfolding step_of ticked_of not_stepped state_of
  step-plan = go (step_tests s) refl
    where
      go : (a : Answer) → step_tests s ≡ a → (step_of s).state.plan ≡ s.plan
      go (Ok tt) q = rw q
      go (Err r) q = rw q

  pub release-plan : (i c : ℕ) → (release_of s i c).state.plan ≡ s.plan
  unfolding release_of state_of
  release-plan i c = go (release_tests s i c) refl
    where
      go : (a : Answer) → release_tests s i c ≡ a → (release_of s i c).state.plan ≡ s.plan
      go (Ok tt) q = rw q
      go (Err r) q = rw q

  pub step-jobs : Shaped s → (step_of s).answer ≡ Accepted → (i : ℕ) → i < 16 → row (step_of s).state.jobs i ≤ 16
  step-jobs S a = sound-jobs (step_of s).state (step-sound s S (step-passed s (sym step-answer ∙ a)).0)

  pub release-jobs : (i c : ℕ) → Shaped s → (release_of s i c).answer ≡ Accepted → (j : ℕ) → j < 16 → row (release_of s i c).state.jobs j ≤ 16
  unfolding release_of release_tests
  release-jobs i c S a = sound-jobs (release_of s i c).state (release-sound s S (step-passed s (first_met-passed _ _ a).0).0 i c)

-- the words behind the plan's, stored over lent ones
pub over-said : (ws : List ℕ) → fits ws ≡ true → length ws ≡ 653 → (t : State) → (said ws).plan ≡ t.plan → sets ws 92 (machine_words t) ≡ words_of t
over-said ws f e t p = ap (λ l. sets l 92 (machine_words t)) (sym (words-said ws f e)) ∙ machine_over (said ws) t p
