-- Every call keeps soundness.
--     open_sound                    an opening that isn't refused hands back a sound state
--     tick-sound, admit_sound       a tick and a taken release keep soundness
--     step-sound, release-sound     so a step and a release do, refused or not
use Rattle.std.specs.Prelude.{Ok, Err, ℕ, ◌<◌, ◌≡◌}
use Rattle.std.proofs.Math.Path.{refl}
use Rattle.std.proofs.Math.Bool.{true}
use Rattle.tasks.specs.declared.Plan.{Plan}
use Rattle.tasks.specs.Answer.{Answer, Accepted}
use Rattle.tasks.specs.Content.{tidy}
use Rattle.tasks.specs.Tests.{test_plan, unless_refused}
use Rattle.tasks.specs.AnswerLaws.{first_met-passed}
use Rattle.machine.specs.Machine.{opened, admitted, tick}
use Rattle.machine.specs.Admission.{admit_tests}
use Rattle.machine.proofs.AdmissionLaws.{taken_allowed}
use Rattle.state.specs.declared.State.{State}
use Rattle.state.specs.State.{state_of, machine_of}
use Rattle.state.specs.SoundState.{sound_of}
use Rattle.state.specs.Calls.{open_of, tasks_of, step_tests, release_tests, release_of, ticked_of, not_stepped, step_of}
use Rattle.state.specs.Fit.{Shaped}
use Rattle.state.proofs.FitLaws.{sound-fit, fit-sound}
use Rattle.state.proofs.KeptLaws.{opened-fit, admitted-fit, ticked-fit}
use Rattle.state.proofs.CallLaws.{step-passed}

pub open_sound : (p : Plan) → test_plan p ≡ Accepted → sound_of (open_of p).state ≡ true
unfolding open_of
open_sound p a = rw a (fit-sound (tidy p) opened (opened-fit p a))

module _ (s : State) (S : Shaped s) (e : sound_of s ≡ true) where
  pub tick-sound : s.clock < 4000000000 → sound_of (state_of s.plan (tick (tasks_of s) (machine_of s))) ≡ true
  unfolding tasks_of machine_of
  tick-sound h = fit-sound s.plan _ (ticked-fit s.plan (machine_of s) (sound-fit s S e) h)

  pub admit_sound :
      (i c : ℕ) → admit_tests (tasks_of s) (machine_of s) i c ≡ Accepted → sound_of (state_of s.plan (admitted i c (machine_of s))) ≡ true
  unfolding tasks_of
  admit_sound i c a =
      let t = taken_allowed _ (machine_of s) i c a in
      fit-sound s.plan _ (admitted-fit s.plan (machine_of s) (sound-fit s S e) i c t.0 t.1)

  pub step-sound : sound_of (step_of s).state ≡ true
  unfolding step_of ticked_of not_stepped
  step-sound = go (step_tests s) refl
    where
      go :
          (a : Answer) → step_tests s ≡ a
          → sound_of (unless_refused a (ticked_of s.plan (tasks_of s) (machine_of s)) (not_stepped (step_tests s) s)).state ≡ true
      go (Ok tt) q = tick-sound (step-passed s q).1
      go (Err r) q = e

  admit_passed : (i c : ℕ) → release_tests s i c ≡ Accepted → admit_tests (tasks_of s) (machine_of s) i c ≡ Accepted
  unfolding release_tests
  admit_passed i c q = (first_met-passed _ _ (first_met-passed _ _ q).1).0

  pub release-sound : (i c : ℕ) → sound_of (release_of s i c).state ≡ true
  unfolding release_of
  release-sound i c = go (release_tests s i c) refl
    where
      go :
          (a : Answer) → release_tests s i c ≡ a
          → sound_of (unless_refused a (state_of s.plan (admitted i c (machine_of s))) s) ≡ true
      go (Ok tt) q = admit_sound i c (admit_passed i c q)
      go (Err r) q = e
