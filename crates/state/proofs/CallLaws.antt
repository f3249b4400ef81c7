-- What the calls answer, by the tests that their code makes.
--     open_limits                                 the counts of an accepted plan
--     sound-clock, step-passed, step-tasks        what a state that meets neither 18 nor 19 has
--     step-refused, step-taken                    the answer of a step
--     admission-room, admit_room                  a release that meets none of them has a place, of a loop in the table
--     admit_none, admit_some                      20, and 21 to 23 by the numbers of one loop
--     release_unsound, release_not, release-taken      the answer of a release
--     opened_empty, zero_empty, open_refused, open_accepted      an opening
use Rattle.std.specs.Prelude.{Ok, Err, ℕ, ◌≤◌, ◌<◌, ◌≡◌, Bool, false, ◌&&◌, replicate}
use Rattle.std.proofs.Math.Path.{refl, sym}
use Rattle.std.proofs.Common.{◌∙◌, arith}
use Rattle.std.proofs.Math.Bool.{true}
use Rattle.std.proofs.lemmas.Bool.{false≢true}
use Rattle.std.proofs.Math.Dec.{leb}
use borrow.Author.Tests.{leb-true, leb-false, le-leb, lt-leb, eqb-false, not-false}
use Rattle.laws.specs.TabLaws.{length-tab, tab_replicate}
use Rattle.tasks.specs.declared.Plan.{Plan}
use Rattle.tasks.specs.Answer.{Answer, Accepted, Refused}
use Rattle.tasks.specs.TaskSet.{row}
use Rattle.tasks.specs.Content.{task_of, tidy, zero_plan}
use Rattle.tasks.specs.Tests.{or_next, first_met, test_plan}
use Rattle.tasks.specs.AnswerLaws.{refuse-passed, first_met-passed}
use Rattle.machine.specs.Machine.{opened, admitted}
use Rattle.machine.specs.Admission.{join_tests, admit_tests}
use Rattle.state.specs.declared.State.{State}
use Rattle.state.specs.declared.Opened.{Opened}
use Rattle.state.specs.declared.Released.{Released}
use Rattle.state.specs.declared.Stepped.{Stepped}
use Rattle.state.specs.State.{job_at, jobs_in, released_in, last_in, remaining_in, release_in, state_of, flag_at, lane_of, machine_of, zero_state}
use Rattle.state.specs.SoundState.{all_of, passes, tidy_test, loop_sound, place_sound, sound_of}
use Rattle.state.specs.Calls.{open_of, tasks_of, step_tests, release_tests, release_of, ticked_of, not_stepped, step_of}
use Rattle.laws.specs.EveryLaws.{both}
use Rattle.state.proofs.FitLaws.{plan-limits, in_task, in_count, in_cores}
use Rattle.state.specs.CallLaws.{admission}

pub open_limits : (p : Plan) → test_plan p ≡ Accepted → (p.cores ≤ 8) × (1 ≤ p.tasks) × (p.tasks ≤ 16)
open_limits p a =
    let L = plan-limits p a in (
      omega (arith, L.cores-high, in_cores p),
      omega (arith, L.tasks-low, in_count p),
      omega (arith, L.tasks-high, in_count p),
    )

module _ (s : State) where
  pub sound-clock : sound_of s ≡ true → s.clock ≤ 4000000000
  unfolding sound_of
  sound-clock e =
      let rest = leb s.clock 4000000000 && (all_of (loop_sound s) 16 && all_of (place_sound s) 256) in
      let a = both (passes (test_plan s.plan)) (tidy_test s.plan && rest) e in
      let b = both (tidy_test s.plan) rest a.1 in
      leb-true _ _ (both (leb s.clock 4000000000) (all_of (loop_sound s) 16 && all_of (place_sound s) 256) b.1).0

  pub step-passed : step_tests s ≡ Accepted → (sound_of s ≡ true) × (s.clock < 4000000000)
  unfolding step_tests
  step-passed a =
      let p = first_met-passed _ _ a in
      let q = first_met-passed _ _ p.1 in
      let e = not-false _ (refuse-passed 18 _ p.0) in
      let ne = eqb-false s.clock 4000000000 (refuse-passed 19 _ q.0) in
      let h = sound-clock e in
      (e, omega arith)

  pub step-tasks : step_tests s ≡ Accepted → s.plan.tasks ≤ 16
  unfolding sound_of
  step-tasks a = (open_limits s.plan (table (step-passed a).0)).2
    where
      accepted : (b : Answer) → passes b ≡ true → b ≡ Accepted
      accepted (Ok tt) e = refl
      accepted (Err r) e = absurd (false≢true e)

      table : sound_of s ≡ true → test_plan s.plan ≡ Accepted
      table e =
          accepted
          (test_plan s.plan)
          (both
          (passes (test_plan s.plan))
          (tidy_test s.plan && (leb s.clock 4000000000 && (all_of (loop_sound s) 16 && all_of (place_sound s) 256)))
          e
          ).0

  pub step-refused :
      (a : Answer) (k j : ℕ) → a ≡ step_tests s → a ≡ Refused k j
      → ◌≡◌ {A = Stepped} (record { answer = a; state = s; runs = replicate 8 255; responses = replicate 16 0 }) (step_of s)
  unfolding step_of not_stepped
  step-refused a k j e f = let g : step_tests s ≡ Refused k j = sym e ∙ f in rw (g, f)

  pub step-taken :
      (r : Stepped) (a : Answer) → a ≡ step_tests s → a ≡ Accepted → r ≡ ticked_of s.plan (tasks_of s) (machine_of s) → r ≡ step_of s
  unfolding step_of
  step-taken r a e f m = let g : step_tests s ≡ Accepted = sym e ∙ f in rw g m

pub admission-room : (T C t c n : ℕ) (flag : Bool) (last : ℕ) → admission T C t c n flag last ≡ Accepted → n < 16
unfolding admission join_tests
admission-room T C t c n flag last a =
    let p = first_met-passed _ _ a in
    let q = first_met-passed _ _ p.1 in
    let r = first_met-passed _ _ q.1 in
    leb-false 16 n (refuse-passed 23 _ r.0)

module _ (s : State) (i c : ℕ) where
  pub admit_none : s.plan.tasks ≤ i → admit_tests (tasks_of s) (machine_of s) i c ≡ Refused 20 0
  unfolding admit_tests tasks_of
  admit_none h = rw (in_count s.plan, le-leb s.plan.tasks i h)

  pub admit_some :
      i < s.plan.tasks
      → admit_tests (tasks_of s) (machine_of s) i c
      ≡ admission (task_of s.plan.task i).separation (task_of s.plan.task i).budget s.clock c (row s.jobs i) (flag_at s i)
      (row s.last i)
  unfolding admit_tests admission tasks_of machine_of lane_of
  admit_some h = rw (in_count s.plan, lt-leb s.plan.tasks i h, in_task s.plan i h, length-tab)

  pub admit_room : admit_tests (tasks_of s) (machine_of s) i c ≡ Accepted → (i < s.plan.tasks) × (row s.jobs i < 16)
  admit_room q = (known, admission-room _ _ _ _ _ _ _ (sym (admit_some known) ∙ q))
    where
      go : (b : Bool) → leb s.plan.tasks i ≡ b → i < s.plan.tasks
      go true h =
          let w : Refused 20 0 ≡ Accepted = sym (admit_none (leb-true s.plan.tasks i h)) ∙ q in
          let z : ◌≡◌ {A = ℕ} 0 1 = cc in
          omega arith
      go false h = leb-false s.plan.tasks i h

      known : i < s.plan.tasks
      known = go (leb s.plan.tasks i) refl

  pub release_unsound :
      (a : Answer) (k j : ℕ) → a ≡ step_tests s → a ≡ Refused k j → ◌≡◌ {A = Released} (record { answer = a; state = s }) (release_of s i c)
  unfolding release_of release_tests first_met
  release_unsound a k j e f = let g : step_tests s ≡ Refused k j = sym e ∙ f in rw (g, f)

  module _ (p : step_tests s ≡ Accepted) where
    one : (a : Answer) → or_next a Accepted ≡ a
    one (Ok tt) = refl
    one (Err r) = refl

    same_tests : release_tests s i c ≡ admit_tests (tasks_of s) (machine_of s) i c
    unfolding release_tests first_met
    same_tests = rw p (one (admit_tests (tasks_of s) (machine_of s) i c))

    pub release_not :
        (a : Answer) (k j : ℕ) → a ≡ admit_tests (tasks_of s) (machine_of s) i c → a ≡ Refused k j
        → ◌≡◌ {A = Released} (record { answer = a; state = s }) (release_of s i c)
    unfolding release_of
    release_not a k j e f = let g : release_tests s i c ≡ Refused k j = same_tests ∙ sym e ∙ f in rw (g, f)

    pub release-taken :
        (t : State) → admit_tests (tasks_of s) (machine_of s) i c ≡ Accepted → t ≡ state_of s.plan (admitted i c (machine_of s))
        → ◌≡◌ {A = Released} (record { answer = Accepted; state = t }) (release_of s i c)
    unfolding release_of
    release-taken t e f = let g : release_tests s i c ≡ Accepted = same_tests ∙ e in rw (g, f)

-- ---- an opening

pub opened_empty :
    (p : Plan)
    → ◌≡◌ {A = State}
    (record {
      plan = p;
      clock = 0;
      jobs = replicate 16 0;
      released = replicate 16 false;
      last = replicate 16 0;
      remaining = replicate 256 0;
      release = replicate 256 0;
    })
    (state_of p opened)
unfolding state_of jobs_in released_in last_in remaining_in release_in job_at opened
opened_empty p =
    λ k.
    record {
      plan = p;
      clock = 0;
      jobs = sym (tab_replicate 0 16) k;
      released = sym (tab_replicate false 16) k;
      last = sym (tab_replicate 0 16) k;
      remaining = sym (tab_replicate 0 256) k;
      release = sym (tab_replicate 0 256) k;
    }

pub zero_empty : zero_state ≡ state_of zero_plan opened
unfolding zero_state
zero_empty = opened_empty zero_plan

module _ (p : Plan) (a : Answer) (e : a ≡ test_plan p) where
  pub open_refused : (k j : ℕ) (t : State) → a ≡ Refused k j → t ≡ zero_state → ◌≡◌ {A = Opened} (record { answer = a; state = t }) (open_of p)
  unfolding open_of
  open_refused k j t f z = let g : test_plan p ≡ Refused k j = sym e ∙ f in rw (g, f, z)

  pub open_accepted :
      (t : State) → a ≡ Accepted → t ≡ state_of (tidy p) opened → ◌≡◌ {A = Opened} (record { answer = Accepted; state = t }) (open_of p)
  unfolding open_of
  open_accepted t f z = let g : test_plan p ≡ Accepted = sym e ∙ f in rw (g, z)
