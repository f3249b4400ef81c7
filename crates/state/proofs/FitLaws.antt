-- A state is sound exactly where its plan and its machine fit, and then the two views determine each other.
--     sound-fit        a sound state's machine fits its plan
--     fit-sound        the state of a plan and a machine that fit is sound
--     state-back       a sound state is the state of its machine
--     machine_back     a machine that fits is the machine of its state
--     in_task          a loop's task in the task set of a plan
--     plan-limits, plan-compliant, plan-bounded    what a plan has that meets none of its numbers
--     few-tasks, idle  a sound state has at most sixteen loops, and beyond its table no job and no release
use Prim.Native.Nat.{ℕ, zero, suc, ◌+◌, ◌-◌, ◌*◌, ◌/◌, ◌%◌, ◌≤◌, ◌<◌}
use Rattle.std.specs.Prelude.{Ok, Err, Bool, true, ◌≡◌, length, get_or, ltb}
use Rattle.std.proofs.Math.Bool.{false}
use Rattle.std.proofs.lemmas.Bool.{false≢true}
use Rattle.std.proofs.Common.{true≢false, sym, ◌∙◌}
use Rattle.std.proofs.Math.Path.{refl, ap}
use Rattle.std.proofs.Math.Option.{Option, none, some}
use native.Mathlib.Omega.{arith}
use Rattle.std.proofs.Math.ListN.{get_or-eq_default}
use borrow.Author.Tests.{ltb-true, ltb-false, le-ltb, leb-true, le-leb}
use Rattle.laws.specs.Tab.{tab}
use Rattle.laws.specs.TabLaws.{length-tab, get_or-tab}
use Rattle.tasks.specs.declared.Plan.{Plan}
use Rattle.tasks.specs.Answer.{Answer, Accepted}
use Rattle.tasks.specs.TaskSet.{row}
use Rattle.tasks.specs.Content.{in_edition, task_of, content_of, tidy}
use Rattle.tasks.proofs.ContentLaws.{used-task}
use Rattle.tasks.specs.Tests.{test_plan}
use Rattle.tasks.specs.Limits.{Limits, Enough, Bounded}
use Rattle.tasks.proofs.TestsLaws.{tests-limits, tests-compliant, tests-bounded, plan-passed}
use Rattle.machine.specs.Machine.{release_tick, remaining, Lane, Machine, opened}
use Rattle.machine.specs.Sound.{Rising, Newest, Past, SoundLane}
use Rattle.state.specs.declared.State.{State}
use Rattle.state.specs.State.{no_job, flag_of, tick_of, state_of, last_of, flag_at, place_of, lane_of, machine_of}
use Rattle.state.specs.SoundState.{all_of, passes, tidy_test, loop_sound, place_sound, sound_of}
use Rattle.state.specs.Fit.{Shaped, Fit}
use Rattle.laws.specs.EveryLaws.{both, and_both}
use Rattle.state.proofs.AllLaws.{all-at, of-all, by_place, loop-of, place_in_lem}
use Rattle.state.specs.QueueLaws.{LoopFacts, PlaceFacts}
use Rattle.state.proofs.QueueLaws.{rising-from, rising-at, rising-next, newest-from, newest-at, loop_facts, facts_loop, place_facts, facts_place}
use Rattle.state.proofs.TidyLaws.{tidy-from, tidy_to, tidied-shaped}
use Rattle.state.proofs.ViewLaws as views
use Rattle.state.specs.ViewLaws.{Backed}
use Rattle.state.proofs.ViewLaws.{state_backed, job-at, row-jobs, flag_in, row_last, row-remaining, row-release, shaped-state}

passed : (a : Answer) → passes a ≡ true → a ≡ Accepted
passed (Ok tt) e = refl
passed (Err r) e = absurd (false≢true e)

pub in_task : (p : Plan) (i : ℕ) → i < p.tasks → (content_of p).tasks.task i ≡ in_edition p.edition (task_of p.task i)
in_task = used-task

module _ (p : Plan) (a : test_plan p ≡ Accepted) where
  pub plan-limits : Limits (content_of p).tasks
  plan-limits = tests-limits (content_of p) (plan-passed p a).1

  pub plan-compliant : Enough (content_of p).tasks (content_of p).slack
  plan-compliant = tests-compliant (content_of p) (plan-passed p a).1

  pub plan-bounded : Bounded (content_of p).tasks (content_of p).slack
  plan-bounded = tests-bounded (content_of p) (plan-passed p a).1

pub in_count : (p : Plan) → (content_of p).tasks.count ≡ p.tasks
unfolding content_of
in_count p = refl

pub in_cores : (p : Plan) → (content_of p).tasks.cores ≡ p.cores
unfolding content_of
in_cores p = refl

-- ---- from a sound state

module _ (s : State) (S : Shaped s) (e : sound_of s ≡ true) where
  record Parts : Type 0 where
    accepted : test_plan s.plan ≡ Accepted
    tidied : tidy_test s.plan ≡ true
    clock : s.clock ≤ 4000000000
    loops : all_of (loop_sound s) 16 ≡ true
    places : all_of (place_sound s) 256 ≡ true

  parts : Parts
  unfolding sound_of
  parts =
      let a = both _ _ e in
      let b = both _ _ a.1 in
      let c = both _ _ b.1 in
      let d = both _ _ c.1 in
      record { accepted = passed _ a.0; tidied = b.0; clock = leb-true _ _ c.0; loops = d.0; places = d.1 }

  limits : Limits (content_of s.plan).tasks
  limits = plan-limits s.plan parts.accepted

  pub few-tasks : s.plan.tasks ≤ 16
  few-tasks = omega (arith, limits.tasks-high, in_count s.plan)

  pub sound-tidied : tidy s.plan ≡ s.plan
  sound-tidied =
      tidy-from s.plan S.plan (omega (arith, limits.tasks-low, in_count s.plan)) parts.tidied

  loop : (i : ℕ) → i < 16
      → LoopFacts (ltb i s.plan.tasks) s.clock (row s.jobs i) (flag_at s i) (row s.last i)
      (row s.release (16 * i + (row s.jobs i - 1)))
  unfolding loop_sound
  loop i h = loop_facts _ _ _ _ _ _ (all-at (loop_sound s) 16 i parts.loops h)

  place : (i p : ℕ) → i < 16 → p < 16
      → PlaceFacts (task_of s.plan.task i).separation (task_of s.plan.task i).budget s.clock (row s.jobs i) p
      (row s.release (16 * i + p - 1)) (row s.release (16 * i + p)) (row s.remaining (16 * i + p))
  unfolding place_sound
  place i p h l =
      place_facts _ _ _ _ _ _ _ _
      (rw (loop-of i p l, place_in_lem i p l) at (all-at (place_sound s) 256 (16 * i + p) parts.places (omega arith)))

  pub sound_backed : Backed s
  sound_backed =
      record {
        shaped = S;
        clear = λ i h. (loop i h).clear;
        unused =
            by_place (λ k. row s.jobs (k / 16) ≤ k % 16 → (row s.release k ≡ 0) × (row s.remaining k ≡ 0))
            (λ i p h l. rw (loop-of i p l, place_in_lem i p l) (place i p h l).unused);
      }

  pub state-back : state_of s.plan (machine_of s) ≡ s
  state-back = state_backed s sound_backed

  -- what loops from 16 on read
  jobs-past : (i : ℕ) → 16 ≤ i → row s.jobs i ≡ 0
  unfolding row
  jobs-past i h = get_or-eq_default s.jobs 0 (omega (arith, S.jobs))

  flag_past : (i : ℕ) → 16 ≤ i → flag_at s i ≡ false
  unfolding flag_at
  flag_past i h = get_or-eq_default s.released false (omega (arith, S.released))

  jobs-few : (i : ℕ) → row s.jobs i ≤ 16
  jobs-few i = go (ltb i 16) refl
    where
      go : (b : Bool) → ltb i 16 ≡ b → row s.jobs i ≤ 16
      go true q = (loop i (ltb-true i 16 q)).few
      go false q = omega (arith, jobs-past i (ltb-false i 16 q))

  pub idle : (i : ℕ) → s.plan.tasks ≤ i → (row s.jobs i ≡ 0) × (flag_at s i ≡ false)
  idle i h = go (ltb i 16) refl
    where
      go : (b : Bool) → ltb i 16 ≡ b → (row s.jobs i ≡ 0) × (flag_at s i ≡ false)
      go true q = (loop i (ltb-true i 16 q)).outside (le-ltb i s.plan.tasks h)
      go false q = (jobs-past i (ltb-false i 16 q), flag_past i (ltb-false i 16 q))

  lane-idle : (i : ℕ) → s.plan.tasks ≤ i → lane_of s i ≡ opened.lane i
  unfolding lane_of opened tab
  lane-idle i h = rw ((idle i h).0, (idle i h).1)

  module _ (i : ℕ) (h : i < s.plan.tasks) where
    small : i < 16
    small = omega (arith, few-tasks)

    job-here : (p : ℕ) → p < row s.jobs i → get_or (tab (λ p. place_of s (16 * i + p)) (row s.jobs i)) p no_job ≡ place_of s (16 * i + p)
    job-here p l = get_or-tab (λ p. place_of s (16 * i + p)) (row s.jobs i) p no_job l

    fact : (p : ℕ) → p < row s.jobs i
        → PlaceFacts (task_of s.plan.task i).separation (task_of s.plan.task i).budget s.clock (row s.jobs i) p
        (row s.release (16 * i + p - 1)) (row s.release (16 * i + p)) (row s.remaining (16 * i + p))
    fact p l = place i p small (omega (arith, jobs-few i))

    lane-rising :
        Rising (task_of s.plan.task i).separation (task_of s.plan.task i).budget s.clock 0
        (tab (λ p. place_of s (16 * i + p)) (row s.jobs i))
    unfolding place_of
    lane-rising =
        rising-from _ _ _ 0 (tab (λ p. place_of s (16 * i + p)) (row s.jobs i))
        (λ p l. let b : p < row s.jobs i = omega (arith, length-tab (λ p. place_of s (16 * i + p)) (row s.jobs i)) in rw (job-here p b) ((fact p b).used b))
        (λ p l.
        let b : suc p < row s.jobs i = omega (arith, length-tab (λ p. place_of s (16 * i + p)) (row s.jobs i)) in
        let back : 16 * i + suc p - 1 ≡ 16 * i + p = omega arith in
        rw (job-here p (omega arith), job-here (suc p) b, ← back) ((fact (suc p) b).rises b (omega arith)))
        (λ l. omega arith)

    lane-newest : Newest (last_of (flag_at s i) (row s.last i)) (tab (λ p. place_of s (16 * i + p)) (row s.jobs i))
    unfolding place_of
    lane-newest =
        newest-from _ (tab (λ p. place_of s (16 * i + p)) (row s.jobs i))
        (λ l.
        let b : 1 ≤ row s.jobs i = omega (arith, length-tab (λ p. place_of s (16 * i + p)) (row s.jobs i)) in
        let r = (loop i small).recent b in
        rw (length-tab (λ p. place_of s (16 * i + p)) (row s.jobs i), job-here (row s.jobs i - 1) (omega arith), r.0, r.1))

    lane_past : Past s.clock (last_of (flag_at s i) (row s.last i))
    lane_past = go (flag_at s i)
      where
        go : (b : Bool) → Past s.clock (last_of b (row s.last i))
        go true = (loop i small).past
        go false = tt

    lane-sound : SoundLane ((content_of s.plan).tasks.task i).separation ((content_of s.plan).tasks.task i).budget s.clock (lane_of s i)
    unfolding lane_of
    lane-sound = rw (in_task s.plan i h) (record { rising = lane-rising; newest = lane-newest; past = lane_past })

  pub sound-fit : Fit s.plan (machine_of s)
  unfolding machine_of lane_of
  sound-fit =
      record {
        accepted = parts.accepted;
        tidied = sound-tidied;
        clock-high = parts.clock;
        holds = λ i. rw (length-tab (λ p. place_of s (16 * i + p)) (row s.jobs i)) (jobs-few i);
        sound =
            record {
              lanes = λ i h. lane-sound i (omega (arith, in_count s.plan));
              unused = λ i h. lane-idle i (omega (arith, in_count s.plan));
            };
      }

-- ---- to a sound state

module _ (p : Plan) (M : Machine) (F : Fit p M) where
  pub fit-limits : Limits (content_of p).tasks
  fit-limits = plan-limits p F.accepted

  pub fit-tasks : p.tasks ≤ 16
  fit-tasks = omega (arith, fit-limits.tasks-high, in_count p)

  pub idle-lane : (i : ℕ) → p.tasks ≤ i → M.lane i ≡ opened.lane i
  idle-lane i h = F.sound.unused i (omega (arith, in_count p))

  pub fit-past : (i : ℕ) → 16 ≤ i → M.lane i ≡ opened.lane i
  fit-past i h = idle-lane i (omega (arith, fit-tasks))

  pub machine_back : machine_of (state_of p M) ≡ M
  machine_back = views.machine_back p M F.holds fit-past

  pub shaped : Shaped (state_of p M)
  shaped = shaped-state p M (tidied-shaped p F.tidied)

  pub known-lane : (i : ℕ) → i < p.tasks → SoundLane (task_of p.task i).separation (task_of p.task i).budget M.clock (M.lane i)
  known-lane i h = rw (in_task p i h) at (F.sound.lanes i (omega (arith, in_count p)))

  no_jobs : (i : ℕ) → p.tasks ≤ i → length (M.lane i).queue ≡ 0
  unfolding opened
  no_jobs i h = rw (idle-lane i h)

  -- a loop with a job is in the table
  in_table : (i q : ℕ) → q < length (M.lane i).queue → i < p.tasks
  in_table i q h = go (ltb i p.tasks) refl
    where
      go : (b : Bool) → ltb i p.tasks ≡ b → i < p.tasks
      go true e = ltb-true _ _ e
      go false e = absurd (omega (arith, no_jobs i (ltb-false _ _ e)))

  loop-sound : (i : ℕ) → i < 16 → loop_sound (state_of p M) i ≡ true
  unfolding loop_sound flag_at state_of opened
  loop-sound i h =
      rw (row-jobs M i h, flag_in M i h, row_last M i h)
      (facts_loop _ _ _ _ _ _
      (record {
        few = F.holds i;
        outside = λ f. let z = ltb-false i p.tasks f in (no_jobs i z, no_flag z);
        clear = clear (M.lane i).last;
        past = past (ltb i p.tasks) refl;
        recent = recent;
      }))
    where
      no_flag : p.tasks ≤ i → flag_of (M.lane i).last ≡ false
      no_flag z = ap (λ (l : Lane). flag_of l.last) (idle-lane i z)

      clear : (l : Option ℕ) → flag_of l ≡ false → tick_of l ≡ 0
      clear none e = refl
      clear (some t) e = absurd (true≢false e)

      tick-past : (t : ℕ) (l : Option ℕ) → Past t l → tick_of l ≤ t
      tick-past t none q = omega arith
      tick-past t (some l) q = q

      past : (b : Bool) → ltb i p.tasks ≡ b → tick_of (M.lane i).last ≤ M.clock
      past true e = tick-past M.clock (M.lane i).last (known-lane i (ltb-true _ _ e)).past
      past false e = omega (arith, clear (M.lane i).last (no_flag (ltb-false _ _ e)))

      recent :
          1 ≤ length (M.lane i).queue
          → (flag_of (M.lane i).last ≡ true) × (tick_of (M.lane i).last ≡ row (state_of p M).release (16 * i + (length (M.lane i).queue - 1)))
      recent l =
          let n = newest-at (M.lane i).last (M.lane i).queue (known-lane i (in_table i 0 l)).newest l in
          let small : length (M.lane i).queue - 1 < 16 = omega (arith, F.holds i) in (
            ap flag_of n,
            ap tick_of n
                ∙ sym
                (row-release M (16 * i + (length (M.lane i).queue - 1)) (omega arith)
                ∙ ap release_tick (job-at M i (length (M.lane i).queue - 1) small)),
          )

  place-sound : (i q : ℕ) → i < 16 → q < 16 → place_sound (state_of p M) (16 * i + q) ≡ true
  unfolding place_sound state_of
  place-sound i q h l =
      rw (loop-of i q l, place_in_lem i q l, row-jobs M i h, here, work)
      (facts_place _ _ _ _ _ _ _ _
      (record {
        rises = λ m low. rises q refl m low;
        used = λ m. let k = known-lane i (in_table i q m) in rising-at _ _ _ 0 (M.lane i).queue k.rising q m;
        unused = λ m. let z = get_or-eq_default (M.lane i).queue no_job m in (ap release_tick z, ap remaining z);
      }))
    where
      here : row (state_of p M).release (16 * i + q) ≡ release_tick (get_or (M.lane i).queue q no_job)
      here = row-release M (16 * i + q) (omega arith) ∙ ap release_tick (job-at M i q l)

      work : row (state_of p M).remaining (16 * i + q) ≡ remaining (get_or (M.lane i).queue q no_job)
      work = row-remaining M (16 * i + q) (omega arith) ∙ ap remaining (job-at M i q l)

      rises :
          (r : ℕ) → q ≡ r → q < length (M.lane i).queue → 1 ≤ q
          → row (state_of p M).release (16 * i + q - 1) + (task_of p.task i).separation ≤ release_tick (get_or (M.lane i).queue q no_job)
      rises zero z m low = absurd (omega arith)
      rises (suc r) z m low =
          let back : 16 * i + suc r - 1 ≡ 16 * i + r = omega arith in
          let k = known-lane i (in_table i q m) in
          rw (z, back, row-release M (16 * i + r) (omega arith), job-at M i r (omega arith))
          (rising-next _ _ _ 0 (M.lane i).queue k.rising r (omega arith))

  pub fit-sound : sound_of (state_of p M) ≡ true
  unfolding sound_of state_of
  fit-sound =
      and_both _ _ (ap passes F.accepted)
      (and_both _ _ (tidy_to p F.tidied)
      (and_both _ _ (le-leb _ _ F.clock-high)
      (and_both _ _ (of-all (loop_sound (state_of p M)) 16 loop-sound)
      (of-all (place_sound (state_of p M)) 256 (by_place (λ k. place_sound (state_of p M) k ≡ true) place-sound)))))
