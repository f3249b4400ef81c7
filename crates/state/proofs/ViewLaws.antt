-- The two views of a state: what each array of a machine's state reads, and both round trips.
--     job-at            a job place of a machine's state is a place of the loop's queue; place-of: so it is read back
--     row-jobs, flag_in, row_last, row-remaining, row-release      each array of a machine's state, read at a loop or a place
--     machine_back      a machine of at most 16 jobs a loop, idle from loop 16 on, is the machine of its state
--     machine_ext       machines with the same clock and the same lanes are one
--     state_backed      such a state is the state of its machine
--     shaped-state      a machine's state has the arrays' lengths
use Rattle.std.specs.Prelude.{ℕ, ◌+◌, ◌*◌, ◌/◌, ◌%◌, ◌≤◌, ◌<◌, Bool, ◌≡◌}
use Rattle.std.proofs.Math.Bool.{true, false}
use Rattle.std.proofs.Math.Path.{refl, sym, ap}
use Rattle.std.proofs.Common.{◌∙◌, arith, ltb-true, ltb-false}
use Rattle.std.proofs.Math.Option.{Option, none, some}
use Rattle.std.proofs.Math.Nat.{div-add-mod}
use Rattle.std.proofs.Math.ListN.{length, get_or}
use Rattle.std.proofs.Math.Dec.{ltb}
use Rattle.laws.specs.Tab.{tab}
use Rattle.laws.specs.TabLaws.{length-tab, get_or-tab, get_or-tab-out, ext_tab}
use Rattle.tasks.specs.declared.Plan.{Plan}
use Rattle.tasks.specs.TaskSet.{row}
use Rattle.machine.specs.Machine.{Job, job, release_tick, remaining, Lane, Machine, opened}
use Rattle.state.specs.declared.State.{State}
use Rattle.state.specs.State.{no_job, job_at, flag_of, tick_of, jobs_in, released_in, last_in, remaining_in, release_in, state_of, last_of, flag_at, place_of, lane_of, machine_of}
use Rattle.state.specs.Fit.{ShapedPlan, Shaped}
use Rattle.state.proofs.AllLaws.{loop-of, place_in_lem}
use Rattle.state.specs.ViewLaws.{Backed}

pub job-at : (M : Machine) (i p : ℕ) → p < 16 → job_at M (16 * i + p) ≡ get_or (M.lane i).queue p no_job
unfolding job_at
job-at M i p h = rw (loop-of i p h, place_in_lem i p h)

module _ (M : Machine) where
  pub row-jobs : (i : ℕ) → i < 16 → row (jobs_in M) i ≡ length (M.lane i).queue
  unfolding row jobs_in
  row-jobs i h = get_or-tab _ 16 i 0 h

  pub flag_in : (i : ℕ) → i < 16 → get_or (released_in M) i false ≡ flag_of (M.lane i).last
  unfolding released_in
  flag_in i h = get_or-tab _ 16 i false h

  pub row_last : (i : ℕ) → i < 16 → row (last_in M) i ≡ tick_of (M.lane i).last
  unfolding row last_in
  row_last i h = get_or-tab _ 16 i 0 h

  pub row-remaining : (k : ℕ) → k < 256 → row (remaining_in M) k ≡ remaining (job_at M k)
  unfolding row remaining_in
  row-remaining k h = get_or-tab _ 256 k 0 h

  pub row-release : (k : ℕ) → k < 256 → row (release_in M) k ≡ release_tick (job_at M k)
  unfolding row release_in
  row-release k h = get_or-tab _ 256 k 0 h

pub shaped-state : (p : Plan) (M : Machine) → ShapedPlan p → Shaped (state_of p M)
unfolding state_of jobs_in released_in last_in remaining_in release_in
shaped-state p M q =
    record {
      plan = q;
      jobs = length-tab _ 16;
      released = length-tab _ 16;
      last = length-tab _ 16;
      remaining = length-tab _ 256;
      release = length-tab _ 256;
    }

lane_ext : (l m : Lane) → l.last ≡ m.last → l.queue ≡ m.queue → l ≡ m
lane_ext l m e q = λ i. record { last = e i; queue = q i }

pub machine_ext : (M N : Machine) → M.clock ≡ N.clock → ((i : ℕ) → M.lane i ≡ N.lane i) → M ≡ N
machine_ext M N e f = λ i. record { clock = e i; lane = λ j. f j i }

same-last : (l : Option ℕ) → last_of (flag_of l) (tick_of l) ≡ l
same-last none = refl
same-last (some t) = refl

same-job : (j : Job) → job (release_tick j) (remaining j) ≡ j
same-job (job r w) = refl

module _ (p : Plan) (M : Machine) where
  pub place-of : (i q : ℕ) → i < 16 → q < 16 → place_of (state_of p M) (16 * i + q) ≡ get_or (M.lane i).queue q no_job
  unfolding place_of state_of
  place-of i q h l =
      rw (row-release M (16 * i + q) (omega arith), row-remaining M (16 * i + q) (omega arith), job-at M i q l)
      (same-job (get_or (M.lane i).queue q no_job))

  lane-back : ((i : ℕ) → length (M.lane i).queue ≤ 16) → (i : ℕ) → i < 16 → lane_of (state_of p M) i ≡ M.lane i
  unfolding lane_of flag_at state_of
  lane-back few i h =
      lane_ext (lane_of (state_of p M) i) (M.lane i)
      (last-back)
      (queue-back)
    where
      last-back : last_of (get_or (state_of p M).released i false) (row (state_of p M).last i) ≡ (M.lane i).last
      last-back = rw (flag_in M i h, row_last M i h) (same-last (M.lane i).last)

      queue-back : tab (λ q. place_of (state_of p M) (16 * i + q)) (row (state_of p M).jobs i) ≡ (M.lane i).queue
      queue-back =
          rw (row-jobs M i h)
          (sym
          (ext_tab (λ q. place_of (state_of p M) (16 * i + q)) (M.lane i).queue (length (M.lane i).queue) no_job refl
          (λ q l. sym (place-of i q h (omega (arith, few i))))))

  -- a loop that the arrays have no place for
  lane_past : (i : ℕ) → 16 ≤ i → lane_of (state_of p M) i ≡ opened.lane i
  unfolding lane_of flag_at state_of opened row tab jobs_in released_in
  lane_past i h =
      rw (get_or-tab-out (λ j. flag_of (M.lane j).last) 16 i false h, get_or-tab-out (λ j. length (M.lane j).queue) 16 i 0 h)

  pub machine_back :
      ((i : ℕ) → length (M.lane i).queue ≤ 16) → ((i : ℕ) → 16 ≤ i → M.lane i ≡ opened.lane i) → machine_of (state_of p M) ≡ M
  unfolding machine_of state_of
  machine_back few past = machine_ext (machine_of (state_of p M)) M clock (λ i. lane i (ltb i 16) refl)
    where
      clock : (state_of p M).clock ≡ M.clock
      clock = refl

      lane : (i : ℕ) (b : Bool) → ltb i 16 ≡ b → lane_of (state_of p M) i ≡ M.lane i
      lane i true e = lane-back few i (ltb-true i 16 e)
      lane i false e = lane_past i (ltb-false i 16 e) ∙ sym (past i (ltb-false i 16 e))

flag_back : (b : Bool) (t : ℕ) → flag_of (last_of b t) ≡ b
flag_back true t = refl
flag_back false t = refl

tick-back : (b : Bool) (t : ℕ) → (b ≡ false → t ≡ 0) → tick_of (last_of b t) ≡ t
tick-back true t h = refl
tick-back false t h = sym (h refl)

module _ (s : State) (B : Backed s) where
  -- the job at a used place, and at an unused one
  job-back : (k : ℕ) → k < 256 → job_at (machine_of s) k ≡ place_of s k
  unfolding job_at machine_of lane_of place_of
  job-back k h = go (ltb (k % 16) (row s.jobs (k / 16))) refl
    where
      go :
          (b : Bool) → ltb (k % 16) (row s.jobs (k / 16)) ≡ b
          → get_or (tab (λ p. place_of s (16 * (k / 16) + p)) (row s.jobs (k / 16))) (k % 16) no_job ≡ place_of s k
      go true e =
          get_or-tab (λ p. place_of s (16 * (k / 16) + p)) (row s.jobs (k / 16)) (k % 16) no_job (ltb-true _ _ e)
          ∙ ap (place_of s) (div-add-mod k 16)
      go false e =
          let z = B.unused k h (ltb-false _ _ e) in
          get_or-tab-out (λ p. place_of s (16 * (k / 16) + p)) (row s.jobs (k / 16)) (k % 16) no_job (ltb-false _ _ e)
          ∙ rw (z.0, z.1)

  pub state_backed : state_of s.plan (machine_of s) ≡ s
  unfolding state_of jobs_in released_in last_in remaining_in release_in machine_of lane_of flag_at row place_of
  state_backed =
      λ i.
      record {
        plan = s.plan;
        clock = s.clock;
        jobs = jobs i;
        released = released i;
        last = last i;
        remaining = work i;
        release = release i;
      }
    where
      jobs : tab (λ i. length ((machine_of s).lane i).queue) 16 ≡ s.jobs
      jobs = sym (ext_tab _ s.jobs 16 0 B.shaped.jobs (λ i h. sym (length-tab _ _)))

      released : tab (λ i. flag_of ((machine_of s).lane i).last) 16 ≡ s.released
      released = sym (ext_tab _ s.released 16 false B.shaped.released (λ i h. sym (flag_back _ _)))

      last : tab (λ i. tick_of ((machine_of s).lane i).last) 16 ≡ s.last
      last = sym (ext_tab _ s.last 16 0 B.shaped.last (λ i h. sym (tick-back (flag_at s i) _ (B.clear i h))))

      work : tab (λ k. remaining (job_at (machine_of s) k)) 256 ≡ s.remaining
      work = sym (ext_tab _ s.remaining 256 0 B.shaped.remaining (λ k h. sym (ap remaining (job-back k h))))

      release : tab (λ k. release_tick (job_at (machine_of s) k)) 256 ≡ s.release
      release = sym (ext_tab _ s.release 256 0 B.shaped.release (λ k h. sym (ap release_tick (job-back k h))))
