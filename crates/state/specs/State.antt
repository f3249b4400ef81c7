-- The engine's state as document 01 keeps it and the machine, two views of one thing. Document 01's loop is a task here.
--     job_at M k                         the job at place k of 256: place k % 16 of loop k / 16's queue
--     jobs_in … release_in                each array of a machine's state
--     state_of p M                       the state that keeps the plan p and the machine M, zeros in its unused places
--     lane_of, machine_of s               the machine that a state stands for
--     zero_state                         a state of zeros
use Rattle.std.specs.Prelude.{ℕ, ◌+◌, ◌*◌, ◌/◌, ◌%◌, Bool, true, false, List, length, get_or, replicate}
use Rattle.std.proofs.Math.Option.{Option, none, some}
use Rattle.laws.specs.Tab.{tab}
use Rattle.tasks.specs.declared.Plan.{Plan}
use Rattle.tasks.specs.TaskSet.{row}
use Rattle.tasks.specs.Content.{zero_plan}
use Rattle.machine.specs.Machine.{Job, job, release_tick, remaining, Lane, Machine}
use Rattle.state.specs.declared.State.{State}

-- an unused place
abbrev pub no_job : Job
no_job = job 0 0

-- "A loop holds at most 16 unfinished jobs; the state keeps all 256 job places in one flat record."
unfoldable pub job_at : Machine → ℕ → Job
job_at M k = get_or (M.lane (k / 16)).queue (k % 16) no_job

-- "a flag says if there is one"
abbrev pub flag_of : Option ℕ → Bool
flag_of none = false
flag_of (some t) = true

-- "a loop without a taken release has 0 as its tick"
abbrev pub tick_of : Option ℕ → ℕ
tick_of none = 0
tick_of (some t) = t

unfoldable pub jobs_in : Machine → List ℕ
jobs_in M = tab (λ i. length (M.lane i).queue) 16

unfoldable pub released_in : Machine → List Bool
released_in M = tab (λ i. flag_of (M.lane i).last) 16

unfoldable pub last_in : Machine → List ℕ
last_in M = tab (λ i. tick_of (M.lane i).last) 16

unfoldable pub remaining_in : Machine → List ℕ
remaining_in M = tab (λ k. remaining (job_at M k)) 256

unfoldable pub release_in : Machine → List ℕ
release_in M = tab (λ k. release_tick (job_at M k)) 256

unfoldable pub state_of : Plan → Machine → State
state_of p M =
    record {
      plan = p;
      clock = M.clock;
      jobs = jobs_in M;
      released = released_in M;
      last = last_in M;
      remaining = remaining_in M;
      release = release_in M;
    }

-- the last taken release, by its flag and tick
abbrev pub last_of : Bool → ℕ → Option ℕ
last_of true t = some t
last_of false t = none

-- whether a release of loop i was taken
unfoldable pub flag_at : State → ℕ → Bool
flag_at s i = get_or s.released i false

-- the job at a place
unfoldable pub place_of : State → ℕ → Job
place_of s k = job (row s.release k) (row s.remaining k)

-- the queue of loop i is the first of its sixteen places, as many as it has jobs
unfoldable pub lane_of : State → ℕ → Lane
lane_of s i = record { last = last_of (flag_at s i) (row s.last i); queue = tab (λ p. place_of s (16 * i + p)) (row s.jobs i) }

-- loops from 16 on, which the arrays have no place for, are idle
unfoldable pub machine_of : State → Machine
machine_of s = record { clock = s.clock; lane = lane_of s }

unfoldable pub zero_state : State
zero_state =
    record {
      plan = zero_plan;
      clock = 0;
      jobs = replicate 16 0;
      released = replicate 16 false;
      last = replicate 16 0;
      remaining = replicate 256 0;
      release = replicate 256 0;
    }
