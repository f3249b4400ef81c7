-- Document 01, "The engine": the machine that the engine's calls carry out. Document 01's loop is a task here, and is given by its number.
--     Job, Lane, Machine       a job; what is held for one loop; the clock and every loop's lane
--     opened                   the opening
--     within, crowded          what 22 and 23 test; too_soon, full: of a loop of a machine
--     Allowed s M i c          a release of loop i with demand c meets none of 20, 21 and 22
--     admitted i c M           the machine after that release is taken
--     waiting                  whether a loop has a job that may run, its head
--     released, point          that head's release tick and its priority point
--     before, chosen           the order of the heads, and the loops that run in it
--     on_core, runs             which loop runs on a core, and whether a loop runs
--     served, advanced         a queue after its head has run for a tick; the machine after a tick in which given loops run
--     tick                     the machine after a tick in which the chosen loops run
--     response, responses      who finishes in a tick, with finish tick minus release tick
use Rattle.std.specs.Prelude.{ℕ, zero, suc, pred, ◌+◌, ◌-◌, ◌≤◌, ◌<◌, Bool, true, false, cond, ◌≡◌, List, [], ◌∷◌, ◌++◌, length, get_or, take, ltb, leb, eqb}
use Rattle.std.proofs.Math.Option.{Option, none, some}
use Rattle.laws.specs.Rank.{by_two, ranked}
use Rattle.laws.specs.Member.{member}
use Rattle.tasks.specs.TaskSet.{TaskSet}

-- a job: its release tick and its remaining work
pub data Job : Type 0 where
  job : ℕ → ℕ → Job

abbrev pub release_tick : Job → ℕ
release_tick (job r w) = r

abbrev pub remaining : Job → ℕ
remaining (job r w) = w

-- what is held for one loop: its last taken release, if any, and its unfinished jobs, oldest first
pub record Lane : Type 0 where
  pub last : Option ℕ
  pub queue : List Job

-- the clock, and for each loop its lane; loops that are not in the table stay as they were opened
pub record Machine : Type 0 where
  pub clock : ℕ
  pub lane : ℕ → Lane

-- "The engine is opened … at tick 0 with nothing pending."
unfoldable pub opened : Machine
opened = record { clock = 0; lane = λ i. record { last = none; queue = [] } }

-- 22: "The loop's last taken release is less than T ticks ago.": whether t is less than `gap` ticks after the last release
abbrev pub within : ℕ → ℕ → Option ℕ → Bool
within gap t none = false
within gap t (some l) = ltb t (l + gap)

unfoldable pub too_soon : TaskSet → Machine → ℕ → Bool
too_soon s M i = within (s.task i).separation M.clock (M.lane i).last

-- 23: "The loop already holds 16 jobs"
abbrev pub crowded : ℕ → Bool
crowded n = leb 16 n

unfoldable pub full : Machine → ℕ → Bool
full M i = crowded (length (M.lane i).queue)

-- a release of loop i with demand c that meets none of 20, 21 and 22
pub record Allowed (s : TaskSet) (M : Machine) (i c : ℕ) : Type 0 where
  pub in_table : i < s.count
  pub demand-low : 1 ≤ c
  pub demand-high : c ≤ (s.task i).budget
  pub apart : too_soon s M i ≡ false

-- a lane with one job more, released at t with demand c
unfoldable pub joined : ℕ → ℕ → Lane → Lane
joined t c l = record { last = some t; queue = l.queue ++ job t c ∷ [] }

-- "A taken release adds one job, released at the clock, with its demand as remaining work"
unfoldable pub admitted : ℕ → ℕ → Machine → Machine
admitted i c M = record { clock = M.clock; lane = λ j. cond (eqb j i) (joined M.clock c (M.lane j)) (M.lane j) }

abbrev pub pending : List Job → Bool
pending [] = false
pending (j ∷ q) = true

-- "Only the oldest unfinished job of each loop may run": its head
unfoldable pub waiting : Machine → ℕ → Bool
waiting M i = pending (M.lane i).queue

-- the head's release; of a loop with no job it is never asked
abbrev pub head_release : List Job → ℕ
head_release [] = 0
head_release (j ∷ q) = release_tick j

abbrev pub released : Machine → ℕ → ℕ
released M i = head_release (M.lane i).queue

-- "A job's priority point is its release tick + Y."
unfoldable pub point : TaskSet → Machine → ℕ → ℕ
point s M i = released M i + (s.task i).offset

-- whether loop i's head goes before loop j's. Document 02, §8: "Among equal priority points the earlier release now runs first, and the lower
-- loop only if these are equal too": where neither goes before the other, the lower loop does.
unfoldable pub before : TaskSet → Machine → ℕ → ℕ → Bool
before s M = by_two (point s M) (released M)

-- "At each step the m of these with the earliest priority points run for one tick, all of them if fewer … They take the cores in that order,
-- the earliest on the lowest label."
unfoldable pub chosen : TaskSet → Machine → List ℕ
chosen s M = take s.cores (ranked (before s M) (waiting M) s.count)

abbrev pub idle : ℕ
idle = 255

-- "The answer says for each core which loop ran or that it was idle": here the core with the k-th lowest label, counted from 0
unfoldable pub on_core : TaskSet → Machine → ℕ → ℕ
on_core s M k = get_or (chosen s M) k idle

unfoldable pub runs : TaskSet → Machine → ℕ → Bool
runs s M i = member i (chosen s M)

-- a job with this much left and the jobs behind it; at 0 the job is finished
abbrev pub left_of : ℕ → ℕ → List Job → List Job
left_of r zero q = q
left_of r (suc w) q = job r (suc w) ∷ q

-- "each tick it runs takes 1 off, and at 0 it is finished"
unfoldable pub served : List Job → List Job
served [] = []
served (job r w ∷ q) = left_of r (pred w) q

-- the loops at which `run` holds run; "Then the clock rises by 1."
unfoldable pub advanced : (ℕ → Bool) → Machine → Machine
advanced run M =
    record {
      clock = suc M.clock;
      lane = λ i. record { last = (M.lane i).last; queue = cond (run i) (served (M.lane i).queue) (M.lane i).queue };
    }

unfoldable pub tick : TaskSet → Machine → Machine
tick s M = advanced (runs s M) M

-- finish tick t minus release tick r where nothing is left, 0 where something is
abbrev pub elapsed : ℕ → ℕ → ℕ → ℕ
elapsed t r zero = t - r
elapsed t r (suc w) = 0

-- the same of a queue's head after its tick
unfoldable pub response : ℕ → List Job → ℕ
response t [] = 0
response t (job r w ∷ q) = elapsed t r (pred w)

-- "A job finishes at the clock value after its last tick. The answer says … which loops finished, with finish tick minus release tick (0 for a
-- loop that didn't)."
unfoldable pub responses : (ℕ → Bool) → Machine → ℕ → ℕ
responses run M i = cond (run i) (response (suc M.clock) (M.lane i).queue) 0
