-- Where a log run stands, and what a leap over some ticks needs and gives.
--     Standing             the plan, the log, the lent answer as it was, and, told by no array: how many entries were entered, the calls made
--                          for them, and the owners of the pending jobs
--     later x k O          where it stands k steps later, with the owners O
--     Frame x …            the numbers and arrays that a run only reads are the plan's and the log's
--     Ready x …            the arrays are those of where the run stands, the clock is its clock, and a leap up to `to` may be made
--     Reaches x …          the arrays are those of some steps later, with some owners
--     Turning x g gone …   in the midst of a leap: its last tick is made after the calls g, and of the loops that finish in it those in `gone` are
--                          noted
--     pending_in jobs       how many jobs are pending; Fewer: fewer after a leap, unless it came to its goal
--     Leapt, Advanced      what the code of a leap, and of the leaps up to a tick, gives
use Rattle.std.specs.Prelude.{ℕ, suc, ◌+◌, ◌-◌, ◌*◌, ◌≤◌, ◌<◌, min, Bool, not, ◌&&◌, ◌≡◌, List, ◌∷◌, length}
use Rattle.laws.specs.Sum.{sum}
use Rattle.tasks.specs.declared.Plan.{Plan}
use Rattle.tasks.specs.Answer.{Accepted}
use Rattle.tasks.specs.TaskSet.{row}
use Rattle.tasks.specs.Content.{task_of, content_of, tidy}
use Rattle.tasks.specs.Tests.{test_plan}
use Rattle.history.specs.Engine as history
use Rattle.history.specs.Engine.{Call, step, state}
use Rattle.history.specs.Log.{Entry, wait}
use Rattle.history.specs.OnMachine.{machine_engine}
use Rattle.logs.specs.LogBytes.{entries_in}
use Rattle.heads.specs.Order.{Heads}
use Rattle.running.specs.Running.{Arrays, owners_in, counts_in, Book, Running}
use Rattle.running.specs.BookLaws.{ended, owners_now, Stage}

pub record Standing : Type 0 where
  pub plan : Plan
  pub log : List Entry
  pub lent : List ℕ
  pub entered : ℕ
  pub made : List Call
  pub owners : ℕ → List ℕ

abbrev pub later : Standing → ℕ → (ℕ → List ℕ) → Standing
later x k O =
    record {
      plan = x.plan;
      log = x.log;
      lent = x.lent;
      entered = x.entered;
      made = wait k x.made;
      owners = O;
    }

abbrev pub Stands : Standing → Arrays → Type 0
Stands x W = Running x.plan x.log x.lent x.entered x.made x.owners W

pub record Frame (x : Standing) (bytes : List ℕ) (cores : ℕ) (offsets : List ℕ) : Type 0 where
  pub accepted : test_plan x.plan ≡ Accepted
  pub tidied : tidy x.plan ≡ x.plan
  pub cores_are : cores ≡ x.plan.cores
  pub offsets_are : (i : ℕ) → i < x.plan.tasks → row offsets i ≡ (task_of x.plan.task i).offset
  pub log_is : x.log ≡ entries_in bytes
  pub long : length bytes ≡ 2 + 9 * length x.log
  pub in_log : x.entered ≤ length x.log
  pub room : 8 * x.entered ≤ length x.lent

pub record Ready (x : Standing) (bytes : List ℕ) (cores : ℕ) (offsets : List ℕ) (clock to : ℕ) (W : Arrays) : Type 0 where
  pub frame : Frame x bytes cores offsets
  pub clock_is : clock ≡ history.clock x.made
  pub limit : to ≤ 4000000000
  pub stands : Stands x W

pub record Reaches (x : Standing) (k : ℕ) (W : Arrays) : Type 0 where
  pub owned_by : ℕ → List ℕ
  pub stands : Stands (later x k owned_by) W

pub record Turning (x : Standing) (g : List Call) (gone : ℕ → Bool) (now : ℕ) (W : Arrays) : Type 0 where
  -- the book before that tick
  pub answered : List ℕ
  pub before : Book x.plan x.log x.lent x.entered g x.owners answered
  pub now_is : now ≡ suc (history.clock g)
  pub limit : now ≤ 4000000000
  pub counts_are : W.jobs ≡ counts_in (owners_now x.owners gone)
  pub owners_are : W.owners ≡ owners_in (owners_now x.owners gone)
  pub heads_are :
      Heads (content_of x.plan).tasks (state (machine_engine (content_of x.plan).tasks) (step ∷ g))
      (λ j. ended (content_of x.plan).tasks g j && not (gone j)) W.key W.left W.heads
  pub stage : Stage x.plan x.log x.lent x.entered g x.owners gone W.out

-- ---- what the code gives

-- how many jobs are pending, by the loops' numbers of them
unfoldable pub pending_in : List ℕ → ℕ
pending_in jobs = sum (row jobs) 16

-- fewer are, unless the clock has come to `to`: a leap that stops before that finishes a job
abbrev pub Fewer : ℕ → ℕ → Arrays → Arrays → Type 0
Fewer to now W W' = pending_in W'.jobs + min 1 (to - now) ≤ pending_in W.jobs

abbrev pub Advanced : List ℕ → ℕ → List ℕ → ℕ → ℕ → Arrays → ℕ → Arrays → Type 0
Advanced bytes cores offsets clock to W now W' = (x : Standing) → Ready x bytes cores offsets clock to W → Reaches x (now - clock) W'

pub record Leapt (bytes : List ℕ) (cores : ℕ) (offsets : List ℕ) (clock to : ℕ) (W : Arrays) (now : ℕ) (W' : Arrays) : Type 0 where
  pub onward : clock < now
  pub within : now ≤ to
  pub fewer : Fewer to now W W'
  pub reaches : Advanced bytes cores offsets clock to W now W'
