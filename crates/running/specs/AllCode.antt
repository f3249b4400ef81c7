-- All loops that finish with a leap, one after the other, and the leap, as contracts.
--     Overs x g …            the loops in the first f places of `done` finish in the tick after g, each once
--     AllFinishing, AllFinished      what the code that notes them needs and gives
use Rattle.std.specs.Prelude.{ℕ, ◌<◌, true, false, ◌≡◌, List}
use Rattle.tasks.specs.TaskSet.{row}
use Rattle.history.specs.Engine.{Call}
use Rattle.running.specs.Running.{Arrays, tasks_on}
use Rattle.running.specs.BookLaws.{ended}
use Rattle.running.specs.Leap.{Standing, Frame, Turning}
use Rattle.running.specs.LeapLaws.{gone_to}

pub record Overs (x : Standing) (g : List Call) (cores : ℕ) (bytes offsets done : List ℕ) (f : ℕ) : Type 0 where
  pub frame : Frame x bytes cores offsets
  pub over : (a : ℕ) → a < f → ended (tasks_on x.plan) g (row done a) ≡ true
  pub new : (a : ℕ) → a < f → gone_to done a (row done a) ≡ false

pub record AllFinishing (done : List ℕ) (f now : ℕ) (bytes offsets : List ℕ) (W : Arrays) : Type 0 where
  pub standing : Standing
  pub made : List Call
  pub cores : ℕ
  pub overs : Overs standing made cores bytes offsets done f
  pub turning : Turning standing made (λ j. false) now W

-- the first a are noted
abbrev pub AllFinished : List ℕ → ℕ → ℕ → List ℕ → List ℕ → Arrays → ℕ → Arrays → Type 0
AllFinished done f now bytes offsets W a W' =
    (P : AllFinishing done f now bytes offsets W) → Turning P.standing P.made (gone_to done a) now W'
