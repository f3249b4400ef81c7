-- The finish of a loop's job, as a contract.
--     Over x g gone i        loop i finishes in the tick after g, and is not noted yet
--     Finishing, Finished    what the code needs and gives
use Rattle.std.specs.Prelude.{ℕ, ◌+◌, ◌-◌, ◌*◌, ◌≤◌, ◌<◌, Bool, true, false, ◌≡◌, ◌≢◌, List, length, set}
use Rattle.std.proofs.lemmas.List.Edits.{sets}
use Rattle.tasks.specs.TaskSet.{row}
use Rattle.service.specs.Serve.{moved}
use Rattle.choice.specs.Key.{head_key}
use Rattle.history.specs.Engine.{Call}
use Rattle.history.specs.Report.{finished}
use Rattle.logs.specs.declared.read.Release.{Release}
use Rattle.logs.specs.LogStages.{Releases}
use Rattle.logs.specs.LogBytes.{report_bytes}
use Rattle.heads.specs.Order.{Inserted}
use Rattle.running.specs.Running.{Arrays, arrays, tasks_on}
use Rattle.running.specs.BookLaws.{ended, and_one}
use Rattle.running.specs.Leap.{Standing, Frame, Turning}
use Rattle.running.specs.FinishLaws.{finish-room, finish-low, finish-none, finish-long, finish-place, finish-more}

pub record Over (x : Standing) (g : List Call) (gone : ℕ → Bool) (cores i now : ℕ) (bytes offsets : List ℕ) (W : Arrays) : Type 0 where
  pub frame : Frame x bytes cores offsets
  pub turning : Turning x g gone now W
  pub over : ended (tasks_on x.plan) g i ≡ true
  pub new : gone i ≡ false

pub record Finishing (i now : ℕ) (bytes offsets : List ℕ) (W : Arrays) : Type 0 where
  pub standing : Standing
  pub made : List Call
  pub gone : ℕ → Bool
  pub cores : ℕ
  pub over : Over standing made gone cores i now bytes offsets W

abbrev pub Finished : ℕ → ℕ → List ℕ → List ℕ → Arrays → Arrays → Type 0
Finished i now bytes offsets W W' = (P : Finishing i now bytes offsets W) → Turning P.standing P.made (and_one P.gone i) now W'

module _ {i now : ℕ} {bytes offsets : List ℕ} {W : Arrays} (P : Finishing i now bytes offsets W) where
  pub finishing-room : 8 * row W.owners (16 * i) + 8 ≤ length W.out
  finishing-room = let X = P.over in finish-room X.frame X.turning X.over X.new

  pub finishing-low : (i < 16) × (1 ≤ row W.jobs i)
  finishing-low = let X = P.over in finish-low X.frame X.turning X.over X.new

  pub finishing-rises : (a b : ℕ) → a < b → b < W.heads → row W.key a < row W.key b
  finishing-rises = P.over.turning.heads_are.rises

module _ {i now : ℕ} {bytes offsets : List ℕ} {W : Arrays} {jobs' owners' out' : List ℕ} (jq : jobs' ≡ set W.jobs i (row W.jobs i - 1))
    (oq : owners' ≡ moved i W.owners) (uq : out' ≡ sets W.out (8 * row W.owners (16 * i)) (report_bytes (finished now))) where
  pub finished-none : row W.jobs i - 1 ≡ 0 → Finished i now bytes offsets W (arrays jobs' owners' W.key W.left W.heads out')
  finished-none z P = let X = P.over in finish-none X.frame X.turning X.over X.new jq oq uq z

  module _ (more : row W.jobs i - 1 ≢ 0) where
    pub finishing-next : Finishing i now bytes offsets W → (2 + 9 * row owners' (16 * i) + 9 ≤ length bytes) × (W.heads < 16)
    finishing-next P =
        let X = P.over in (
          finish-long X.frame X.turning X.over X.new jq oq uq more,
          finish-place X.frame X.turning X.over X.new jq oq uq more,
        )

    pub finished-more :
        {r : Release} → Releases bytes (row owners' (16 * i)) r → {key' left' : List ℕ}
        → Inserted W.key W.left W.heads (head_key r.tick (row offsets i) i) r.demand key' left'
        → Finished i now bytes offsets W (arrays jobs' owners' key' left' (W.heads + 1) out')
    finished-more R I P = let X = P.over in finish-more X.frame X.turning X.over X.new jq oq uq more R I
