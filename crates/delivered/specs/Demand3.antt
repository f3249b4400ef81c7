-- Demand 3, whole: of every accepted table's bytes and every log's bytes past 14 and 15. What a reader must believe is here, in Delivered.antt, in the
-- files Engine, Log and Report of history/specs, in logs/specs/LogBytes.antt, and in the definitions that the contracts of `open`, `release` and `step`
-- equal.
--     run_on t           the engine opened on the plan of the table t
--     Reports            what a log run writes of the entries is what *taken* and *finishes* say
use Rattle.std.specs.Prelude.{ℕ, ◌<◌, ◌≡◌, ◌↔◌, List, length}
use Rattle.table.specs.Judged.{judged}
use Rattle.history.specs.Engine.{refused, Engine}
use Rattle.history.specs.Log.{Entry, outcome, Finishes}
use Rattle.history.specs.Report.{finished, refusal, report}
use Rattle.delivered.specs.Delivered.{engine_of}

-- "The engine is opened anew": on the plan that the judgement of the table hands back
abbrev pub run_on : List ℕ → Engine
run_on t = engine_of (judged t).plan

-- "Where the log run isn't refused, its 8-byte entries say just this"
pub record Reports (E : Engine) (l : List Entry) : Type 0 where
  pub kind_1 : (e f : ℕ) → e < length l → (report E l e ≡ finished f) ↔ Finishes E l e f
  pub kind_2 : (e k : ℕ) → e < length l → (report E l e ≡ refusal k) ↔ (outcome E l e ≡ refused k)
