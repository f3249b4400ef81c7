-- What a log run writes of each entry, and its two counts; and that it says just what *taken* and *finishes* say.
--     Report, report              finished with a tick, or refused with a number
--     finish_tick                  the first tick by which the loop was named often enough
--     last_taken, met              the tick of the last taken entry of a loop; the first of 17, 20, 21 and 22 that an entry meets
--     taken_count, refused_count    how many entries are taken, how many refused
use Rattle.std.specs.Prelude.{ℕ, zero, suc, cond, not, ◌&&◌, List, [], ◌∷◌, length, leb, eqb}
use Rattle.std.proofs.Math.Option.{Option, none, some}
use Rattle.laws.specs.First.{first}
use Rattle.laws.specs.Sum.{count}
use Rattle.tasks.specs.TaskSet.{TaskSet}
use Rattle.tasks.specs.Tests.{refuse, first_met}
use Rattle.machine.specs.Machine.{within}
use Rattle.machine.specs.Admission.{unknown, bad_demand}
use Rattle.history.specs.Engine.{Outcome, taken, refused, is_taken, outcome_of, Engine, clock, named_ticks}
use Rattle.history.specs.Log.{Entry, tick_at, loop_at, demand_at, back, outcome, owed, whole}

-- "kind 1 and finish tick, or kind 2 and refusal number"
pub data Report : Type 0 where
  finished : ℕ → Report
  refusal : ℕ → Report

abbrev pub report_of : Outcome → ℕ → Report
report_of taken f = finished f
report_of (refused k) f = refusal k

module _ (E : Engine) (l : List Entry) where
  -- the tick of the last taken one of loop i among the first e entries, if any
  unfoldable pub last_taken : ℕ → ℕ → Option ℕ
  last_taken i zero = none
  last_taken i (suc e) = cond (eqb i (loop_at l e) && is_taken (outcome E l e)) (some (tick_at l e)) (last_taken i e)

  unfoldable pub finish_tick : ℕ → ℕ
  finish_tick e = first (λ f. leb (owed E l (loop_at l e) (suc e)) (named_ticks E (whole E l) (loop_at l e) f)) (suc (clock (whole E l)))

  unfoldable pub report : ℕ → Report
  report e = report_of (outcome E l e) (finish_tick e)

  -- "how many were taken and how many refused"
  unfoldable pub taken_count : ℕ
  taken_count = count (λ e. is_taken (outcome E l e)) (length l)

  unfoldable pub refused_count : ℕ
  refused_count = count (λ e. not (is_taken (outcome E l e))) (length l)

-- the number of an entry: the first of 17, 20, 21 and 22 that it meets, told by the log and by which entries before it were taken
unfoldable pub met : Engine → TaskSet → List Entry → ℕ → Outcome
met E s l e =
    outcome_of
    (first_met
    (refuse 17 (back l e)
    ∷ refuse 20 (unknown s (loop_at l e))
    ∷ refuse 21 (bad_demand (s.task (loop_at l e)).budget (demand_at l e))
    ∷ refuse 22 (within (s.task (loop_at l e)).separation (tick_at l e) (last_taken E l (loop_at l e) e))
    ∷ []))
