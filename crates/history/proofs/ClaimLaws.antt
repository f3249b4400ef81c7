-- The claims written out in numbers of the table, and from the other side: what a claim has to say at least. A claim that is weakened does not
-- give them.
--     promised          Y + x + C, or C where loops are no more than cores
--     in_time_sum       an entry is in time exactly if it finishes at most so many ticks after its tick
--     Conditions        the four conditions of an entry, with its distance to every taken one of its loop before it
--     takes_conditions  it is taken exactly under them
--     history_sum       a release that has ended in a history did so at most so many ticks later
--     history_ends      and once so many ticks have passed it has ended
--     history_room      a refused release has another number than 23
--     history_log       so an entry of a log finishes within them if the claim of histories reaches as far as the log's run
use Rattle.std.specs.Prelude.{ℕ, suc, ◌+◌, ◌≤◌, ◌<◌, ◌≡◌, ◌↔◌, ◌≢◌, List, ◌∷◌, ◌++◌, length}
use Rattle.std.proofs.Common.{sym, ap, subst, ◌∙◌, arith}
use Rattle.tasks.specs.TaskSet.{TaskSet, bound}
use Rattle.history.specs.Engine.{taken, refused, Engine, Call, ask, clock, verdict, demanded, Ends, HistoryClaim}
use Rattle.history.specs.Log.{Entry, tick_at, loop_at, demand_at, until, calls, Taken, owed, whole, Finishes, Admissible, InTime, Claim}
use Rattle.history.proofs.LogLaws.{clock-entry, taken_call, demanded-calls, taken-whole, taken-apart}
use Rattle.history.specs.ClaimLaws.{Conditions, promised}

module _ (E : Engine) (s : TaskSet) (x : ℕ → ℕ) where
  module _ (l : List Entry) where
    pub in_time_sum :
        (e : ℕ)
        → InTime E s x l e
        ↔ ((f : ℕ)
        × Finishes E l e f
        × (f ≤ tick_at l e + promised s x (loop_at l e)))
    unfolding bound
    in_time_sum e = (λ T. (T.0, T.1, omega (arith, T.2)), λ T. (T.0, T.1, omega (arith, T.2)))

    pub takes_conditions : Claim E s x l → (e : ℕ) → e < length l → Taken E l e ↔ Conditions E s l e
    takes_conditions C e h = (λ t. fits ((C.takes e h).0 t), λ D. (C.takes e h).1 (meets D))
      where
        fits : Admissible E s l e → Conditions E s l e
        fits A =
            record {
              onward = A.onward;
              in_table = A.in_table;
              demand-low = A.demand-low;
              demand-high = A.demand-high;
              apart = λ j less same t. taken-apart l E s C.takes j e less h A t same;
            }

        meets : Conditions E s l e → Admissible E s l e
        meets D =
            record {
              onward = D.onward;
              in_table = D.in_table;
              apart = λ j L. D.apart j L.earlier L.same-loop L.was_taken;
              demand-low = D.demand-low;
              demand-high = D.demand-high;
            }

  module _ (B : ℕ) (H : HistoryClaim E s x B) where
    pub history_sum :
        (g h : List Call) (i c f : ℕ) → clock (g ++ ask i c ∷ h) < B → verdict E h i c ≡ taken
        → Ends E (g ++ ask i c ∷ h) i (demanded E (ask i c ∷ h) i) f → f ≤ clock h + promised s x i
    unfolding bound
    history_sum g h i c f low t e = omega (arith, H.in_time g h i c f low t e)

    pub history_ends :
        (g h : List Call) (i c : ℕ) → clock (g ++ ask i c ∷ h) < B → verdict E h i c ≡ taken
        → clock h + promised s x i ≤ clock (g ++ ask i c ∷ h)
        → (f : ℕ) × Ends E (g ++ ask i c ∷ h) i (demanded E (ask i c ∷ h) i) f
    unfolding bound
    history_ends g h i c low t late = H.ends g h i c low t (omega arith)

    -- "Crying 23 with a place free"
    pub history_room : (h : List Call) (i c k : ℕ) → clock h < B → verdict E h i c ≡ refused k → k ≢ 23
    history_room h i c k low r e = H.never_23 h i c low (r ∙ ap refused e)

    -- a log's run is a history
    pub history_log :
        (l : List Entry) → clock (whole E l) < B → (e f : ℕ) → e < length l → Finishes E l e f
        → f ≤ tick_at l e + promised s x (loop_at l e)
    history_log l low e f h F =
        let after = taken-whole l E e h F.0 in
        let call = taken_call l E e F.0 in
        let before : List Call = until (tick_at l e) (calls l e) in
        let demands : demanded E (ask (loop_at l e) (demand_at l e) ∷ before) (loop_at l e) ≡ owed E l (loop_at l e) (suc e) =
        ap (λ c. demanded E c (loop_at l e)) (sym call.2) ∙ demanded-calls l E (suc e) (loop_at l e) in
        subst
        (λ t. f ≤ t + promised s x (loop_at l e))
        (clock-entry l e call.0)
        (history_sum after.0 before (loop_at l e) (demand_at l e) f (rw after.1 at low) call.1
        (rw demands (rw after.1 at F.1)))
