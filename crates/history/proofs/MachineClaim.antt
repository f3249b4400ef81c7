-- Demand 3 of the abstract machine: its claim holds of every log.
--     machine_in_time       every taken entry finishes within its bound
--     machine_claim         the claim, whole
use Rattle.std.specs.Prelude.{ℕ, suc, ◌+◌, ◌≤◌, ◌<◌, true, false, ◌≡◌, length}
use Rattle.std.proofs.Common.{true≢false, sym, ap, subst, ◌∙◌, arith}
use mathlib.Core.List.{List, [], ◌∷◌, ◌++◌}
use Rattle.tasks.specs.TaskSet.{TaskSet, bound}
use Rattle.tasks.specs.Limits.{Limits, Enough, Bounded}
use Rattle.machine.specs.Machine.{Job, pending, waiting}
use Rattle.history.specs.Engine.{Call, ask, state, verdict, demanded, Ends}
use Rattle.history.specs.Log.{Entry, tick_at, loop_at, demand_at, until, calls, Taken, owed, whole, InTime, Claim}
use Rattle.history.proofs.LogLaws.{clock-entry, taken_call, demanded-calls, taken-whole, claim-of}
use Rattle.history.specs.OnMachine.{quiet_of, machine_engine}
use Rattle.history.proofs.Balance.{answer_allowed}
use Rattle.history.specs.Life.{Upto, Life}
use Rattle.history.proofs.Life.{life}
use Rattle.history.proofs.Refusals.{machine_takes}
use Rattle.history.proofs.Drain.{quiet-idle, whole-quiet}

no_job_lem : (r k : ℕ) (q : List Job) → pending q ≡ false → Upto r k q → ⊥
no_job_lem r k [] e u = u
no_job_lem r k (j ∷ q) e u = true≢false e

module _ (s : TaskSet) (x : ℕ → ℕ) (L : Limits s) (C : Enough s x) (B : Bounded s x) (l : List Entry) where
  -- where nothing is pending a release has ended
  has_ended :
      (h : List Call) (i d r : ℕ) → i < s.count → quiet_of s (state (machine_engine s) h) ≡ true → Life s x h i d r
      → (f : ℕ) × Ends (machine_engine s) h i d f × (f ≤ r + bound s x i)
  unfolding waiting
  has_ended h i d r less q (Life.pending k u n) =
      absurd (no_job_lem r (suc k) ((state (machine_engine s) h).lane i).queue (quiet-idle s (state (machine_engine s) h) q i less) u)
  has_ended h i d r less q (Life.ended f e b) = (f, e, b)

  pub machine_in_time : (e : ℕ) → e < length l → Taken (machine_engine s) l e → InTime (machine_engine s) s x l e
  unfolding verdict
  machine_in_time e h t = (end.0, (t, end.1), end.2)
    where
      before : List Call
      before = until (tick_at l e) (calls l e)

      asked : List Call
      asked = ask (loop_at l e) (demand_at l e) ∷ before

      in_table : loop_at l e < s.count
      in_table = (answer_allowed s (state (machine_engine s) before) (loop_at l e) (demand_at l e) (taken_call l (machine_engine s) e t).1).0.in_table

      after : (g : List Call) × (whole (machine_engine s) l ≡ g ++ asked)
      after = taken-whole l (machine_engine s) e h t

      demands : demanded (machine_engine s) asked (loop_at l e) ≡ owed (machine_engine s) l (loop_at l e) (suc e)
      demands =
          ap (λ c. demanded (machine_engine s) c (loop_at l e)) (sym (taken_call l (machine_engine s) e t).2)
          ∙ demanded-calls l (machine_engine s) (suc e) (loop_at l e)

      lives : Life s x (whole (machine_engine s) l) (loop_at l e) (owed (machine_engine s) l (loop_at l e) (suc e)) (tick_at l e)
      lives =
          rw (after.1, sym demands)
          (subst (λ r. Life s x (after.0 ++ asked) (loop_at l e) (demanded (machine_engine s) asked (loop_at l e)) r)
          (clock-entry l e (taken_call l (machine_engine s) e t).0)
          (life s x L C after.0 before (loop_at l e) (demand_at l e) (taken_call l (machine_engine s) e t).1))

      end :
          (f : ℕ) × Ends (machine_engine s) (whole (machine_engine s) l) (loop_at l e) (owed (machine_engine s) l (loop_at l e) (suc e)) f
          × (f ≤ tick_at l e + bound s x (loop_at l e))
      end =
          has_ended (whole (machine_engine s) l) (loop_at l e) _ (tick_at l e) in_table (whole-quiet s l (omega (arith, L.cores-low))) lives

  pub machine_claim : Claim (machine_engine s) s x l
  machine_claim = claim-of l (machine_engine s) s x (λ e h. machine_takes s x L C B l e) machine_in_time
