-- The bound theorem: every machine that is reached from an opening, on a task set within the limits and with compliant slack where loops are more
-- than cores, is on time.
--     setting               the limits and compliant slack give all that is used of them
--     reached-kept          where loops are more than cores, every machine that is reached has the invariant
--     reached-timely        on any task set, its chains and its heads in time for the bound
--     on_time               a machine that has these is on time
--     bound_theorem         the two together
--     never_full            23 is never met where 22 isn't
--     reached-holds         no loop ever holds more than 16 jobs
use Prim.Native.Nat.{ℕ, zero, suc, ◌≤◌, ◌<◌}
use Rattle.std.specs.Prelude.{Bool, cond, ◌≡◌, refl}
use Rattle.std.proofs.Math.Bool.{true, false}
use Rattle.std.proofs.Math.Path.{fun_ext}
use mathlib.Core.List.{List, [], ◌∷◌}
use Rattle.std.proofs.Math.Nat.{le_trans, le-suc, le_refl}
use native.Mathlib.Omega.{arith}
use Rattle.std.proofs.Math.ListN.{length, length-append}
use borrow.Author.Tests.{lt-leb, leb-true}
use Rattle.tasks.specs.TaskSet.{TaskSet, Compliant, core_for_each, bound}
use Rattle.tasks.specs.Limits.{Limits, Enough, Bounded}
use Rattle.tasks.proofs.ShareLaws.{timed, hyperperiod-low, share_exact, share_le}
use Rattle.tasks.proofs.AmountLaws.{amount_best}
use Rattle.tasks.specs.BoundLaws.{bound-each, bound-more}
use Rattle.machine.specs.Machine.{Job, job, Machine, opened, too_soon, full, joined, served, response, responses, advanced}
use Rattle.machine.specs.Reached.{Reached, opening, release, ticked, OnTime}
use Rattle.machine.proofs.Queue.{next-free, all_in_time, in_time_response, in_time_room}
use Rattle.machine.specs.Invariant.{Setting, next_of, Timely, Invariant}
use Rattle.machine.proofs.Invariant.{opening-kept}
use Rattle.machine.proofs.Release.{each, release-kept}
use Rattle.machine.proofs.Tick.{tick-kept}
use Rattle.machine.proofs.OwnCore.{own_core_kept}

pub setting : (s : TaskSet) (x : ℕ → ℕ) → Limits s → Compliant s x → Setting s x
setting s x L c =
    record {
      cores-low = omega (arith, L.cores-low);
      period_low = hyperperiod-low s;
      budget-high = L.budget-high;
      offset-high = L.offset-high;
      share_exact = share_exact s (timed L);
      share_le = share_le s (timed L);
      shares_high = L.shares_high;
      amount_best = λ p few. amount_best s x p (omega arith);
      compliant = c;
    }

pub reached-kept : (s : TaskSet) (x : ℕ → ℕ) → Setting s x → {M : Machine} → Reached s M → Invariant s x M
reached-kept s x S opening = opening-kept s x S
reached-kept s x S (release {M = M} i c a r) = release-kept s x S M (reached-kept s x S r) i c a
reached-kept s x S (ticked {M = M} run e r) = tick-kept s x S M (reached-kept s x S r) run e

pub reached-timely : (s : TaskSet) (x : ℕ → ℕ) → Limits s → Enough s x → {M : Machine} → Reached s M → Timely s (bound s x) M
reached-timely s x L e {M} r = go (core_for_each s.cores s.count) refl
  where
    go : (b : Bool) → core_for_each s.cores s.count ≡ b → Timely s (bound s x) M
    go true each = rw (fun_ext (bound-each s x each)) (own_core_kept s (leb-true _ _ each) L.budget-high r)
    go false more = rw (fun_ext (bound-more s x more)) (reached-kept s x (setting s x L (e more)) r).timely

pub on_time : (s : TaskSet) (x : ℕ → ℕ) → Limits s → (M : Machine) → Timely s (bound s x) M → OnTime s x M
unfolding responses too_soon next_of Bounded
on_time s x L M I =
    record {
      pending = λ i h.
          all_in_time (s.task i).separation (s.task i).budget _ (next_of s M i) (L.budget-high i h) M.clock 0 (M.lane i).queue
          (I.chain i h) (I.in_time i h);
      finished = λ run i h. ran (run i) i h;
      room = λ B i h free.
          in_time_room (s.task i).separation (s.task i).budget _ M.clock (L.budget-high i h) 0 (M.lane i).queue (B i h)
          (rw (next-free (s.task i).separation M.clock (M.lane i).last free) at (I.chain i h)) (I.in_time i h);
    }
  where
    ran : (b : Bool) (i : ℕ) → i < s.count → cond b (response (suc M.clock) (M.lane i).queue) 0 ≤ bound s x i
    ran true i h =
        in_time_response (s.task i).separation (s.task i).budget _ (next_of s M i) (L.budget-high i h) M.clock 0 (M.lane i).queue
        (I.chain i h) (I.in_time i h)
    ran false i h = omega arith

pub bound_theorem : (s : TaskSet) (x : ℕ → ℕ) → Limits s → Enough s x → (M : Machine) → Reached s M → OnTime s x M
bound_theorem s x L e M r = on_time s x L M (reached-timely s x L e r)

module _ (s : TaskSet) (x : ℕ → ℕ) (L : Limits s) (C : Enough s x) (B : Bounded s x) where
  pub never_full : (M : Machine) → Reached s M → (i : ℕ) → i < s.count → too_soon s M i ≡ false → full M i ≡ false
  unfolding full
  never_full M r i h free = lt-leb 16 (length (M.lane i).queue) ((bound_theorem s x L C M r).room B i h free)

  shorter : (b : Bool) (q : List Job) → length (cond b (served q) q) ≤ length q
  unfolding served
  shorter false q = le_refl _
  shorter true [] = le_refl _
  shorter true (job a zero ∷ q) = le-suc _
  shorter true (job a (suc zero) ∷ q) = le-suc _
  shorter true (job a (suc (suc w)) ∷ q) = le_refl _

  pub reached-holds : {M : Machine} → Reached s M → (i : ℕ) → i < s.count → length (M.lane i).queue ≤ 16
  unfolding opened advanced joined
  reached-holds opening i h = omega arith
  reached-holds (release {M = M} k c a r) i h =
      each s.count M k c (λ j l. length l.queue ≤ 16) (λ j l. reached-holds r j l)
      (rw length-append (omega (arith, (bound_theorem s x L C M r).room B k a.in_table a.apart))) i h
  reached-holds (ticked {M = M} run e r) i h = le_trans (shorter (run i) (M.lane i).queue) (reached-holds r i h)
