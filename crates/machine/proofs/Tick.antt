-- A tick keeps the invariant, whoever runs in it under the three facts of a choice.
--     ticked-timely     chains and heads in time after a tick, where the heads that are left out are in time still
--     tick-kept         the invariant after a tick
use Rattle.std.specs.Prelude.{ℕ, suc, ◌+◌, ◌*◌, ◌≤◌, ◌<◌, Bool, ◌&&◌, ◌≡◌, List, leb}
use Rattle.std.proofs.Math.Bool.{true, false, cond}
use Rattle.std.proofs.Math.Path.{refl}
use Rattle.std.proofs.Math.Option.{Option}
use Rattle.std.proofs.Common.{le_trans, mul-le-mul_left, leb-true, leb-false}
use native.Mathlib.Omega.{arith}
use Rattle.laws.specs.Sum.{count}
use Rattle.laws.specs.SumLaws.{sum_mono, sum_add, sum_mul, sum_in, count_mono}
use Rattle.tasks.specs.TaskSet.{TaskSet, hyperperiod, share, weight, surplus, amount}
use Rattle.machine.specs.Machine.{Job, Machine, served, advanced}
use Rattle.machine.specs.Reached.{EarliestFirst}
use Rattle.machine.specs.Queue.{next, Chain, InTime}
use Rattle.machine.proofs.Queue.{next-later, next-clock, chain-later, chain-served, in_time_served}
use Rattle.machine.proofs.Owed.{served-owed, early-served, line-later, calm}
use Rattle.machine.specs.Choice.{early_at}
use Rattle.machine.proofs.Choice.{busy_run, calm_run}
use Rattle.machine.specs.Invariant.{Setting, next_of, potential_of, potential, Chained, Timely, Invariant}
use Rattle.machine.proofs.Invariant.{overdue, spread}
use Rattle.machine.proofs.Due.{left_in_time}

chain-ticked :
    (T C t : ℕ) (last : Option ℕ) (b : Bool) (q : List Job) → Chain T C (next T t last) 0 q
    → Chain T C (next T (suc t) last) 0 (cond b (served q) q)
chain-ticked T C t last true q c =
    chain-served T C (next T (suc t) last) 0 q (chain-later T C (next T t last) (next T (suc t) last) 0 q (next-later T t last) c)
chain-ticked T C t last false q c = chain-later T C (next T t last) (next T (suc t) last) 0 q (next-later T t last) c

module _ (s : TaskSet) (b : ℕ → ℕ) (M : Machine) (I : Timely s b M) (run : ℕ → Bool) where
  ticked-chain : (j : ℕ) → j < s.count → Chained s (advanced run M) j
  unfolding next_of advanced
  ticked-chain j h =
      chain-ticked (s.task j).separation (s.task j).budget M.clock (M.lane j).last (run j) (M.lane j).queue (I.chain j h)

  pub ticked-timely :
      ((j : ℕ) → j < s.count → (s.task j).budget ≤ (s.task j).separation)
      → ((j : ℕ) → j < s.count → run j ≡ false → InTime (suc M.clock) (b j) (M.lane j).queue)
      → Timely s b (advanced run M)
  unfolding advanced
  ticked-timely small left = record { chain = ticked-chain; in_time = λ j h. go j h (run j) refl }
    where
      go :
          (j : ℕ) → j < s.count → (r : Bool) → run j ≡ r → InTime (suc M.clock) (b j) (cond r (served (M.lane j).queue) (M.lane j).queue)
      go j h true e =
          in_time_served (s.task j).separation (s.task j).budget (b j) (next_of s M j) (small j h) M.clock 0 (M.lane j).queue
          (I.chain j h) (I.in_time j h)
      go j h false e = left j h e

module _ (s : TaskSet) (x : ℕ → ℕ) (S : Setting s x) (M : Machine) (I : Invariant s x M) (run : ℕ → Bool) where
  -- a loop that runs with an early head owes H less
  ticked-less :
      (y j : ℕ) → j < s.count
      → potential_of s (advanced run M) y j + hyperperiod s * cond (run j && early_at s M y j) 1 0 ≤ potential_of s M y j
  unfolding potential_of next_of advanced early_at
  ticked-less y j h =
      omega (
        arith,
        served-owed (s.task j).separation (s.task j).budget (hyperperiod s) (s.task j).offset y (next_of s M j) 0 (run j)
            (M.lane j).queue (I.timely.chain j h),
        line-later (share s j) (s.task j).separation (s.task j).offset y (next_of s M j) (next_of s (advanced run M) j)
            (next-later (s.task j).separation M.clock (M.lane j).last),
      )

  ticked-early : (y j : ℕ) → j < s.count → early_at s (advanced run M) y j ≡ true → early_at s M y j ≡ true
  unfolding advanced early_at
  ticked-early y j h =
      early-served (s.task j).separation (s.task j).budget (s.task j).offset y (next_of s M j) 0 (run j) (M.lane j).queue
      (I.timely.chain j h)

  ticked-sum :
      (y : ℕ) → potential s (advanced run M) y + hyperperiod s * count (λ j. run j && early_at s M y j) s.count ≤ potential s M y
  unfolding potential count
  ticked-sum y =
      omega (
        arith,
        sum_mono (λ j. potential_of s (advanced run M) y j + hyperperiod s * cond (run j && early_at s M y j) 1 0) (potential_of s M y)
            s.count (ticked-less y),
        sum_add (potential_of s (advanced run M) y) (λ j. hyperperiod s * cond (run j && early_at s M y j) 1 0) s.count,
        sum_mul (hyperperiod s) (λ j. cond (run j && early_at s M y j) 1 0) s.count,
      )

  module _ (E : EarliestFirst s M run) where
    -- busy: m loops with an early head run
    busy-sum :
        (y : ℕ) → s.cores ≤ count (early_at s M y) s.count → potential s (advanced run M) y + s.cores * hyperperiod s ≤ potential s M y
    busy-sum y busy = omega (arith, ticked-sum y, mul-le-mul_left (hyperperiod s) (busy_run s M run E y busy))

    -- not busy: every loop with an early head runs
    calm-loop :
        (d j : ℕ) → count (early_at s M (suc M.clock + d)) s.count < s.cores → j < s.count
        → potential_of s (advanced run M) (suc M.clock + d) j
        ≤ (d * share s j + surplus s j) + cond (early_at s M (suc M.clock + d) j) (weight s x j) 0
    unfolding potential_of next_of advanced early_at surplus weight
    calm-loop d j few h =
        omega (
          arith,
          calm (s.task j).separation (s.task j).budget (s.task j).offset (share s j) (hyperperiod s) (S.share_exact j h)
              (S.offset-high j h) (x j) M.clock d (next_of s (advanced run M) j) (S.share_le j h)
              (next-clock (s.task j).separation (suc M.clock) (M.lane j).last) 0 (run j) (M.lane j).queue
              (chain-later (s.task j).separation (s.task j).budget (next_of s M j) (next_of s (advanced run M) j) 0 (M.lane j).queue
              (next-later (s.task j).separation M.clock (M.lane j).last) (I.timely.chain j h))
              (I.timely.in_time j h) (calm_run s M run E (suc M.clock + d) few j h),
        )

    calm-sum :
        (d : ℕ) → count (early_at s M (suc M.clock + d)) s.count < s.cores
        → potential s (advanced run M) (suc M.clock + d) ≤ amount s x + s.cores * hyperperiod s * d
    unfolding potential sum_in
    calm-sum d few =
        omega (
          arith,
          sum_mono (potential_of s (advanced run M) (suc M.clock + d))
              (λ j. (d * share s j + surplus s j) + cond (early_at s M (suc M.clock + d) j) (weight s x j) 0) s.count
              (λ j h. calm-loop d j few h),
          sum_add (λ j. d * share s j + surplus s j) (λ j. cond (early_at s M (suc M.clock + d) j) (weight s x j) 0) s.count,
          spread s x S d,
          S.amount_best (early_at s M (suc M.clock + d)) few,
        )

    ticked-ahead : (d : ℕ) → potential s (advanced run M) (suc M.clock + d) ≤ amount s x + s.cores * hyperperiod s * d
    ticked-ahead d = go (leb s.cores (count (early_at s M (suc M.clock + d)) s.count)) refl
      where
        one_more : M.clock + suc d ≡ suc M.clock + d
        one_more = omega arith

        go :
            (b : Bool) → leb s.cores (count (early_at s M (suc M.clock + d)) s.count) ≡ b
            → potential s (advanced run M) (suc M.clock + d) ≤ amount s x + s.cores * hyperperiod s * d
        go true e = omega (arith, busy-sum (suc M.clock + d) (leb-true _ _ e), rw one_more at (I.ahead (suc d)))
        go false e = calm-sum d (leb-false _ _ e)

    ticked-behind :
        (y d : ℕ) → y + suc d ≡ suc M.clock → s.cores ≤ count (early_at s (advanced run M) y) s.count
        → potential s (advanced run M) y + s.cores * hyperperiod s * suc d ≤ amount s x
    ticked-behind y d e busy = omega (arith, busy-sum y before, overdue s x M I y d (omega arith) before)
      where
        before : s.cores ≤ count (early_at s M y) s.count
        before = le_trans busy (count_mono (early_at s (advanced run M) y) (early_at s M y) s.count (ticked-early y))

    pub tick-kept : Invariant s x (advanced run M)
    unfolding advanced
    tick-kept =
        record {
          timely = ticked-timely s _ M I.timely run S.budget-high (left_in_time s x S M I run E);
          ahead = ticked-ahead;
          behind = ticked-behind;
        }
