-- The ceiling: 800,000 at every loop is compliant slack for every task set within the limits, so found slack is never above it.
--     level_amount          A of the same slack c at every loop. A counted loop has share × c ≤ H × c and there are m − 1; what is left of the
--                           weights and all surpluses is at most the sum of share × T, so at most 100,000 × m × H
--     level_high            so A of slack up to 1,600,000 is at most 12,000,000 × H
--     ceiling-compliant     and 100,000 × m × H is at most c × H where c is 800,000
use Prim.Native.Nat.{ℕ, suc, ◌+◌, ◌-◌, ◌*◌, ◌≤◌, ◌<◌}
use Rattle.std.specs.Prelude.{◌≡◌, Bool}
use Rattle.std.proofs.Common.{ap, mul-add}
use Rattle.std.proofs.Math.Bool.{true, false, cond}
use Rattle.std.proofs.Math.Nat.{mul-le-mul_left, mul-le-mul_right}
use native.Mathlib.Omega.{arith}
use Rattle.laws.specs.Sum.{sum, count}
use Rattle.laws.specs.SumLaws.{sum_in, sum_add, sum_mul, sum_mono}
use Rattle.laws.specs.Member.{member}
use Rattle.tasks.specs.TaskSet.{TaskSet, hyperperiod, share, weight, surplus, counted, amount, cover, Compliant, ceiling}
use Rattle.tasks.specs.Limits.{Limits}
use Rattle.tasks.proofs.ShareLaws.{timed, share_le}
use Rattle.tasks.proofs.AmountLaws.{counted-few, amount_is, amount_mono}

-- one loop of share u with T, Y: its weight at slack c where it is counted, and its surplus
part : (u c t y : ℕ) → y ≤ t → u * (c + y) + u * (t - y) ≡ u * c + u * t
part u c t y h = rw (← mul-add u (c + y) (t - y), ← mul-add u c t) (ap (λ z. u * z) (omega arith))

module _ (s : TaskSet) (L : Limits s) where
  loop-part :
      (c : ℕ) (b : Bool) (i : ℕ) → i < s.count
      → cond b (weight s (λ k. c) i) 0 + surplus s i ≤ hyperperiod s * c * cond b 1 0 + 100000 * share s i
  unfolding weight surplus
  loop-part c true i h =
      omega (
        arith,
        part (share s i) c (s.task i).separation (s.task i).offset (L.offset-high i h),
        mul-le-mul_right c (share_le s (timed L) i h),
        mul-le-mul_left (share s i) (L.separation-high i h),
      )
  loop-part c false i h =
      omega (
        arith,
        part (share s i) 0 (s.task i).separation (s.task i).offset (L.offset-high i h),
        mul-le-mul_left (share s i) (L.separation-high i h),
      )

  sum-part :
      (c : ℕ) (p : ℕ → Bool)
      → sum_in p (weight s (λ k. c)) s.count + sum (surplus s) s.count
      ≤ hyperperiod s * c * count p s.count + 100000 * sum (share s) s.count
  unfolding sum_in count
  sum-part c p =
      rw (
        ← sum_add,
        ← sum_mul (hyperperiod s * c) (λ i. cond (p i) 1 0),
        ← sum_mul 100000 (share s),
        ← sum_add,
      )
      (sum_mono _ _ s.count (λ i h. loop-part c (p i) i h))

  pub level_amount : (c : ℕ) → amount s (λ k. c) ≤ hyperperiod s * c * (s.cores - 1) + 100000 * (s.cores * hyperperiod s)
  level_amount c =
      let p : ℕ → Bool = λ i. member i (counted s (λ k. c)) in
      omega (
        arith,
        amount_is s (λ k. c),
        sum-part c p,
        mul-le-mul_left (hyperperiod s * c) (counted-few s (λ k. c)),
        L.shares_high,
      )

  pub level_high : (x : ℕ → ℕ) → ((i : ℕ) → i < s.count → x i ≤ 1600000) → amount s x ≤ hyperperiod s * 12000000
  level_high x h =
      let few : s.cores - 1 ≤ 7 = omega (arith, L.cores-high) in
      omega (
        arith,
        amount_mono s x (λ k. 1600000) h,
        level_amount 1600000,
        mul-le-mul_left (hyperperiod s * 1600000) few,
        mul-le-mul_right (hyperperiod s) L.cores-high,
      )

  pub ceiling-compliant : Compliant s (λ k. ceiling)
  unfolding Compliant cover
  ceiling-compliant k h =
      let more : suc (s.cores - 1) ≤ s.cores = omega (arith, L.cores-low) in
      omega (
        arith,
        level_amount ceiling,
        mul-le-mul_left (hyperperiod s * ceiling) more,
        mul-le-mul_right (hyperperiod s) L.cores-high,
      )
