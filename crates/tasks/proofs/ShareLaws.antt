-- Shares, weights and surpluses, with the ceilings that keep the code's sums in 64 bits.
--     timed                    a task set within the limits is Timed
--     hyperperiod-low          H is at least 1
--     hyperperiod-divided      every T divides H
--     hyperperiod-least        no other number that every T divides is smaller, but 0
--     share_exact              share × T = H × C
--     share_le      1 ≤ share ≤ H
--     share-high, surplus-high, surpluses_high, weight_le, weight-high, cover-high
--                              ceilings in figures, those of weight and cover for slack below 2^32
--     weight_mono              a weight does not fall as the slack rises
use Rattle.std.specs.Prelude.{ℕ, ◌+◌, ◌*◌, ◌%◌, ◌≤◌, ◌<◌, ◌≡◌}
use Rattle.std.proofs.Common.{◌∙◌, mul-le-mul_left, le_of_mul-le-mul_right, le_trans, le_of_lt, sub-le}
use Rattle.std.proofs.Math.Nat.{mul_comm, mul-le-mul}
use native.Mathlib.Omega.{arith}
use Rattle.laws.specs.Sum.{sum}
use Rattle.laws.specs.SumLaws.{sum_le_mul}
use Rattle.laws.proofs.MultipleLaws.{lcm_below-low, lcm_below_mod, lcm_below-scaled, lcm_below-least}
use Rattle.tasks.specs.TaskSet.{TaskSet, hyperperiod, share, weight, surplus, cover}
use Rattle.tasks.specs.Limits.{Limits}
use Rattle.tasks.specs.Terms.{Timed}

pub timed : {s : TaskSet} → Limits s → Timed s
timed L = record { separation-low = L.separation-low; budget-low = L.budget-low; budget-high = L.budget-high }

pub hyperperiod-low : (s : TaskSet) → 1 ≤ hyperperiod s
unfolding hyperperiod
hyperperiod-low s = lcm_below-low _ s.count

pub weight_mono : (s : TaskSet) (x y : ℕ → ℕ) (i : ℕ) → x i ≤ y i → weight s x i ≤ weight s y i
unfolding weight
weight_mono s x y i h = mul-le-mul_left (share s i) (omega arith)

module _ (s : TaskSet) (F : Timed s) where
  pub hyperperiod-divided : (i : ℕ) → i < s.count → hyperperiod s % (s.task i).separation ≡ 0
  unfolding hyperperiod
  hyperperiod-divided i h = lcm_below_mod _ s.count F.separation-low i h

  pub hyperperiod-least : (c : ℕ) → 1 ≤ c → ((i : ℕ) → i < s.count → c % (s.task i).separation ≡ 0) → hyperperiod s ≤ c
  unfolding hyperperiod
  hyperperiod-least c h each = lcm_below-least _ s.count c F.separation-low h each

  -- "C × H / T, a whole number"
  pub share_exact : (i : ℕ) → i < s.count → share s i * (s.task i).separation ≡ hyperperiod s * (s.task i).budget
  unfolding share hyperperiod
  share_exact i h =
      lcm_below-scaled (λ k. (s.task k).separation) s.count F.separation-low i h (s.task i).budget
      ∙ mul_comm _ _

  pub share_le : (i : ℕ) → i < s.count → share s i ≤ hyperperiod s
  share_le i h =
      le_of_mul-le-mul_right
      (omega (arith, share_exact i h, mul-le-mul_left (hyperperiod s) (F.budget-high i h)))
      (F.separation-low i h)

module _ (s : TaskSet) (L : Limits s) where
  pub share-high : (i : ℕ) → i < s.count → share s i ≤ 1000000
  share-high i h = le_trans (share_le s (timed L) i h) L.multiple-high

  pub surplus-high : (i : ℕ) → i < s.count → surplus s i ≤ 100000000000
  unfolding surplus
  surplus-high i h = mul-le-mul (share-high i h) (le_trans (sub-le _ _) (L.separation-high i h))

  pub surpluses_high : (k : ℕ) → k ≤ s.count → sum (surplus s) k ≤ 1600000000000
  surpluses_high k h =
      omega (arith, sum_le_mul (surplus s) 100000000000 k (λ i l. surplus-high i (le_trans l h)), L.tasks-high)

  pub weight_le : (x : ℕ → ℕ) (i : ℕ) → i < s.count → weight s x i ≤ 1000000 * (x i + 100000)
  unfolding weight
  weight_le x i h = mul-le-mul (share-high i h) (omega (arith, L.offset-high i h, L.separation-high i h))

  pub weight-high : (x : ℕ → ℕ) (i : ℕ) → i < s.count → x i < 4294967296 → weight s x i ≤ 4300000000000000
  weight-high x i h l = omega (arith, weight_le x i h)

  pub cover-high : (x : ℕ → ℕ) (k : ℕ) → k < s.count → x k < 4294967296 → cover s x k ≤ 40000000000000000
  unfolding cover
  cover-high x k h l =
      omega (
        arith,
        mul-le-mul (mul-le-mul L.cores-high L.multiple-high) (le_of_lt l),
        mul-le-mul L.multiple-high (le_trans (L.budget-high k h) (L.separation-high k h)),
      )
