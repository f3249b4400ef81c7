-- The invariant of the machine's state that carries the bound where loops are more than cores, and that the opening has it.
--     opening-timely       the opening has these, whatever the bounds
--     overdue              I1 and I2 in one, at every threshold up to the clock
--     spread               the lines and surpluses of all loops
--     opening-kept         the opening has the invariant
use Rattle.std.specs.Prelude.{ℕ, zero, suc, ◌+◌, ◌-◌, ◌*◌, ◌≤◌, false, ◌≡◌, refl}
use Rattle.std.proofs.Math.Path.{ap}
use Rattle.std.proofs.Common.{le_refl, mul-le-mul_left}
use native.Mathlib.Omega.{arith}
use Rattle.laws.specs.Sum.{sum, count}
use Rattle.laws.specs.SumLaws.{sum_ext, sum_add, sum_mul, count_none}
use Rattle.tasks.specs.TaskSet.{TaskSet, hyperperiod, share, surplus, amount}
use Rattle.machine.specs.Machine.{Machine, opened}
use Rattle.machine.specs.Choice.{early_at}
use Rattle.machine.specs.Invariant.{Setting, next_of, potential_of, potential, Timely, Invariant}

pub opening-timely : (s : TaskSet) (b : ℕ → ℕ) → Timely s b opened
unfolding opened next_of
opening-timely s b = record { chain = λ i h. le_refl 0; in_time = λ i h. tt }

pub overdue :
    (s : TaskSet) (x : ℕ → ℕ) (M : Machine) → Invariant s x M → (y d : ℕ) → y + d ≡ M.clock
    → s.cores ≤ count (early_at s M y) s.count → potential s M y + s.cores * hyperperiod s * d ≤ amount s x
overdue s x M I y zero e busy = omega (arith, rw now at (I.ahead 0))
  where
    now : M.clock + 0 ≡ y
    now = omega arith
overdue s x M I y (suc d) e busy = I.behind y d e busy

module _ (s : TaskSet) (x : ℕ → ℕ) (S : Setting s x) where
  pub spread : (d : ℕ) → sum (λ i. d * share s i + surplus s i) s.count ≤ s.cores * hyperperiod s * d + sum (surplus s) s.count
  spread d =
      omega (
        arith,
        sum_add (λ i. d * share s i) (surplus s) s.count,
        sum_mul d (share s) s.count,
        mul-le-mul_left d S.shares_high,
      )

  opening-line : (d i : ℕ) → potential_of s opened (0 + d) i ≡ d * share s i + surplus s i
  unfolding potential_of opened next_of surplus
  opening-line d i = go (share s i) ((s.task i).separation - (s.task i).offset)
    where
      go : (u e : ℕ) → 0 + u * (0 + d + e - 0) ≡ d * u + u * e
      go u e = omega (arith, ap (λ k. u * k) less)
        where
          less : 0 + d + e - 0 ≡ d + e
          less = omega arith

  no_count : count (λ i. false) s.count ≡ 0
  no_count = count_none (λ i. false) s.count (λ i h. refl)

  opening-potential : (d : ℕ) → potential s opened (0 + d) ≤ amount s x + s.cores * hyperperiod s * d
  unfolding potential
  opening-potential d =
      omega (
        arith,
        sum_ext (potential_of s opened (0 + d)) (λ i. d * share s i + surplus s i) s.count (λ i h. opening-line d i),
        spread d,
        S.amount_best (λ i. false) (omega (arith, S.cores-low, no_count)),
      )

  pub opening-kept : Invariant s x opened
  unfolding opened early_at
  opening-kept =
      record {
        timely = opening-timely s _;
        ahead = opening-potential;
        behind = λ y d e busy. absurd (omega (arith, S.cores-low, no_count));
      }
