-- The slack on its way from zeros, for the search: each turn raises it, no compliant slack is below it, and it comes nearer to the ceiling.
--     rising-start          zeros
--     rising_step           what a turn makes of it
--     rising-high           it is at most 800,000 at every loop
--     rising-sum            so its sum is at most n × 800,000
--     rising-more           a turn that changes a loop makes the sum larger
--     rising_falls          and n × 800,000 less the sum smaller: the search's measure
--     still-compliant       slack that a turn leaves as it is is compliant
use Rattle.std.specs.Prelude.{ℕ, ◌-◌, ◌*◌, ◌≤◌, ◌<◌, ◌≡◌, ◌≢◌}
use Rattle.std.proofs.Common.{le_trans, arith}
use Rattle.laws.specs.Sum.{sum}
use Rattle.laws.specs.SumLaws.{sum_less, sum_le_mul}
use Rattle.tasks.specs.TaskSet.{TaskSet, Compliant, ceiling}
use Rattle.tasks.specs.Limits.{Limits}
use Rattle.tasks.proofs.AmountLaws.{amount_mono}
use Rattle.tasks.proofs.SlackLaws.{needed_mono, compliant-needed, needed-compliant}
use Rattle.tasks.proofs.CeilingLaws.{ceiling-compliant}
use Rattle.tasks.specs.Terms.{Raised, Rising}

pub rising-start : (s : TaskSet) (x : ℕ → ℕ) → ((k : ℕ) → k < s.count → x k ≡ 0) → Rising s x
rising-start s x z = record { rises = λ k h. omega (arith, z k h); least = λ y c k h. omega (arith, z k h) }

module _ (s : TaskSet) (L : Limits s) where
  pub rising_step : (x y : ℕ → ℕ) → Rising s x → Raised s x y → Rising s y
  unfolding Raised
  rising_step x y r e =
      let up : (k : ℕ) → k < s.count → x k ≤ y k = λ k h. rw (e k h) (r.rises k h) in
      record {
        rises = λ k h. rw (e k h) (needed_mono s L _ _ k (amount_mono s x y up));
        least =
            λ v c k h. rw (e k h) (le_trans (needed_mono s L _ _ k (amount_mono s x v (r.least v c))) (compliant-needed s L v c k h));
      }

  pub rising-high : (x : ℕ → ℕ) → Rising s x → (k : ℕ) → k < s.count → x k ≤ 800000
  rising-high x r = r.least (λ k. ceiling) (ceiling-compliant s L)

  pub rising-sum : (x : ℕ → ℕ) → Rising s x → sum x s.count ≤ s.count * 800000
  rising-sum x r = sum_le_mul x 800000 s.count (rising-high x r)

  pub still-compliant : (x y : ℕ → ℕ) → Raised s x y → ((k : ℕ) → k < s.count → x k ≡ y k) → Compliant s x
  unfolding Raised
  still-compliant x y e still = needed-compliant s L x (λ k h. omega (arith, e k h, still k h))

  module _ (x y : ℕ → ℕ) (r : Rising s x) (e : Raised s x y) (k : ℕ) (h : k < s.count) (ne : x k ≢ y k) where
    pub rising-more : sum x s.count < sum y s.count
    unfolding Raised
    rising-more = sum_less x y s.count (λ i l. rw (e i l) (r.rises i l)) k h ne

    pub rising_falls : s.count * 800000 - sum y s.count < s.count * 800000 - sum x s.count
    rising_falls = omega (arith, rising-more, rising-sum y (rising_step x y r e))
