-- What the second stage's numbers are, from what its code has worked out.
--     row_filled          an entry of an array that is filled up to n
--     ratesTest-…         the stage's answer from what its tests found
--     multiple-over, multiple-whole    a least common multiple cut off at 1,000,001: above its limit, or the whole one
--     shares_filled, share-within      the array of the shares, and each share's limit
--     shares_total, surplus-total      the sums worked out from them
use Rattle.std.specs.Prelude.{ℕ, ◌*◌, ◌/◌, ◌-◌, ◌≤◌, ◌<◌, min, ◌≡◌, List, get_or}
use Rattle.std.proofs.Common.{◌∙◌, le_trans}
use Rattle.std.proofs.Math.Path.{ap, subst}
use native.Mathlib.Omega.{arith}
use borrow.Author.Tests.{lt-ltb, le-ltb}
use Rattle.laws.specs.Sum.{sum}
use Rattle.laws.specs.SumLaws.{sum_ext}
use Rattle.laws.specs.Tab.{tab, cut}
use Rattle.laws.specs.TabLaws.{get_or-tab, cut_below}
use Rattle.laws.specs.Multiple.{lcm_below}
use Rattle.tasks.specs.Answer.{Accepted, Refused}
use Rattle.tasks.specs.TaskSet.{TaskSet, hyperperiod, share, surplus, row}
use Rattle.tasks.specs.Tests.{first_met}
use Rattle.tasks.proofs.ShareLaws.{share_le}
use Rattle.fields.specs.Columns.{set_from}
use Rattle.slack.specs.Rates.{Ranges, rates_test}

pub row_filled : (l : List ℕ) (f : ℕ → ℕ) (n i : ℕ) → n ≤ 16 → i < n → l ≡ tab (cut n f 0) 16 → row l i ≡ f i
unfolding row
row_filled l f n i h k e = rw e (get_or-tab (cut n f 0) 16 i 0 (omega arith) ∙ cut_below n f 0 i k)

module _ (s : TaskSet) where
  pub rates_test_9 : 1000000 < hyperperiod s → rates_test s ≡ Refused 9 0
  unfolding rates_test first_met
  rates_test_9 h = rw (lt-ltb _ _ h)

  pub rates_test_10 : hyperperiod s ≤ 1000000 → s.cores * hyperperiod s < sum (share s) s.count → rates_test s ≡ Refused 10 0
  unfolding rates_test first_met
  rates_test_10 h l = rw (le-ltb 1000000 (hyperperiod s) h, lt-ltb _ _ l)

  pub rates_test_pass : hyperperiod s ≤ 1000000 → sum (share s) s.count ≤ s.cores * hyperperiod s → rates_test s ≡ Accepted
  unfolding rates_test first_met
  rates_test_pass h l = rw (le-ltb 1000000 (hyperperiod s) h, le-ltb (s.cores * hyperperiod s) (sum (share s) s.count) l)

module _ (m n : ℕ) (separation budget offset : List ℕ) (h : ℕ) (e : h ≡ min (lcm_below (λ i. get_or separation i 0) n) 1000001) where
  pub multiple-over : 1000000 < h → 1000000 < hyperperiod (set_from m n separation budget offset)
  unfolding hyperperiod set_from row
  multiple-over l = omega arith

  pub multiple-whole : h ≤ 1000000 → h ≡ hyperperiod (set_from m n separation budget offset)
  unfolding hyperperiod set_from row
  multiple-whole l = omega arith

module _ (m n : ℕ) (separation budget offset : List ℕ) (h : ℕ) (e : h ≡ hyperperiod (set_from m n separation budget offset)) where
  pub shares_filled :
      (shares : List ℕ) → shares ≡ tab (cut n (λ i. row budget i * h / row separation i) 0) 16 →
      shares ≡ tab (cut n (share (set_from m n separation budget offset)) 0) 16
  unfolding share set_from
  shares_filled shares f =
      subst (λ (v : ℕ). shares ≡ tab (cut n (λ i. row budget i * v / row separation i) 0) 16) e f

  module _ (g : Ranges (set_from m n separation budget offset)) (l : h ≤ 1000000) (shares : List ℕ)
      (f : shares ≡ tab (cut n (share (set_from m n separation budget offset)) 0) 16)
    where
      share-at : (i : ℕ) → i < n → row shares i ≡ share (set_from m n separation budget offset) i
      unfolding set_from
      share-at i k = row_filled shares _ n i g.tasks k f

      pub share-within : (i : ℕ) → i < n → row shares i ≤ 1000000
      unfolding set_from
      share-within i k = rw (share-at i k) (le_trans (share_le (set_from m n separation budget offset) g.timed i k) (rw (← e) l))

      pub shares_total : sum (row shares) n ≡ sum (share (set_from m n separation budget offset)) n
      shares_total = sum_ext _ _ n share-at

      pub surplus-total :
          sum (λ i. row shares i * (row separation i - row offset i)) n ≡ sum (surplus (set_from m n separation budget offset)) n
      unfolding surplus set_from
      surplus-total = sum_ext _ _ n (λ i k. ap (λ (v : ℕ). v * (row separation i - row offset i)) (share-at i k))
