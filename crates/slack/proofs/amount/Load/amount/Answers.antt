-- The weights in the array are those of the row, so their largest are the row's.
use mathlib.Core.List.{List}
use Rattle.laws.specs.Sum.{sum_over}
use Rattle.laws.specs.SumLaws.{sum_over_ext, sum_le_mul}
use Rattle.laws.specs.Rank.{largest}
use Rattle.laws.specs.LargestLaws.{largest_ext, largest-below, largest_le_sum}
use Rattle.largest.specs.Chosen.{Light, Chosen}
use Rattle.tasks.specs.TaskSet.{row}
use Rattle.slack.specs.RatesLaws.{row_filled}
use Rattle.slack.specs.Weights.{Weighed, Amounts}
use native.Mathlib.Omega.{arith}
use Prim.Native.Nat.{ℕ, ◌≤◌, ◌<◌, ◌+◌, ◌*◌}
use mathlib.Core.Path.{◌≡◌, ap, ◌∙◌}
use lib.ListN.{get_or}
use Rattle.slack.proofs.amount.Load.amount.Goals as goal

module _ (w : ℕ → ℕ) (n : ℕ) (l : List ℕ) (h : n ≤ 16) (g : Weighed w n l) where
  entry : (i : ℕ) → i < n → get_or l i 0 ≡ w i
  unfolding row
  entry i k = row_filled l w n i h k g.places

  light : Light l n
  light = record { sixteen = h; limit = λ i k. rw (entry i k) (g.limit i k) }

  counted-names : (k : ℕ) → largest k (λ i. get_or l i 0) n ≡ largest k w n
  counted-names k = largest_ext k _ _ n entry

  counted-sum : (k : ℕ) → sum_over (λ i. get_or l i 0) (largest k (λ i. get_or l i 0) n) ≡ sum_over w (largest k w n)
  counted-sum k =
      sum_over_ext _ _ _ (λ i m. entry i (largest-below k (λ i. get_or l i 0) n i m)) ∙ ap (sum_over w) (counted-names k)

  high : (k : ℕ) → sum_over w (largest k w n) ≤ 16 * 8589934592000000
  high k = omega (arith, largest_le_sum k w n, sum_le_mul w 8589934592000000 n g.limit)

  done : (k surplus : ℕ) (left : List ℕ) (r : ℕ) → Chosen l k n left r → Amounts w k n surplus left (r + surplus)
  done k surplus left r c =
      record {
        whole = ap (λ (v : ℕ). v + surplus) (c.total ∙ counted-sum k);
        names = c.names ∙ counted-names k;
        again = c.again;
      }

pub choose-requires : goal.choose-requires
choose-requires c =
    let s = c in
    (light _ _ _ s.requires.0.sixteen c.weigh-weight.ensures, s.requires.2, s.requires.3)

pub overflow_add-result : goal.overflow_add-result
overflow_add-result c =
    let s = c in
    let g = c.weigh-weight.ensures in
    omega (
      arith,
      c.choose.ensures.total,
      counted-sum _ _ _ s.requires.0.sixteen g s.args.many,
      high _ _ _ s.requires.0.sixteen g s.args.many,
    )

pub returns : goal.returns
returns c =
    let s = c in
    done _ _ _ s.requires.0.sixteen c.weigh-weight.ensures _ _ _ _ c.choose.ensures
