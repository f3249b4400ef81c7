-- The counted loops and the amount A.
--     counted-below, counted-distinct    they are loops of the table, none named twice
--     counted-length      they are m − 1; counted-few: as a set
--     counted_ext         they depend on the slack of the loops alone
--     counted-ahead       a loop left out has a smaller weight than a counted one, or an equal one and is the higher loop
--     counted-order       and so has a counted one that stands behind another; counted-only: no other m − 1 loops are so
--     counted_best        no other m − 1 loops have a larger sum of weights
--     counted-high        their weights add up to (m − 1) × c at most, where no weight is above c
--     amount_best         A is at least the weights of any m − 1 loops and all surpluses
--     amount_is           it is the weights of the counted loops and all surpluses
--     amount_mono         it does not fall as the slack rises
--     amount_ext          it depends on the slack of the loops alone
--     amount-high         a ceiling in figures, for slack below 2^32
use Rattle.std.specs.Prelude.{ℕ, ◌+◌, ◌-◌, ◌*◌, ◌≤◌, ◌<◌, ◌≡◌, Bool, true, false, List, length}
use Rattle.std.proofs.Common.{sym, le_of_eq, le_refl, le_antisymm, arith}
use Rattle.std.proofs.Math.Path.{ap}
use Rattle.std.proofs.Math.Nat.{add-le-add}
use Rattle.laws.specs.Sum.{sum, count, sum_over}
use Rattle.laws.specs.SumLaws.{sum_in}
use Rattle.laws.specs.Member.{member, Distinct}
use Rattle.laws.specs.RankLaws.{sorted-at}
use Rattle.laws.specs.SortedLaws.{Leading, sorted_by_places}
use Rattle.laws.specs.LargestLaws.{heavier, Precedes, ahead_precedes, precedes_ahead, largest-sorted, largest-ahead, largest-only, largest-below, largest-distinct, largest-length, largest-count_le, largest_ext, largest_is_sum_in, largest_best, largest_mono, largest_le_mul}
use Rattle.tasks.specs.TaskSet.{TaskSet, weight, surplus, counted, amount, row}
use Rattle.tasks.specs.Limits.{Limits}
use Rattle.tasks.proofs.ShareLaws.{weight_mono, weight-high, surpluses_high}

module _ (s : TaskSet) where
  pub counted-below : (x : ℕ → ℕ) (i : ℕ) → member i (counted s x) ≡ true → i < s.count
  unfolding counted
  counted-below x i m = largest-below _ (weight s x) s.count i m

  pub counted-distinct : (x : ℕ → ℕ) → Distinct (counted s x)
  unfolding counted
  counted-distinct x = largest-distinct _ (weight s x) s.count

  pub counted-length : (x : ℕ → ℕ) → s.cores < s.count → length (counted s x) ≡ s.cores - 1
  unfolding counted
  counted-length x h = rw largest-length (omega arith)

  pub counted-few : (x : ℕ → ℕ) → count (λ i. member i (counted s x)) s.count ≤ s.cores - 1
  unfolding counted
  counted-few x = largest-count_le _ (weight s x) s.count

  pub counted_ext : (x y : ℕ → ℕ) → ((i : ℕ) → i < s.count → x i ≡ y i) → counted s x ≡ counted s y
  unfolding counted weight
  counted_ext x y same = largest_ext _ (weight s x) (weight s y) s.count (λ i h. rw (same i h))

  pub counted-ahead :
      (x : ℕ → ℕ) (i j : ℕ) → member i (counted s x) ≡ true → j < s.count → member j (counted s x) ≡ false → Precedes (weight s x) i j
  unfolding counted Leading
  counted-ahead x i j m h f =
      ahead_precedes (weight s x) i j (largest-ahead (s.cores - 1) (weight s x) s.count i j (largest-below _ (weight s x) s.count i m) h m f)

  pub counted-order :
      (x : ℕ → ℕ) (a b : ℕ) → a < b → b < length (counted s x) → Precedes (weight s x) (row (counted s x) a) (row (counted s x) b)
  unfolding counted row
  counted-order x a b l h =
      ahead_precedes (weight s x) _ _
      (sorted-at (heavier (weight s x)) _ (largest-sorted (s.cores - 1) (weight s x) s.count) a b 0 l h)

  pub counted-only :
      (x : ℕ → ℕ) (l : List ℕ) → s.cores < s.count → length l ≡ s.cores - 1 → ((i : ℕ) → member i l ≡ true → i < s.count)
      → ((a b : ℕ) → a < b → b < length l → Precedes (weight s x) (row l a) (row l b))
      → ((i j : ℕ) → member i l ≡ true → j < s.count → member j l ≡ false → Precedes (weight s x) i j)
      → l ≡ counted s x
  unfolding counted row Leading
  counted-only x l more many below order left =
      largest-only (s.cores - 1) (weight s x) s.count l (omega arith) below
      (sorted_by_places (heavier (weight s x)) l (λ a b p q. precedes_ahead (weight s x) _ _ (order a b p q)))
      (λ i j hi hj m f. precedes_ahead (weight s x) i j (left i j m hj f))

  pub counted_best :
      (x : ℕ → ℕ) (p : ℕ → Bool) → count p s.count ≤ s.cores - 1
      → sum_in p (weight s x) s.count ≤ sum_over (weight s x) (counted s x)
  unfolding counted
  counted_best x p h = largest_best _ (weight s x) s.count p h

  pub counted-high :
      (x : ℕ → ℕ) (c : ℕ) → ((i : ℕ) → i < s.count → weight s x i ≤ c)
      → sum_over (weight s x) (counted s x) ≤ (s.cores - 1) * c
  unfolding counted
  counted-high x c h = largest_le_mul _ (weight s x) s.count c h

  pub amount_best :
      (x : ℕ → ℕ) (p : ℕ → Bool) → count p s.count ≤ s.cores - 1
      → sum_in p (weight s x) s.count + sum (surplus s) s.count ≤ amount s x
  unfolding amount
  amount_best x p h = omega (arith, counted_best x p h)

  pub amount_is :
      (x : ℕ → ℕ)
      → amount s x ≡ sum_in (λ i. member i (counted s x)) (weight s x) s.count + sum (surplus s) s.count
  unfolding amount counted
  amount_is x = ap (λ z. z + sum (surplus s) s.count) (largest_is_sum_in _ (weight s x) s.count (weight s x))

  pub amount_mono : (x y : ℕ → ℕ) → ((i : ℕ) → i < s.count → x i ≤ y i) → amount s x ≤ amount s y
  unfolding amount counted
  amount_mono x y h =
      add-le-add
      (largest_mono _ (weight s x) (weight s y) s.count (λ i l. weight_mono s x y i (h i l)))
      (le_refl _)

  pub amount_ext : (x y : ℕ → ℕ) → ((i : ℕ) → i < s.count → x i ≡ y i) → amount s x ≡ amount s y
  amount_ext x y h =
      le_antisymm (amount_mono x y (λ i l. le_of_eq (h i l))) (amount_mono y x (λ i l. le_of_eq (sym (h i l))))

pub amount-high :
    (s : TaskSet) → Limits s → (x : ℕ → ℕ) → ((i : ℕ) → i < s.count → x i < 4294967296)
    → amount s x ≤ 40000000000000000
unfolding amount
amount-high s L x small =
    omega (
      arith,
      counted-high s x 4300000000000000 (λ i h. weight-high s L x i h (small i h)),
      surpluses_high s L s.count (omega arith),
      L.cores-high,
    )
