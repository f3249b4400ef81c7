-- A wish sheet's arrays: what they keep to, and the tasks that they stand for at a slack.
--     cores-low … room-high       every number is small
--     offset-row                  the offsets that the code works out are the largest
--     at-arrays                   with the largest offsets and their surpluses the arrays are those of the tasks at a slack; arrays: so there are such
--     past_test                   the code's test of one task is the definition's
use Rattle.std.specs.Prelude.{ℕ, ◌*◌, ◌-◌, ◌≤◌, ◌<◌, ◌≡◌, refl, List}
use Rattle.std.proofs.Common.{◌∙◌, arith}
use borrow.Author.Tests.{leb-false}
use Rattle.laws.specs.Sum.{sum}
use Rattle.laws.specs.SumLaws.{sum_ext}
use Rattle.laws.specs.Tab.{tab, cut}
use Rattle.tasks.specs.TaskSet.{TaskSet, hyperperiod, share, surplus, row}
use Rattle.tasks.specs.Limits.{Limits}
use Rattle.tasks.proofs.ShareLaws.{share-high}
use Rattle.slack.specs.Arrays.{ArraysOf}
use Rattle.slack.specs.RatesLaws.{row_filled}
use Rattle.wishes.specs.Wish.{with_offsets, largest_offset, at_slack, passes}
use Rattle.wishes.proofs.WishLaws.{largest-low}
use Rattle.wish_offsets.specs.Rows.{offset_row, past_row}
use Rattle.wish_search.specs.SheetArrays.{SheetOf}

module _ {s : TaskSet} {shares separations budgets rooms : List ℕ} {h m n : ℕ} (g : SheetOf s shares separations budgets rooms h m n) where
  -- at slack 0, as at any other
  L : Limits (at_slack s (λ i. 0))
  L = g.sheet.limits (λ i. 0)

  pub cores-low : 2 ≤ m
  unfolding at_slack with_offsets
  cores-low = omega (arith, g.cores, L.cores-low)

  pub cores-high : m ≤ 8
  unfolding at_slack with_offsets
  cores-high = omega (arith, g.cores, L.cores-high)

  pub tasks-high : n ≤ 16
  unfolding at_slack with_offsets
  tasks-high = omega (arith, g.tasks, L.tasks-high)

  pub more : m < n
  unfolding at_slack with_offsets
  more = omega (arith, g.cores, g.tasks, leb-false s.count s.cores g.sheet.more-tasks)

  pub multiple-high : h ≤ 1000000
  unfolding at_slack with_offsets hyperperiod
  multiple-high = omega (arith, g.multiple, L.multiple-high)

  pub separation-high : (i : ℕ) → i < n → row separations i ≤ 100000
  unfolding at_slack with_offsets
  separation-high i l = let t : i < s.count = omega (arith, g.tasks) in rw (g.separation i t) (L.separation-high i t)

  pub shares_high : (i : ℕ) → i < n → row shares i ≤ 1000000
  unfolding at_slack with_offsets share hyperperiod
  shares_high i l = let t : i < s.count = omega (arith, g.tasks) in rw (g.share i t) (share-high (at_slack s (λ k. 0)) L i t)

  pub room-high : (i : ℕ) → i < n → row rooms i ≤ 1600000
  unfolding at_slack with_offsets
  room-high i l =
      let t : i < s.count = omega (arith, g.tasks) in
      rw (g.room i t) (omega (arith, g.sheet.wish_high i t, L.separation-high i t))

  module _ (x : List ℕ) where
    pub offset-row : (i : ℕ) → i < s.count → offset_row separations rooms x i ≡ largest_offset (s.task i) (row x i)
    unfolding offset_row largest_offset
    offset-row i l = rw (g.separation i l, g.room i l)

    module _ (offset : List ℕ) (eo : offset ≡ tab (cut n (offset_row separations rooms x) 0) 16) where
      pub offset_at : (i : ℕ) → i < s.count → row offset i ≡ largest_offset (s.task i) (row x i)
      offset_at i l =
          row_filled offset (offset_row separations rooms x) n i tasks-high (omega (arith, g.tasks)) eo ∙ offset-row i l

      pub offset-low : (i : ℕ) → i < n → row offset i ≤ row separations i
      offset-low i l =
          let t : i < s.count = omega (arith, g.tasks) in
          rw (offset_at i t, g.separation i t) (largest-low (s.task i) (row x i))

      surplus-at :
          sum (λ i. row shares i * (row separations i - row offset i)) n ≡ sum (surplus (at_slack s (row x))) s.count
      unfolding surplus share hyperperiod at_slack with_offsets
      surplus-at = rw g.tasks (sum_ext _ _ s.count (λ i l. rw (g.share i l, g.separation i l, offset_at i l)))

      pub at-arrays :
          (a : ℕ) → a ≡ sum (λ i. row shares i * (row separations i - row offset i)) n
          → ArraysOf (at_slack s (row x)) shares budgets offset h a m n
      unfolding share hyperperiod at_slack with_offsets
      at-arrays a ea =
          record {
            limits = g.sheet.limits (row x);
            more-tasks = leb-false s.count s.cores g.sheet.more-tasks;
            cores = g.cores;
            tasks = g.tasks;
            multiple = g.multiple;
            surplus = ea ∙ surplus-at;
            share = g.share;
            budget = g.budget;
            offset = offset_at;
          }

    pub arrays :
        ArraysOf (at_slack s (row x)) shares budgets (tab (cut n (offset_row separations rooms x) 0) 16) h
        (sum (λ i. row shares i * (row separations i - row (tab (cut n (offset_row separations rooms x) 0) 16) i)) n) m n
    arrays = at-arrays _ refl _ refl

    pub past_test : (k : ℕ) → k < s.count → past_row x rooms k ≡ passes s (row x) k
    unfolding past_row passes
    past_test k l = rw (g.room k l)
