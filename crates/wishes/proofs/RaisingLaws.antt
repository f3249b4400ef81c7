-- The slack on its way from zeros, for the search of a wish sheet's slack: no solution's slack is below it.
--     below-start    zeros
--     below_next     what an amount needs that every solution's slack covers; below_round: such as A of the slack at hand
--     below_up       a turn takes nothing off, as long as no loop's slack is above W − C
--     below_less     so where it changes a loop's, the distance to W − C falls: the search's measure
--     below-over     where it changes none, the slack is the wished one and 27 is not met
--     below-past     where some loop's is above W − C, 27 is met
use Prim.Native.Nat.{ℕ, ◌+◌, ◌-◌, ◌≤◌, ◌<◌}
use Rattle.std.specs.Prelude.{◌≡◌, ◌≢◌}
use Rattle.std.proofs.Math.Path.{refl}
use Rattle.std.proofs.Common.{sym, ◌∙◌, ⊎_elim, le_trans, arith}
use Rattle.std.proofs.Math.Bool.{Bool, true, false}
use Rattle.std.proofs.Math.Nat.{le_antisymm}
use borrow.Author.Tests.{ltb-false, le-ltb}
use Rattle.laws.specs.First.{first}
use Rattle.laws.specs.FirstLaws.{first_le, first-none, none_first}
use Rattle.laws.specs.EveryLaws.{below_or_not}
use Rattle.laws.specs.Sum.{sum}
use Rattle.laws.specs.SumLaws.{sum_less, sum_mono}
use Rattle.tasks.specs.TaskSet.{TaskSet, hyperperiod, amount, needed, row}
use Rattle.tasks.proofs.SlackLaws.{needed-least}
use Rattle.wishes.specs.Wish.{room, with_offsets, at_slack, wished, passes, no_solution}
use Rattle.wishes.specs.WishLaws.{Within, Kept}
use Rattle.wishes.proofs.WishLaws.{at_mono, need_mono, kept-needed, needed-kept-at, wished-kept, wished-least}
use Rattle.wishes.specs.RaisingLaws.{Solving, Below}

module _ (s : TaskSet) (L : Within s) where
  pub needed-none : (k : ℕ) → needed s 0 k ≡ 0
  unfolding needed hyperperiod at_slack with_offsets
  needed-none k = le_antisymm (needed-least (at_slack s (λ i. 0)) (L (λ i. 0)) 0 k 0 (omega arith)) (omega arith)

  pub below-start : (x : ℕ → ℕ) → ((k : ℕ) → k < s.count → x k ≡ 0) → Below s x
  below-start x z = record { of = (0, λ k h. z k h ∙ sym (needed-none k)); least = λ v p k h. omega (arith, z k h) }

  pub below_next :
      (y : ℕ → ℕ) (b : ℕ) → ((k : ℕ) → k < s.count → y k ≡ needed s b k)
      → ((v : ℕ → ℕ) → Solving s v → (k : ℕ) → k < s.count → needed s b k ≤ v k) → Below s y
  below_next y b e under = record { of = (b, e); least = λ v p k h. rw (e k h) (under v p k h) }

  module _ (x : ℕ → ℕ) (l : Below s x) where
    -- every solution's slack covers A of the slack at hand
    pub below_round : (v : ℕ → ℕ) → Solving s v → (k : ℕ) → k < s.count → needed s (amount (at_slack s x) x) k ≤ v k
    below_round v p k h = le_trans (need_mono s L _ _ k (at_mono s x v (l.least v p))) (kept-needed s L v p.kept k h)

    module _ (y : ℕ → ℕ) (b : ℕ) (e : (k : ℕ) → k < s.count → y k ≡ needed s b k) (high : amount (at_slack s x) x ≤ b)
        (in-room : (i : ℕ) → i < s.count → x i ≤ room (s.task i))
      where
        -- what b needs is kept where it is not above x
        lower-kept : ((k : ℕ) → k < s.count → y k ≤ x k) → Solving s y
        lower-kept down =
            record {
              kept = needed-kept-at s L y (λ k h. rw (e k h) (need_mono s L _ _ k (le_trans (at_mono s y x down) high)));
              within = λ i h. le_trans (down i h) (in-room i h);
            }

        pub below_up : (k : ℕ) → k < s.count → x k ≤ y k
        below_up =
            ⊎_elim
            (λ (h : b < l.of.0).
            l.least y (lower-kept (λ k j. rw (e k j, l.of.1 k j) (need_mono s L _ _ k (omega arith)))))
            (λ (h : l.of.0 ≤ b). λ k j. rw (e k j, l.of.1 k j) (need_mono s L _ _ k h))
            (below_or_not b l.of.0)

        pub below_less :
            (k : ℕ) → k < s.count → x k ≢ y k
            → sum (λ i. room (s.task i)) s.count + 1 - sum y s.count < sum (λ i. room (s.task i)) s.count + 1 - sum x s.count
        below_less k h ne =
            omega (arith, sum_less x y s.count below_up k h ne, sum_mono x (λ i. room (s.task i)) s.count in-room)

        pub below-over : ((k : ℕ) → k < s.count → x k ≡ y k) → (no_solution s ≡ false) × ((k : ℕ) → k < s.count → x k ≡ row (wished s) k)
        unfolding no_solution passes
        below-over still =
            let none : first p s.count ≡ s.count = none_first p s.count (λ i h. le-ltb _ (row (wished s) i) (le_trans (low i h) (in-room i h))) in
            (le-ltb (first p s.count) s.count (omega arith), equal)
          where
            p : ℕ → Bool
            p = passes s (row (wished s))

            kept : Kept s x
            kept = needed-kept-at s L x (λ k h. rw (still k h, e k h) (need_mono s L _ _ k high))

            low : (k : ℕ) → k < s.count → row (wished s) k ≤ x k
            low = wished-least s L x kept

            equal : (k : ℕ) → k < s.count → x k ≡ row (wished s) k
            equal k h =
                le_antisymm
                (l.least (row (wished s)) (record { kept = wished-kept s L; within = λ i j. le_trans (low i j) (in-room i j) }) k h)
                (low k h)

    pub below-past : (k : ℕ) → k < s.count → room (s.task k) < x k → no_solution s ≡ true
    unfolding no_solution passes
    below-past k h over = go (no_solution s) refl
      where
        go : (b : Bool) → no_solution s ≡ b → no_solution s ≡ true
        go true e = e
        go false e =
            let p = passes s (row (wished s)) in
            let none = first-none p s.count (omega (arith, first_le p s.count, ltb-false (first p s.count) s.count e)) in
            let within : (i : ℕ) → i < s.count → row (wished s) i ≤ room (s.task i) = λ i j. ltb-false (room (s.task i)) (row (wished s) i) (none i j) in
            absurd (omega (arith, l.least (row (wished s)) (record { kept = wished-kept s L; within = within }) k h, within k h))
