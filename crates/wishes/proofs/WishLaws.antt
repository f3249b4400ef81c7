-- The amount A of a sheet's tasks with the largest offsets that a slack leaves, and the slack that is found by raising.
--     largest-low                    a largest offset is at most T; largest_mono_at: x + Y does not fall and Y does not rise as x rises
--     at_mono                        A, with the largest offsets that a slack leaves, does not fall as the slack rises
--     offsets-lower                  A does not rise as an offset rises
--     need_mono                      what an amount needs does not fall as the amount rises
--     kept-needed, needed-kept-at    such slack is nowhere below what its own A needs, and the other way
--     wished-kept, wished-least, wished-length, wished-past    the wished slack is such, and no larger at any loop than any other; one entry for each loop
--     solution-offset, solution-room    a solution's offsets are at most the largest that its slack leaves, and its slack at most W − C
--     solution-kept, kept-solution   a solution's slack is such, and slack that is such and passes nowhere W − C is a solution's
use Prim.Native.Nat.{ℕ, ◌+◌, ◌-◌, ◌*◌, ◌≤◌, ◌<◌}
use Rattle.std.specs.Prelude.{◌≡◌, cond, length}
use Rattle.std.proofs.Math.Bool.{Bool, true, false}
use Rattle.std.proofs.Math.Nat.{le_of_eq, add-le-add, mul-le-mul_left, mul-add}
use Rattle.std.proofs.Common.{le_trans, arith}
use Rattle.std.proofs.Math.ListN.{get_or-eq_default}
use Rattle.laws.specs.Sum.{count}
use Rattle.laws.specs.SumLaws.{sum_in, sum_add, sum_mono}
use Rattle.laws.specs.Member.{member}
use Rattle.laws.specs.LargestLaws.{largest_mono}
use Rattle.laws.specs.Settle.{Settled}
use Rattle.laws.proofs.SettleLaws.{settled}
use Rattle.tasks.specs.declared.Task.{Task}
use Rattle.tasks.specs.TaskSet.{TaskSet, hyperperiod, share, weight, surplus, counted, amount, cover, Compliant, needed, raise, ceiling, bound_of, row}
use Rattle.tasks.proofs.AmountLaws.{counted-few, amount_best, amount_is}
use Rattle.tasks.proofs.SlackLaws.{needed_mono, compliant-needed, needed-compliant}
use Rattle.tasks.proofs.CeilingLaws.{ceiling-compliant}
use Rattle.wishes.specs.Wish.{room, with_offset, with_offsets, Solution, largest_offset, at_slack, wished}
use Rattle.wishes.specs.WishLaws.{Within, Kept}

module _ (s : TaskSet) where
  -- A by slack and offsets: it does not fall as x + Y rises and Y falls
  pub offsets_mono :
      (y z x v : ℕ → ℕ) → ((i : ℕ) → i < s.count → (x i + y i ≤ v i + z i) × (z i ≤ y i))
      → amount (with_offsets s y) x ≤ amount (with_offsets s z) v
  unfolding amount counted weight surplus share hyperperiod with_offsets
  offsets_mono y z x v h =
      add-le-add
      (largest_mono _ _ _ s.count (λ i l. weights i (h i l).0))
      (sum_mono _ _ s.count (λ i l. surpluses i (h i l).1))
    where
      weights : (i : ℕ) → x i + y i ≤ v i + z i → weight (with_offsets s y) x i ≤ weight (with_offsets s z) v i
      weights i l = mul-le-mul_left (share s i) l

      surpluses : (i : ℕ) → z i ≤ y i → surplus (with_offsets s y) i ≤ surplus (with_offsets s z) i
      surpluses i l = mul-le-mul_left (share s i) (omega arith)

  -- one loop, counted or not, with offsets y ≤ z ≤ T
  lower-part :
      (y z x : ℕ → ℕ) (b : Bool) (i : ℕ) → y i ≤ z i → z i ≤ (s.task i).separation
      → cond b (weight (with_offsets s z) x i) 0 + surplus (with_offsets s z) i
      ≤ cond b (weight (with_offsets s y) x i) 0 + surplus (with_offsets s y) i
  unfolding weight surplus share hyperperiod with_offsets
  lower-part y z x true i l h =
      let T = (s.task i).separation in
      rw (← mul-add (share s i) (x i + z i) (T - z i), ← mul-add (share s i) (x i + y i) (T - y i)) (mul-le-mul_left (share s i) (omega arith))
  lower-part y z x false i l h =
      let T = (s.task i).separation in
      let m : share s i * (T - z i) ≤ share s i * (T - y i) = mul-le-mul_left (share s i) (omega arith) in
      omega (arith, m)

  pub offsets-lower :
      (y z x : ℕ → ℕ) → ((i : ℕ) → i < s.count → (y i ≤ z i) × (z i ≤ (s.task i).separation))
      → amount (with_offsets s z) x ≤ amount (with_offsets s y) x
  unfolding sum_in with_offsets
  offsets-lower y z x h =
      let p : ℕ → Bool = λ i. member i (counted (with_offsets s z) x) in
      rw (amount_is (with_offsets s z) x)
      (le_trans
      (rw (← sum_add, ← sum_add) (sum_mono _ _ s.count (λ i l. lower-part y z x (p i) i (h i l).0 (h i l).1)))
      (amount_best (with_offsets s y) x p few))
    where
      few : count (λ i. member i (counted (with_offsets s z) x)) s.count ≤ s.cores - 1
      few = counted-few (with_offsets s z) x

pub largest-low : (t : Task) (x : ℕ) → largest_offset t x ≤ t.separation
unfolding largest_offset
largest-low t x = omega arith

-- x + Y does not fall and Y does not rise as x rises
pub largest_mono_at : (t : Task) (x v : ℕ) → x ≤ v → (x + largest_offset t x ≤ v + largest_offset t v) × (largest_offset t v ≤ largest_offset t x)
unfolding largest_offset
largest_mono_at t x v h = (omega arith, omega arith)

pub at_mono : (s : TaskSet) (x v : ℕ → ℕ) → ((i : ℕ) → i < s.count → x i ≤ v i) → amount (at_slack s x) x ≤ amount (at_slack s v) v
unfolding at_slack
at_mono s x v h = offsets_mono s _ _ x v (λ i l. largest_mono_at (s.task i) (x i) (v i) (h i l))

module _ (s : TaskSet) (L : Within s) where
  pub need_mono : (a b k : ℕ) → a ≤ b → needed s a k ≤ needed s b k
  unfolding needed hyperperiod at_slack with_offsets
  need_mono a b k h = needed_mono (at_slack s (λ i. 0)) (L (λ i. 0)) a b k h

  pub kept-needed : (x : ℕ → ℕ) → Kept s x → (k : ℕ) → k < s.count → needed s (amount (at_slack s x) x) k ≤ x k
  unfolding Kept needed hyperperiod at_slack with_offsets
  kept-needed x c k h = compliant-needed (at_slack s x) (L x) x c k h

  pub needed-kept-at : (x : ℕ → ℕ) → ((k : ℕ) → k < s.count → needed s (amount (at_slack s x) x) k ≤ x k) → Kept s x
  unfolding Kept needed hyperperiod at_slack with_offsets
  needed-kept-at x c = needed-compliant (at_slack s x) (L x) x c

  ceiling-kept : Kept s (λ k. ceiling)
  unfolding Kept
  ceiling-kept = ceiling-compliant (at_slack s (λ k. ceiling)) (L (λ k. ceiling))

  wished-settled : Settled (λ x. needed s (amount (at_slack s x) x)) s.count (wished s)
  unfolding wished raise row needed hyperperiod at_slack with_offsets
  wished-settled =
      settled (λ x. needed s (amount (at_slack s x) x)) s.count ceiling
      (λ x y h k l. need_mono _ _ k (at_mono s x y h))
      (kept-needed (λ i. ceiling) ceiling-kept)

  pub wished-kept : Kept s (row (wished s))
  unfolding row
  wished-kept = needed-kept-at (row (wished s)) (λ k h. le_of_eq (wished-settled.still k h))

  pub wished-least : (v : ℕ → ℕ) → Kept s v → (k : ℕ) → k < s.count → row (wished s) k ≤ v k
  unfolding row
  wished-least v c = wished-settled.least v (kept-needed v c)

  pub wished-length : length (wished s) ≡ s.count
  wished-length = wished-settled.long

  pub wished-past : (k : ℕ) → s.count ≤ k → row (wished s) k ≡ 0
  unfolding row
  wished-past k h = get_or-eq_default (wished s) 0 (omega (arith, wished-length))

-- a solution's offsets are at most the largest that its slack leaves
pub solution-offset : (s : TaskSet) (y x : ℕ → ℕ) → Solution s y x → (i : ℕ) → i < s.count → y i ≤ largest_offset (s.task i) (x i)
unfolding largest_offset
solution-offset s y x h i l = omega (arith, h.offsets i l, h.kept i l)

pub solution-kept : (s : TaskSet) (y x : ℕ → ℕ) → Solution s y x → Kept s x
unfolding Kept Compliant cover hyperperiod at_slack with_offsets
solution-kept s y x h k l =
    le_trans
    (offsets-lower s y (λ i. largest_offset (s.task i) (x i)) x (λ i j. (solution-offset s y x h i j, largest-low (s.task i) (x i))))
    (h.compliant k l)

pub solution-room : (s : TaskSet) (y x : ℕ → ℕ) → Solution s y x → (i : ℕ) → i < s.count → x i ≤ room (s.task i)
solution-room s y x h i l = omega (arith, h.kept i l)

pub kept-solution :
    (s : TaskSet) (x : ℕ → ℕ) → ((i : ℕ) → i < s.count → (s.task i).budget ≤ (s.task i).offset) → Kept s x
    → ((i : ℕ) → i < s.count → x i ≤ room (s.task i))
    → Solution s (λ i. largest_offset (s.task i) (x i)) x
unfolding Kept at_slack largest_offset
kept-solution s x low c h =
    record { offsets = λ i l. largest-low (s.task i) (x i); compliant = c; kept = λ i l. within i (low i l) (h i l) }
  where
    within : (i : ℕ) → (s.task i).budget ≤ (s.task i).offset → x i ≤ room (s.task i) → bound_of (with_offset (s.task i) (largest_offset (s.task i) (x i))) (x i) ≤ (s.task i).offset
    within i l r = omega arith
