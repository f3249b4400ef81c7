-- The order of the heads. Document 01: "At each step the m of these with the earliest priority points run"; document 02, §8: "Among equal priority
-- points the earlier release now runs first, and the lower loop only if these are equal too."
--     heads-order          `before` is an order
--     after-point          who is not before another has no earlier priority point
--     is_before, not_before      what `before` says where it holds and where it doesn't; before_not: and back
use Prim.Native.Nat.{ℕ, ◌≤◌, ◌<◌}
use Rattle.std.specs.Prelude.{true, false, ◌≡◌, ◌⊎◌}
use Rattle.laws.specs.RankLaws.{Order, two-before, two-after, after_two, order-two}
use Rattle.tasks.specs.TaskSet.{TaskSet}
use Rattle.machine.specs.Machine.{Machine, released, point, before}

module _ (s : TaskSet) (M : Machine) where
  pub heads-order : Order (before s M)
  unfolding before
  heads-order = order-two (point s M) (released M)

  pub after-point : (i j : ℕ) → before s M i j ≡ false → point s M j ≤ point s M i
  unfolding before
  after-point i j e = (two-after (point s M) (released M) i j e).0

  pub is_before : (i j : ℕ) → before s M i j ≡ true → (point s M i < point s M j) ⊎ ((point s M i ≡ point s M j) × (released M i < released M j))
  unfolding before
  is_before i j e = two-before (point s M) (released M) i j e

  pub not_before : (i j : ℕ) → before s M i j ≡ false → (point s M j ≤ point s M i) × (point s M i ≡ point s M j → released M j ≤ released M i)
  unfolding before
  not_before i j e = two-after (point s M) (released M) i j e

  pub before_not : (i j : ℕ) → point s M j ≤ point s M i → (point s M i ≡ point s M j → released M j ≤ released M i) → before s M i j ≡ false
  unfolding before
  before_not i j h k = after_two (point s M) (released M) i j h k
