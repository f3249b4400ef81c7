-- The order of the heads. Document 01: "At each step the m of these with the earliest priority points run"; document 02, §8: "Among equal priority
-- points the earlier release now runs first, and the lower loop only if these are equal too."
--     Earlier s M i j      loop i's head goes ahead of loop j's, by these sentences; Older: by the second, points being equal
use Prim.Native.Nat.{ℕ, ◌<◌}
use Rattle.std.specs.Prelude.{◌≡◌, ◌⊎◌}
use Rattle.tasks.specs.TaskSet.{TaskSet}
use Rattle.machine.specs.Machine.{Machine, released, point}

module _ (s : TaskSet) (M : Machine) where
  abbrev pub Older : ℕ → ℕ → Type 0
  Older i j = (released M i < released M j) ⊎ ((released M i ≡ released M j) × (i < j))

  abbrev pub Earlier : ℕ → ℕ → Type 0
  Earlier i j = (point s M i < point s M j) ⊎ ((point s M i ≡ point s M j) × Older i j)
