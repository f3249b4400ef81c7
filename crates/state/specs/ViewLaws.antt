-- What the round trip of a state needs of it.
--     Backed s          what state_backed uses of soundness: zeros in the unused job places, and tick 0 under a clear flag
use Rattle.std.specs.Prelude.{ℕ, ◌/◌, ◌%◌, ◌≤◌, ◌<◌, ◌≡◌}
use Rattle.std.proofs.Math.Bool.{false}
use Rattle.tasks.specs.TaskSet.{row}
use Rattle.state.specs.declared.State.{State}
use Rattle.state.specs.State.{flag_at}
use Rattle.state.specs.Fit.{Shaped}

pub record Backed (s : State) : Type 0 where
  pub shaped : Shaped s
  pub clear : (i : ℕ) → i < 16 → flag_at s i ≡ false → row s.last i ≡ 0
  pub unused : (k : ℕ) → k < 256 → row s.jobs (k / 16) ≤ k % 16 → (row s.release k ≡ 0) × (row s.remaining k ≡ 0)
