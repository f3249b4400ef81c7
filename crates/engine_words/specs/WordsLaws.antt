-- What a value of the state's type has.
--     Whole                       the arrays of a state have their lengths, and its bytes are bytes, as in every value of its type
use Rattle.std.specs.Prelude.{ℕ, ◌<◌, true, ◌≡◌}
use Rattle.tasks.specs.TaskSet.{row}
use Rattle.state.specs.declared.State.{State}
use Rattle.state.specs.Fit.{Shaped}
use Rattle.engine_words.specs.Words.{is_byte}

pub record Whole (s : State) : Type 0 where
  pub shaped : Shaped s
  pub edition : is_byte s.plan.edition ≡ true
  pub labels : (i : ℕ) → i < 8 → is_byte (row s.plan.labels i) ≡ true
