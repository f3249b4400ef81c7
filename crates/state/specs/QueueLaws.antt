-- The clauses' tests of soundness as facts.
--     LoopFacts, PlaceFacts     what loop_test and place_test test
use Prim.Native.Nat.{ℕ, ◌+◌, ◌≤◌, ◌<◌}
use Rattle.std.specs.Prelude.{Bool, ◌≡◌}
use Rattle.std.proofs.Math.Bool.{true, false}

pub record LoopFacts (known : Bool) (t n : ℕ) (flag : Bool) (last newest : ℕ) : Type 0 where
  pub few : n ≤ 16
  pub outside : known ≡ false → (n ≡ 0) × (flag ≡ false)
  pub clear : flag ≡ false → last ≡ 0
  pub past : last ≤ t
  pub recent : 1 ≤ n → (flag ≡ true) × (last ≡ newest)

pub record PlaceFacts (T C t n p previous r w : ℕ) : Type 0 where
  pub rises : p < n → 1 ≤ p → previous + T ≤ r
  pub used : p < n → (r ≤ t) × (1 ≤ w) × (w ≤ C)
  pub unused : n ≤ p → (r ≡ 0) × (w ≡ 0)
