-- Whether the code of a slack search saw a change.
use Prim.Native.Nat.{ℕ}
use Rattle.std.specs.Prelude.{eqb}
use Rattle.std.proofs.Math.Bool.{Bool, not}
use Rattle.std.proofs.Math.Dec.{ltb}
use Rattle.laws.specs.First.{first}

-- whether the code saw a change
abbrev pub changes : ℕ → (ℕ → ℕ) → (ℕ → ℕ) → Bool
changes n x f = ltb (first (λ k. not (eqb (x k) (f k))) n) n
