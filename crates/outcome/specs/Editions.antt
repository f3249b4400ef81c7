-- Two tables that agree in what a log run looks at.
--     Alike    their numbers of cores and loops, T, C and Y agree, read at the places of their bytes
use Prim.Native.Nat.{ℕ, ◌<◌}
use Rattle.std.proofs.Math.Path.{◌≡◌}
use Rattle.std.specs.Prelude.{List}
use Rattle.outcome.specs.Outcome.{cores_of, loops_of, separation_of, budget_of, offset_of}

pub record Alike (t u : List ℕ) : Type 0 where
  pub cores : cores_of t ≡ cores_of u
  pub loops : loops_of t ≡ loops_of u
  pub separations : (i : ℕ) → i < loops_of t → separation_of t i ≡ separation_of u i
  pub budgets : (i : ℕ) → i < loops_of t → budget_of t i ≡ budget_of u i
  pub offsets : (i : ℕ) → i < loops_of t → offset_of t i ≡ offset_of u i
