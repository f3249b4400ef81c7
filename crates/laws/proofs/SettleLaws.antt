-- Where raising from zeros ends: at the least row that a turn leaves as it is, if a turn never takes off what a smaller row would get, and takes
-- nothing above a ceiling.
--     settled    what holds there, Settled, does
use Prim.Native.Nat.{ℕ, suc, ◌*◌, ◌≤◌, ◌<◌}
use Rattle.std.specs.Prelude.{◌≡◌, get_or, replicate}
use Rattle.std.proofs.Common.{arith}
use Rattle.std.proofs.Math.ListN.{length-replicate, get_or-replicate}
use Rattle.laws.specs.Tab.{tab}
use Rattle.laws.specs.Settle.{settle}
use Rattle.laws.specs.Settle.{Settled}
use Rattle.laws.proofs.TurnLaws.{at, turn, settles}

module _ (g : (ℕ → ℕ) → ℕ → ℕ) (n c : ℕ)
    (mono : (x y : ℕ → ℕ) → ((k : ℕ) → k < n → x k ≤ y k) → (k : ℕ) → k < n → g x k ≤ g y k)
    (high : (k : ℕ) → k < n → g (λ i. c) k ≤ c)
  where
    pub settled : Settled g n (settle (λ x. tab (g (λ i. get_or x i 0)) n) n (suc (n * c)) (replicate n 0))
    unfolding turn
    settled =
        settles g n c mono high (suc (n * c)) (replicate n 0)
        (record {
          rises = λ k h. omega (arith, zeros k h);
          least = λ v p k h. omega (arith, zeros k h);
          long = length-replicate n 0;
        })
        (omega arith)
      where
        zeros : (k : ℕ) → k < n → at (replicate n 0) k ≡ 0
        zeros k h = get_or-replicate n k _ 0 h
