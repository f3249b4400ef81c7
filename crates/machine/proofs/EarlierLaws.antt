-- Earlier is how the heads are ranked, and what the order goes by.
--     earlier-ahead        Earlier is how the heads are ranked; ahead-earlier: and back
--     before_same          the order of a table's heads goes by their releases alone
use Prim.Native.Nat.{ℕ, ◌<◌}
use Rattle.std.specs.Prelude.{Bool, true, false, ◌≡◌, refl}
use Rattle.std.proofs.Common.{sym, ◌∙◌, inl, inr, ⊎_elim, le_antisymm, arith}
use Rattle.std.proofs.Math.Path.{ap, fun_ext}
use Rattle.laws.specs.Rank.{by_two}
use Rattle.laws.specs.RankLaws.{Ahead}
use Rattle.tasks.specs.TaskSet.{TaskSet}
use Rattle.machine.specs.Machine.{Machine, released, point, before}
use Rattle.machine.specs.BeforeLaws.{Older, Earlier}
use Rattle.machine.proofs.BeforeLaws.{after-point, is_before, not_before, before_not}

module _ (s : TaskSet) (M : Machine) where
  pub earlier-ahead : (i j : ℕ) → Earlier s M i j → Ahead (before s M) i j
  earlier-ahead i j =
      ⊎_elim
      (λ (p : point s M i < point s M j).
      (before_not s M j i (omega arith) (λ q. absurd (omega arith)), λ e. absurd (omega (arith, after-point s M i j e))))
      (λ (p : (point s M i ≡ point s M j) × Older s M i j).
      ⊎_elim
      (λ (r : released M i < released M j).
      (before_not s M j i (omega (arith, p.0)) (λ q. omega arith), λ e. absurd (omega (arith, (not_before s M i j e).1 p.0))))
      (λ (r : (released M i ≡ released M j) × (i < j)). (before_not s M j i (omega (arith, p.0)) (λ q. omega (arith, r.0)), λ e. r.1))
      p.1)

  pub ahead-earlier : (i j : ℕ) → Ahead (before s M) i j → Earlier s M i j
  ahead-earlier i j a = go (before s M i j) refl
    where
      go : (b : Bool) → before s M i j ≡ b → Earlier s M i j
      go true e =
          ⊎_elim
          (λ (p : point s M i < point s M j). inl p)
          (λ (p : (point s M i ≡ point s M j) × (released M i < released M j)). inr (p.0, inl p.1))
          (is_before s M i j e)
      go false e =
          let x = not_before s M i j e in
          let y = not_before s M j i a.0 in
          let same : point s M i ≡ point s M j = le_antisymm y.0 x.0 in
          inr (same, inr (le_antisymm (y.1 (sym same)) (x.1 same), a.1 e))

  module _ (N : Machine) (e : released N ≡ released M) where
    point-same : (i : ℕ) → point s N i ≡ point s M i
    unfolding point
    point-same i = let same : released N i ≡ released M i = ap (λ (r : ℕ → ℕ). r i) e in rw same

    pub before_same : before s N ≡ before s M
    unfolding before
    before_same = ap (λ (p : ℕ → ℕ). by_two p (released N)) (fun_ext point-same) ∙ ap (λ (r : ℕ → ℕ). by_two (point s M) r) e
