-- The analysis reads T, C and Y of a task and nothing else.
--     plain-multiple, plain_shares      9 and 10 of a task set,
--     plain-counted                     the tasks counted at a slack, and
--     plain-compliant, plain-found      12 of offered slack and the found slack, and
--     plain-bounds                      13 at a slack, are those of its plain tasks
use Prim.Native.Nat.{ℕ, suc, ◌*◌}
use Rattle.std.specs.Prelude.{◌≡◌, replicate}
use Rattle.std.proofs.Math.Path.{refl, ap, fun_ext}
use Rattle.std.proofs.Math.Bool.{cond}
use mathlib.Core.List.{List}
use Rattle.laws.specs.Settle.{settle}
use Rattle.tasks.specs.TaskSet.{TaskSet, plain, hyperperiod, share, weight, surplus, counted, amount, cover, covers, needed, raise, ceiling, core_for_each, found, bound}
use Rattle.tasks.specs.Tests.{bad_multiple, bad_shares, compliant_test, bounds_test}

module _ (s : TaskSet) where
  pub plain-multiple : bad_multiple (plain s) ≡ bad_multiple s
  unfolding plain hyperperiod
  plain-multiple = refl

  pub plain_shares : bad_shares (plain s) ≡ bad_shares s
  unfolding plain hyperperiod share
  plain_shares = refl

  pub plain-counted : (x : ℕ → ℕ) → counted (plain s) x ≡ counted s x
  unfolding plain hyperperiod share weight counted
  plain-counted x = refl

  pub plain-compliant : (x : ℕ → ℕ) → compliant_test (plain s) x ≡ compliant_test s x
  unfolding plain hyperperiod share weight surplus counted amount cover covers
  plain-compliant x = refl

  raise-plain : (x : List ℕ) → raise (plain s) x ≡ raise s x
  unfolding plain hyperperiod share weight surplus counted amount needed raise
  raise-plain x = refl

  pub plain-found : found (plain s) ≡ found s
  unfolding plain found
  plain-found =
      ap
      (λ (g : List ℕ → List ℕ). cond (core_for_each s.cores s.count) (replicate s.count 0) (settle g s.count (suc (s.count * ceiling)) (replicate s.count 0)))
      (fun_ext raise-plain)

  pub plain-bounds : (x : ℕ → ℕ) → bounds_test (plain s) x ≡ bounds_test s x
  unfolding plain bound
  plain-bounds x = refl
