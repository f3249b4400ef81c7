-- What is found for a wish sheet depends on T, C and W of its tasks and on nothing else of them.
--     plain-wished, plain-none    the wished slack and 27 are those of the plain tasks
use Prim.Native.Nat.{ℕ, suc, ◌*◌}
use Rattle.std.specs.Prelude.{◌≡◌, replicate}
use Rattle.std.proofs.Math.Path.{refl, ap, fun_ext}
use mathlib.Core.List.{List}
use Rattle.laws.specs.Settle.{settle}
use Rattle.tasks.specs.TaskSet.{TaskSet, plain, hyperperiod, share, weight, surplus, counted, amount, needed, raise, ceiling, row}
use Rattle.wishes.specs.Wish.{with_offsets, largest_offset, at_slack, wished, passes, no_solution}

module _ (s : TaskSet) where
  raise-plain : (x : List ℕ) → raise (at_slack (plain s) (row x)) x ≡ raise (at_slack s (row x)) x
  unfolding plain at_slack with_offsets largest_offset hyperperiod share weight surplus counted amount needed raise
  raise-plain x = refl

  pub plain-wished : wished (plain s) ≡ wished s
  unfolding plain wished
  plain-wished =
      ap (λ (g : List ℕ → List ℕ). settle g s.count (suc (s.count * ceiling)) (replicate s.count 0)) (fun_ext raise-plain)

  pub plain-none : no_solution (plain s) ≡ no_solution s
  unfolding no_solution passes plain
  plain-none = rw plain-wished
