-- `multiple::common_multiple` meets its contract. The loop's invariant: h is the least common multiple of the separations passed, and within
-- the limit. Once it is past the limit the whole is too, since a further separation never makes it smaller.
use Prim.Native.Nat.{ℕ, ◌≤◌}
use mathlib.Core.Path.{◌≡◌}
use mathlib.Core.List.{List}
use lib.ListN.{get_or}
use Rattle.laws.specs.Multiple.{lcm_below}
use Rattle.multiple.proofs.common_multiple.Given as goal

-- the separations as a row
abbrev pub row : List ℕ → ℕ → ℕ
row separation i = get_or separation i 0

abbrev pub invariant-loop-t : goal.invariant-loop-t
invariant-loop-t l = (l.h ≤ 1000000) × (l.h ≡ lcm_below (row l.separation) l.t-index)
