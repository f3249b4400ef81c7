-- `logs::read::first_late` meets its contract. The loop's invariant: no tick before entry e is too large.
use mathlib.Core.Path.{◌≡◌}
use lib.Dec.{ltb}
use Rattle.laws.specs.First.{first}
use Rattle.logs.specs.LogBytes.{entry_in}
use Rattle.logs.proofs.read.first_late.Given as goal

abbrev pub invariant-loop-e : goal.invariant-loop-e
invariant-loop-e l = first (λ i. ltb 1000000000 (entry_in l.log i).tick) l.e ≡ l.e
