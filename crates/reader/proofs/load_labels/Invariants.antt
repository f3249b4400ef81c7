-- `reader::load_labels` meets its contract. The loop's invariant: the array is filled up to i, and holds zeros after it.
use Prim.Native.Nat.{◌+◌}
use mathlib.Core.Path.{◌≡◌}
use Rattle.laws.specs.Tab.{tab, cut}
use Rattle.numbers.specs.Bytes.{byte}
use Rattle.reader.proofs.load_labels.Given as goal

abbrev pub invariant-loop-i : goal.invariant-loop-i
invariant-loop-i l = l.labels ≡ tab (cut l.i (λ j. byte l.t (2 + j)) 0) 8
