-- `reader::load_slack` meets its contract. The loop's invariant: the array is filled up to i, and holds zeros after it.
use Prim.Native.Nat.{◌+◌, ◌*◌}
use mathlib.Core.Path.{◌≡◌}
use Rattle.laws.specs.Tab.{tab, cut}
use Rattle.numbers.specs.Bytes.{number}
use Rattle.reader.proofs.load_slack.Given as goal

abbrev pub invariant-loop-i : goal.invariant-loop-i
invariant-loop-i l = l.slack ≡ tab (cut l.i (λ j. number 4 l.t (l.from + 4 * j)) 0) 16
