-- Each name's entry is its share, or 0.
use Prim.Native.Nat.{ℕ}
use mathlib.Core.List.{List, []}
use mathlib.Core.Path.{◌≡◌}
use lib.ListN.{length, take}
use Rattle.wish_gains.specs.Gains.{Gains}
use Rattle.wish_gains.proofs.count_gains.Given as goal

abbrev pub invariant-loop-name : goal.invariant-loop-name
invariant-loop-name l = (length l.gain ≡ 16)
    × ((separation room : List ℕ) → Gains l.share separation room l.slack [] l.tasks l.initial.gain
    → Gains l.share separation room l.slack (take l.many l.names) l.tasks l.gain)
