-- `clauses::places` meets its contract; the loop's invariant says what its turns so far have made.
use Rattle.clauses.specs.SoundTests.{place_holds}
use Rattle.state.specs.SoundState.{all_of}
use mathlib.Core.Bool.{true}
use Prim.Native.Nat.{◌*◌}
use mathlib.Core.Path.{◌≡◌}
use Rattle.clauses.proofs.places.Given as goal

abbrev pub invariant-loop-i : goal.invariant-loop-i
invariant-loop-i l = all_of (place_holds l.state.plan.task l.state.clock l.state.jobs l.state.release l.state.remaining) (16 * l.i) ≡ true
