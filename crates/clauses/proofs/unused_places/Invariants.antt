-- `clauses::unused_places` meets its contract; the loop's invariant says what its turns so far have made.
use Rattle.clauses.specs.SoundTests.{place_in}
use Rattle.state.specs.SoundState.{all_of}
use mathlib.Core.Bool.{true}
use Prim.Native.Nat.{ℕ}
use mathlib.Core.Path.{◌≡◌}
use Rattle.clauses.proofs.unused_places.Given as goal

abbrev pub invariant-loop-p : goal.invariant-loop-p
invariant-loop-p l =
    (T C t : ℕ) → all_of (place_in T C t l.jobs l.state.release l.state.remaining l.i) l.jobs ≡ true → l.zero ≡ all_of (place_in T C t l.jobs l.state.release l.state.remaining l.i) l.p
