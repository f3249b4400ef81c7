-- `clauses::used_places` meets its contract; the loop's invariant says what its turns so far have made.
use Rattle.clauses.specs.SoundTests.{place_in, least_at}
use Rattle.state.specs.SoundState.{all_of}
use mathlib.Core.Bool.{true}
use mathlib.Core.Path.{◌≡◌}
use Rattle.clauses.proofs.used_places.Given as goal

abbrev pub invariant-loop-p : goal.invariant-loop-p
invariant-loop-p l = (all_of (place_in l.task.separation l.task.budget l.state.clock l.jobs l.state.release l.state.remaining l.i) l.p ≡ true) × (l.least ≡ least_at l.task.separation l.state.release l.i l.p)
