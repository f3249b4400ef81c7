-- `clauses::labels_zero` meets its contract; the loop's invariant says what its turns so far have made.
use Rattle.clauses.specs.SoundTests.{label_zero}
use Rattle.state.specs.SoundState.{all_of}
use mathlib.Core.Bool.{true}
use mathlib.Core.Path.{◌≡◌}
use Rattle.clauses.proofs.labels_zero.Given as goal

abbrev pub invariant-loop-i : goal.invariant-loop-i
invariant-loop-i l = all_of (label_zero l.plan.cores l.plan.labels) l.i ≡ true
