-- `clauses::loops` meets its contract; the loop's invariant says what its turns so far have made.
use Rattle.clauses.specs.SoundTests.{loop_holds}
use Rattle.state.specs.SoundState.{all_of}
use mathlib.Core.Bool.{true}
use mathlib.Core.Path.{◌≡◌}
use Rattle.clauses.proofs.loops.Given as goal

abbrev pub invariant-loop-i : goal.invariant-loop-i
invariant-loop-i l = all_of (loop_holds l.state.plan.tasks l.state.clock l.state.jobs l.state.released l.state.last l.state.release) l.i ≡ true
