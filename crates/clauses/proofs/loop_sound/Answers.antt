-- `clauses::loop_sound` meets its contract.
use Rattle.std.proofs.Common.{rules}
use Rattle.state.specs.SoundState.{loop_test}
use Rattle.clauses.proofs.loop_sound.Goals as goal

pub returns-then-last-clock : goal.returns-then-last-clock
unfolding loop_test
returns-then-last-clock c = search rules

pub returns-else-last-clock : goal.returns-else-last-clock
unfolding loop_test
returns-else-last-clock c = search rules
