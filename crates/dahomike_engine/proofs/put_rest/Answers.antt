-- `dahomike_engine::put_rest` meets its contract.
use Rattle.engine_words.specs.Words.{machine_words}
use Rattle.state.specs.State.{flag_at}
use Rattle.dahomike_engine.proofs.put_rest.Goals as goal

pub returns : goal.returns
unfolding machine_words flag_at
returns c = c.put_machine.ensures
