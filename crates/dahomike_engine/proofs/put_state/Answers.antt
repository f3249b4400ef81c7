-- `dahomike_engine::put_state` meets its contract.
use Rattle.engine_words.proofs.StoredLaws.{state-stored}
use Rattle.dahomike_engine.proofs.put_state.Goals as goal

pub returns : goal.returns
returns c = rw (c.put_rest.ensures, c.put_plan.ensures) (state-stored _ _ c.told-words)
