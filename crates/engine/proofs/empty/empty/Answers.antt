-- `engine::empty::empty` meets its contract.
use Rattle.state.proofs.CallLaws.{opened_empty}
use Rattle.engine.proofs.empty.empty.Goals as goal

pub returns : goal.returns
returns c = opened_empty _
