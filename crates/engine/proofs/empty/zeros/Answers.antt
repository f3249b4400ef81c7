-- `engine::empty::zeros` meets its contract.
use Rattle.state.proofs.CallLaws.{zero_empty}
use Rattle.machine.specs.Machine.{opened}
use Rattle.state.specs.State.{state_of}
use Rattle.tasks.specs.declared.Plan.{Plan}
use mathlib.Core.Path.{sym, ap, ◌∙◌}
use Rattle.engine.proofs.empty.zeros.Goals as goal

pub returns : goal.returns
returns c = c.empty.ensures ∙ ap (λ (p : Plan). state_of p opened) c.no_plan.ensures ∙ sym zero_empty
