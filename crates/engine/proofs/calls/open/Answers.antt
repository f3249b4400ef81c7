-- `engine::calls::open` meets its contract.
use Rattle.state.proofs.CallLaws.{open_limits, open_refused, open_accepted}
use Rattle.state.specs.State.{state_of}
use Rattle.machine.specs.Machine.{opened}
use Rattle.tasks.specs.declared.Plan.{Plan}
use mathlib.Core.Path.{ap, sym, ◌∙◌}
use Rattle.engine.proofs.calls.open.Goals as goal

pub returns-in_default : goal.returns-in_default
returns-in_default c = open_refused c.args.plan _ c.test-answer.ensures _ _ _ c.in_default.is c.zeros-state.ensures

pub tidied-tidy-requires : goal.tidied-tidy-requires
tidied-tidy-requires c = open_limits c.args.plan (sym c.test-answer.ensures ∙ c.in-Ok.is)

pub returns : goal.returns
returns c =
    open_accepted c.args.plan _ c.test-answer.ensures _ c.in-Ok.is
    (c.empty-state.ensures ∙ ap (λ (q : Plan). state_of q opened) c.tidied-tidy.ensures)
