-- `service::serve` meets its contract; the loop's invariant says what its turns so far have made.
use Rattle.service.specs.CodeLaws.{Are}
use Rattle.service.specs.Serve.{turns}
use Rattle.state.specs.Parts.{state_from}
use mathlib.Core.Path.{◌≡◌}
use Rattle.service.proofs.serve.Given as goal

abbrev pub invariant-loop-i : goal.invariant-loop-i
invariant-loop-i l =
    Are (turns l.finish l.keys (record { jobs = l.initial.state.jobs; work = l.initial.state.remaining; release = l.initial.state.release; responses = l.initial.responses }) l.i) l.state.jobs l.state.remaining l.state.release l.responses
    × (l.state ≡ state_from l.initial.state.plan l.initial.state.clock l.state.jobs l.initial.state.released l.initial.state.last l.state.remaining l.state.release)
