-- `advance::admit` meets its contract.
use Rattle.service.specs.StepLaws.{AdmitCode, admit_code}
use Rattle.state.specs.Parts.{state_from}
use Rattle.state.specs.declared.State.{State}
use Rattle.tasks.specs.TaskSet.{row}
use mathlib.Core.Path.{◌≡◌, ◌∙◌}
use Rattle.advance.proofs.admit.Goals as goal

pub returns-clause-admitted : goal.returns-clause-admitted
unfolding row AdmitCode
returns-clause-admitted c = λ plan R.
    let a = c in
    let x = a.args in
    let s = x.state.now in
    let t = state_from plan s.clock s.jobs s.released s.last s.remaining s.release in
    let j = c.join.ensures.joined in
    let made : ◌≡◌ {A = State} (state_from plan s.clock _ _ _ _ _) (state_from plan s.clock _ _ _ _ _) =
    λ k. state_from plan s.clock (j.jobs-joined k) (j.released-joined k) (j.last-joined k) (j.work-joined k) (j.release-joined k) in
    made ∙ admit_code t R.shape R.sound x.task x.demand a.requires.0 a.requires.1
