-- `service::serve` meets its contract; the loop's invariant says what its turns so far have made.
use Rattle.service.specs.CodeLaws.{turns-none, turns_more}
use Rattle.service.specs.RestLaws.{turns-rest}
use Rattle.service.specs.Serve.{Arrays}
use Rattle.tasks.specs.TaskSet.{row}
use native.Mathlib.Omega.{arith}
use mathlib.Core.Path.{◌≡◌, refl}
use Rattle.std.proofs.Common.{rules}
use Rattle.service.proofs.serve.Goals as goal

pub loop-i-init : goal.loop-i-init
loop-i-init c = (turns-none _ _ _ _ _ _, refl)

pub loop-i-preserved : goal.loop-i-preserved
unfolding row
loop-i-preserved c =
    let l = c.loop-i in
    let a = c.args in
    (turns_more a.finish l.i a.keys.now _ _ _ _ _ _ _ _ _ l.invariant.0 c.turn.ensures.turned, search rules)

pub returns-clause-turns : goal.returns-clause-turns
returns-clause-turns c =
    let a = c in
    let l = c.loop-i in
    let s = a.args.state.now in
    let e : l.i ≡ s.plan.tasks = omega arith in
    let x : Arrays =
    record { jobs = s.jobs; work = s.remaining; release = s.release; responses = a.args.responses.now } in
    rw (turns-rest a.args.finish a.args.keys.now x s.plan.tasks a.requires.0 a.requires.1, ← e) l.invariant.0
