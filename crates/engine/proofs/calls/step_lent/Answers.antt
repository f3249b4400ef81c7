-- `engine::calls::step_lent` meets its contract.
use Rattle.state.proofs.CallLaws.{step-passed, step-refused, step-taken}
use mathlib.Core.Path.{sym, ◌∙◌}
use Rattle.engine.proofs.calls.step_lent.Goals as goal

pub returns-in_default : goal.returns-in_default
returns-in_default c = step-refused c.args.state.now _ _ _ c.step_test-answer.ensures c.in_default.is

pub tick-requires : goal.tick-requires
tick-requires c =
    let a = c in
    let s = a.args.state.now in
    let p = step-passed s (sym c.step_test-answer.ensures ∙ c.in-Ok.is) in
    ((s.released, s.last, record { shape = c.requires; sound = p.0 }), p.1)

pub returns : goal.returns
returns c =
    let s = c.args.state.now in
    let t = c.tick.ensures in
    let p = step-passed s (sym c.step_test-answer.ensures ∙ c.in-Ok.is) in
    let ran = t.ticked s.released s.last (record { shape = c.requires; sound = p.0 }) in
    step-taken s _ _ c.step_test-answer.ensures c.in-Ok.is (rw (t.rest, c.in-Ok.is) ran)
