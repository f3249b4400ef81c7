-- `engine::calls::release_lent` meets its contract.
use Rattle.std.specs.Prelude.{Err}
use Rattle.state.proofs.CallLaws.{step-passed, step-tasks, admit_room, release_unsound, release_not, release-taken}
use Rattle.state.specs.declared.Released.{Released}
use Rattle.state.specs.Parts.{state_from}
use native.Mathlib.Omega.{arith}
use mathlib.Core.Path.{◌≡◌, ap, sym, ◌∙◌}
use borrow.Author.Rules.{rules}
use Rattle.engine.proofs.calls.release_lent.Goals as goal

pub returns-in_err-step_test : goal.returns-in_err-step_test
returns-in_err-step_test c =
    let a = c.args in
    let q = c.in_err-step_test.field-0.0 in
    let e : c.from_residual.result ≡ Err q = search rules in
    let w = release_unsound a.state.now a.task a.demand _ q.number q.index c.step_test.ensures c.in_err-step_test.was in
    (e ∙ sym c.in_err-step_test.was ∙ ap (λ (r : Released). r.answer) w, ap (λ (r : Released). r.state) w)

pub task_test-requires : goal.task_test-requires
task_test-requires c = step-tasks c.args.state.now (sym c.step_test.ensures ∙ c.in_ok-step_test.was)

pub returns-in_err-task_test : goal.returns-in_err-task_test
returns-in_err-task_test c =
    let a = c.args in
    let q = c.in_err-task_test.field-0.0 in
    let e : c.from_residual-in_err-task_test.result ≡ Err q = search rules in
    let w =
    release_not a.state.now a.task a.demand (sym c.step_test.ensures ∙ c.in_ok-step_test.was) _ q.number q.index c.task_test.ensures
    c.in_err-task_test.was
    in
    (e ∙ sym c.in_err-task_test.was ∙ ap (λ (r : Released). r.answer) w, ap (λ (r : Released). r.state) w)

pub admit-requires : goal.admit-requires
admit-requires c =
    let a = c.args in
    let s = a.state.now in
    let room = admit_room s a.task a.demand (sym c.task_test.ensures ∙ c.in_ok-task_test.was) in
    (omega (arith, step-tasks s (sym c.step_test.ensures ∙ c.in_ok-step_test.was), room.0), room.1)

pub returns : goal.returns
returns c =
    let a = c in
    let s = a.args.state.now in
    let p = sym c.step_test.ensures ∙ c.in_ok-step_test.was in
    let n = c.admit.new.state in
    let kept : n ≡ state_from s.plan s.clock n.jobs n.released n.last n.remaining n.release =
    λ k. state_from (c.admit.ensures.rest.0 k) (c.admit.ensures.rest.1 k) n.jobs n.released n.last n.remaining n.release in
    let w =
    release-taken s a.args.task a.args.demand p n (sym c.task_test.ensures ∙ c.in_ok-task_test.was)
    (kept ∙ c.admit.ensures.admitted s.plan (record { shape = a.requires; sound = (step-passed s p).0 }))
    in
    (ap (λ (r : Released). r.answer) w, ap (λ (r : Released). r.state) w)
