-- `dahomike_engine::stepped` meets its contract.
use mathlib.Core.Path.{◌≡◌, ap, sym, ◌∙◌}
use mathlib.Core.List.{[]}
use Rattle.std.specs.Prelude.{Err}
use Rattle.dahomike_answer.specs.Number.{answer_number, told_number}
use Rattle.tasks.specs.Answer.{Answer}
use Rattle.state.specs.declared.Stepped.{Stepped}
use Rattle.tasks.specs.TaskSet.{row}
use Rattle.engine_lent.specs.LentLaws.{fields_from, step-answer}
use Rattle.engine_lent.proofs.DoneLaws.{step_misfit, step-refused, step_kept, step_done}
use Rattle.dahomike_engine.proofs.Told.{fit_told, misfit_told}
use borrow.Author.Rules.{rules}
use Rattle.dahomike_engine.proofs.stepped.Goals as goal

pub returns-in_err-fitting : goal.returns-in_err-fitting
returns-in_err-fitting c =
    let q = c.in_err-fitting.field-0.0 in
    let e : c.from_residual.result ≡ Err q = search rules in
    let m = misfit_told _ q (sym c.in_err-fitting.was ∙ c.fitting.ensures) in
    step_misfit _ _ _ _ m.0 (ap told_number e ∙ m.1)

pub returns-in_err-done : goal.returns-in_err-done
unfolding row
returns-in_err-done c =
    let q = c.in_err-done.field-0.0 in
    let e : c.from_residual-in_err-done.result ≡ Err q = search rules in
    let same = fields_from _ c.plan.ensures c.jobs.ensures c.flags.ensures c.numbers.ensures c.numbers-2.ensures c.numbers-3.ensures in
    let told = ap (λ (d : Stepped). d.answer) c.step_lent-done.ensures ∙ step-answer _ in
    step-refused _ _ _ (fit_told _ (sym c.in_ok-fitting.was ∙ c.fitting.ensures)) _ same _ told q.number q.index _ c.in_err-done.was
    (ap told_number e ∙ ap (λ (b : Answer). answer_number b 0) (sym c.in_err-done.was))

pub put_rest-requires : goal.put_rest-requires
unfolding row
put_rest-requires c =
    let same = fields_from _ c.plan.ensures c.jobs.ensures c.flags.ensures c.numbers.ensures c.numbers-2.ensures c.numbers-3.ensures in
    let told = ap (λ (d : Stepped). d.answer) c.step_lent-done.ensures ∙ step-answer _ in
    step_kept _ [] [] (fit_told _ (sym c.in_ok-fitting.was ∙ c.fitting.ensures)) _ same _ told c.in_ok-done.was _ c.step_lent-done.ensures

pub returns : goal.returns
unfolding row
returns c =
    let same = fields_from _ c.plan.ensures c.jobs.ensures c.flags.ensures c.numbers.ensures c.numbers-2.ensures c.numbers-3.ensures in
    let told = ap (λ (d : Stepped). d.answer) c.step_lent-done.ensures ∙ step-answer _ in
    step_done _ _ _ (fit_told _ (sym c.in_ok-fitting.was ∙ c.fitting.ensures)) _ same _ told c.in_ok-done.was _ c.step_lent-done.ensures
    c.told-state _ c.put_rest.ensures
