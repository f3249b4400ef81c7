-- `converter::convert` meets its contract: each return is a case of `Converts`.
use mathlib.Core.Path.{◌≡◌, sym, ap, ◌∙◌}
use Rattle.std.specs.Prelude.{Err}
use Rattle.writer.specs.Written.{answer_of_written, length_of_written}
use Rattle.converter.specs.ConverterLaws.{convert_unwanted, convert_refused, convert_unfit, convert_written, plan-few, converted-accepts}
use borrow.Author.Rules.{rules}
use Rattle.converter.proofs.convert.Goals as goal

pub returns-then-is_unwanted : goal.returns-then-is_unwanted
returns-then-is_unwanted c = convert_unwanted _ _ _ _ (sym c.is_unwanted.ensures ∙ c.if-is_unwanted.true) (ap Err c.at.ensures)

pub returns-in_err-judgement : goal.returns-in_err-judgement
returns-in_err-judgement c =
    let r = c.in_err-judgement.field-0.0 in
    let e : c.from_residual.result ≡ Err r = search rules in
    convert_refused _ _ (sym c.is_unwanted.ensures ∙ c.if-is_unwanted.false) _ c.judge-judgement.ensures _ c.from_residual.result r.number r.index c.in_err-judgement.was
    (ap answer_of_written e ∙ sym c.in_err-judgement.was) (ap length_of_written e)

pub test_fit-requires : goal.test_fit-requires
test_fit-requires c =
    let a = c.args in
    plan-few a.edition a.table.now (sym c.is_unwanted.ensures ∙ c.if-is_unwanted.false) _ c.judge-judgement.ensures c.in_ok-judgement.was

pub returns-in_err-test_fit : goal.returns-in_err-test_fit
returns-in_err-test_fit c =
    let r = c.in_err-test_fit.field-0.0 in
    let e : c.from_residual-in_err-test_fit.result ≡ Err r = search rules in
    convert_unfit _ _ (sym c.is_unwanted.ensures ∙ c.if-is_unwanted.false) _ c.judge-judgement.ensures c.in_ok-judgement.was _ c.from_residual-in_err-test_fit.result r.number r.index
    (sym c.test_fit.ensures ∙ c.in_err-test_fit.was) (ap answer_of_written e) (ap length_of_written e)

pub write_accepted-requires : goal.write_accepted-requires
write_accepted-requires c =
    converted-accepts _ _ (sym c.is_unwanted.ensures ∙ c.if-is_unwanted.false) _ c.judge-judgement.ensures c.in_ok-judgement.was
    (sym c.test_fit.ensures ∙ c.in_ok-test_fit.was) _ c.convert_plan.ensures

pub returns : goal.returns
returns c =
    convert_written _ _ (sym c.is_unwanted.ensures ∙ c.if-is_unwanted.false) _ c.judge-judgement.ensures c.in_ok-judgement.was
    (sym c.test_fit.ensures ∙ c.in_ok-test_fit.was) _ c.convert_plan.ensures _ c.write_accepted.result _ c.write_accepted.ensures
