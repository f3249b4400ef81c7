-- `dahomike::run` meets its contract.
use mathlib.Core.Path.{◌≡◌, ap, ◌∙◌}
use Rattle.std.specs.Prelude.{Err}
use Rattle.dahomike_answer.specs.Number.{told_number}
use Rattle.dahomike.proofs.AnswerLaws.{run-refused, run_done}
use borrow.Author.Rules.{rules}
use Rattle.dahomike.proofs.run.Goals as goal

pub returns-in_err-ran : goal.returns-in_err-ran
returns-in_err-ran c =
    let q = c.in_err-ran.field-0.0 in
    let e : c.from_residual.result ≡ Err q = search rules in
    let r = c.run_log-ran.ensures in
    (ap told_number e ∙ run-refused c.args.table.now c.args.log.now _ _ r.0 q.number q.index c.in_err-ran.was, r.1)

pub returns : goal.returns
returns c =
    let r = c.run_log-ran.ensures in
    (run_done c.args.table.now c.args.log.now _ _ r.0 c.in_ok-ran.was, r.1)
