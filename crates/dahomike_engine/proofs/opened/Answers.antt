-- `dahomike_engine::opened` meets its contract.
use mathlib.Core.Path.{◌≡◌, ap, sym, ◌∙◌}
use Rattle.std.specs.Prelude.{Err}
use Rattle.dahomike_answer.specs.Number.{answer_number, told_number}
use Rattle.tasks.specs.Answer.{Answer}
use mathlib.Core.List.{[]}
use Rattle.engine_lent.proofs.DoneLaws.{open_refused, open_cores, open_tasks, open_jobs, open_done}
use borrow.Author.Rules.{rules}
use Rattle.dahomike_engine.proofs.opened.Goals as goal

pub returns-in_err-judgement : goal.returns-in_err-judgement
returns-in_err-judgement c =
    let q = c.in_err-judgement.field-0.0 in
    let e : c.from_residual.result ≡ Err q = search rules in
    open_refused _ _ c.judge-judgement.ensures _ q.number q.index _ c.in_err-judgement.was
    (ap told_number e ∙ ap (λ (b : Answer). answer_number b 0) (sym c.in_err-judgement.was))

pub put_state-requires : goal.put_state-requires
put_state-requires c = (
  open_cores _ _ c.judge-judgement.ensures [] c.in_ok-judgement.was _ c.open-opened.ensures,
  open_tasks _ _ c.judge-judgement.ensures [] c.in_ok-judgement.was _ c.open-opened.ensures,
  open_jobs _ _ c.judge-judgement.ensures [] c.in_ok-judgement.was _ c.open-opened.ensures,
)

pub returns : goal.returns
returns c =
    open_done _ _ c.judge-judgement.ensures _ c.in_ok-judgement.was _ c.open-opened.ensures _ c.put_state.ensures
