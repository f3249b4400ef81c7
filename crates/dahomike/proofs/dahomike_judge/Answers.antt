-- `dahomike::dahomike_judge` meets its contract.
use mathlib.Core.Path.{◌∙◌}
use Rattle.dahomike.proofs.AnswerLaws.{judge_plan, judge_answered}
use Rattle.dahomike.proofs.dahomike_judge.Goals as goal

pub answered-requires : goal.answered-requires
answered-requires c = λ a. (_, judge_plan _ _ c.judge-judgement.ensures a)

pub returns : goal.returns
returns c =
    let e = c.answered.ensures in
    judge_answered _ _ c.judge-judgement.ensures c.args.out.now _ _ (c.answer.ensures ∙ e.0, e.1)
