-- `dahomike::dahomike_wish` meets its contract.
use mathlib.Core.Path.{◌∙◌}
use Rattle.dahomike.proofs.AnswerLaws.{wish_plan, wish_answered}
use Rattle.dahomike.proofs.dahomike_wish.Goals as goal

pub answered-requires : goal.answered-requires
answered-requires c = λ a. (_, wish_plan _ _ c.wish-wished.ensures a)

pub returns : goal.returns
returns c =
    let e = c.answered.ensures in
    wish_answered _ _ c.wish-wished.ensures c.args.out.now _ _ (c.answer.ensures ∙ e.0, e.1)
