-- `fields::ranges::met` meets its contract.
use mathlib.Core.Path.{sym, ◌∙◌}
use Rattle.tasks.specs.AnswerLaws.{outside-passed}
use Rattle.fields.specs.Stages.{met_by}
use Rattle.fields.proofs.ranges.met.Goals as goal

pub returns-then-bad_separation : goal.returns-then-bad_separation
unfolding met_by
returns-then-bad_separation c = rw (c.number.ensures, sym c.bad_separation.ensures ∙ c.if-bad_separation.true)

pub returns-then-bad_budget : goal.returns-then-bad_budget
unfolding met_by
returns-then-bad_budget c = rw (c.number-then-bad_budget.ensures, sym c.bad_separation.ensures ∙ c.if-bad_separation.false, sym c.bad_budget.ensures ∙ c.if-bad_budget.true)

pub last_met-requires : goal.last_met-requires
last_met-requires c =
    (outside-passed 1 100000 _ (sym c.bad_separation.ensures ∙ c.if-bad_separation.false)).1

pub returns : goal.returns
unfolding met_by
returns c =
    rw (
      sym c.bad_separation.ensures ∙ c.if-bad_separation.false,
      sym c.bad_budget.ensures ∙ c.if-bad_budget.false,
    )
    c.last_met.ensures
