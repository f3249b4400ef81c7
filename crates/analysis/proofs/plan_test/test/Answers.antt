-- `analysis::plan_test::test` meets its contract: 1, and then the tests of what the plan says.
use mathlib.Core.Bool.{true, false}
use mathlib.Core.Path.{◌≡◌, sym, ◌∙◌}
use Rattle.tasks.specs.declared.Plan.{Plan}
use Rattle.tasks.specs.Answer.{Answer, Refused}
use Rattle.tasks.specs.Content.{content_of}
use Rattle.tasks.specs.Tests.{bad_edition, tests, test_plan}
use Rattle.analysis.proofs.plan_test.test.Goals as goal

module _ (p : Plan) where
  unknown : bad_edition p.edition ≡ true → Refused 1 0 ≡ test_plan p
  unfolding test_plan
  unknown e = rw e

  known : (a : Answer) → bad_edition p.edition ≡ false → a ≡ tests (content_of p) → a ≡ test_plan p
  unfolding test_plan
  known a e q = rw e q

pub returns-then-is_unknown : goal.returns-then-is_unknown
returns-then-is_unknown c = rw c.at.ensures (unknown c.args.plan (sym c.is_unknown.ensures ∙ c.if-is_unknown.true))

pub returns : goal.returns
returns c = known c.args.plan _ (sym c.is_unknown.ensures ∙ c.if-is_unknown.false) c.test_entries.ensures
