-- `analysis::plan_test::plan_bounds` meets its contract.
use Rattle.analysis.specs.PlanTest.{bounds_of}
use Rattle.analysis.proofs.plan_test.plan_bounds.Goals as goal

pub returns : goal.returns
unfolding bounds_of
returns c = c.bounds.ensures
