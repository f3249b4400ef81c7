use Rattle.analysis.specs.PlanTest.{found_tests}
use Rattle.fields.specs.StageLaws.{scan-found, scan-none}
use Rattle.analysis.proofs.plan_test.found_test.Goals as goal

pub returns-then-other-tasks : goal.returns-then-other-tasks
unfolding found_tests
returns-then-other-tasks c = rw (c.at.ensures, scan-found 12 _ _ _ c.first_other-other.ensures c.if-other-tasks.true)

pub returns : goal.returns
unfolding found_tests
returns c = rw (scan-none 12 _ _ _ c.first_other-other.ensures c.if-other-tasks.false) c.plan_bounds.ensures
