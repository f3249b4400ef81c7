-- Test 13 of a plan, and how the test of a plan is put together.
--     bounds_of      13 of a plan's tasks with this slack
--     found_tests    12 and 13 of a plan marked as found, against this found slack
use Rattle.std.specs.Prelude.{List, ℕ}
use Rattle.tasks.specs.declared.Plan.{Plan}
use Rattle.tasks.specs.Answer.{Answer}
use Rattle.tasks.specs.TaskSet.{row}
use Rattle.tasks.specs.Content.{content_of}
use Rattle.tasks.specs.Tests.{or_next, found_test, bounds_test}

unfoldable pub bounds_of : Plan → List ℕ → Answer
bounds_of p slack = bounds_test (content_of p).tasks (row slack)

unfoldable pub found_tests : Plan → List ℕ → Answer
found_tests p found = or_next (found_test (row p.slack) (row found) p.tasks) (bounds_of p found)
