-- `test_cases::run`: after each line the lengths of the world's table and log are within their bytes.
use Rattle.test_world.specs.Worlds.{BothWithin}
use Rattle.test_cases.proofs.run.Given as goal

abbrev pub invariant-loop-line : goal.invariant-loop-line
invariant-loop-line l = BothWithin l.world
