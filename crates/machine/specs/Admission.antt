-- Document 01, numbers 20 to 23: what a release is tested by.
--     unknown, bad_demand      what 20 and 21 test; `within` and `crowded` of Machine are what 22 and 23 test
--     join_tests               21, 22 and 23 of one loop of the table, by its numbers
--     admit_tests              20 to 23 of a release handed to a machine
use Rattle.std.specs.Prelude.{ℕ, Bool, [], ◌∷◌, length, leb}
use Rattle.std.proofs.Math.Option.{Option}
use Rattle.tasks.specs.Answer.{Answer}
use Rattle.tasks.specs.TaskSet.{TaskSet}
use Rattle.tasks.specs.Tests.{refuse, or_next, first_met, outside}
use Rattle.machine.specs.Machine.{Machine, within, crowded}

-- 20: "The loop isn't in the table."
abbrev pub unknown : TaskSet → ℕ → Bool
unknown s i = leb s.count i

-- 21: "The demand is not 1 to C."
abbrev pub bad_demand : ℕ → ℕ → Bool
bad_demand C c = outside 1 C c

-- a loop with separation T, budget C, n jobs and this last taken release, at clock t: a release with demand c
unfoldable pub join_tests : ℕ → ℕ → ℕ → ℕ → ℕ → Option ℕ → Answer
join_tests T C t c n last =
    first_met (refuse 21 (bad_demand C c) ∷ refuse 22 (within T t last) ∷ refuse 23 (crowded n) ∷ [])

-- "A step tests 18 and 19, a release 18 to 23": 18 and 19 are of a state, and these are of the machine that it stands for
unfoldable pub admit_tests : TaskSet → Machine → ℕ → ℕ → Answer
admit_tests s M i c =
    or_next (refuse 20 (unknown s i))
    (join_tests (s.task i).separation (s.task i).budget M.clock c (length (M.lane i).queue) (M.lane i).last)
