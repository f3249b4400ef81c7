-- What a release of a loop is answered, as its code tests it.
--     admission      21 to 23 by the numbers of one loop
use Rattle.std.specs.Prelude.{ℕ, Bool}
use Rattle.tasks.specs.Answer.{Answer}
use Rattle.machine.specs.Admission.{join_tests}
use Rattle.state.specs.State.{last_of}

-- 21, 22 and 23 of a loop, with its last taken release by flag and tick as a state keeps it
unfoldable pub admission : ℕ → ℕ → ℕ → ℕ → ℕ → Bool → ℕ → Answer
admission T C t c n flag last = join_tests T C t c n (last_of flag last)
